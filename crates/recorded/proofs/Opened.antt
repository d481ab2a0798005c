-- Opens, by one name, every definition that the calls rest on: `unfolding opened` lets a proof compute a whole batch.
use lib.Ieee.{add, sub, mul, div, lt, le, eq, round, of_bits, of_int}
use Rattle.number.specs.Time.{duration_reply, age_of}
use Rattle.lists.specs.First.{any, first_at, first_of, change_first}
use Rattle.lists.specs.Lay.{lay}
use Rattle.lists.specs.Same.{same}
use Rattle.lists.specs.Sift.{sift}
use Rattle.lists.specs.Table.{pushed, swap_remove}
use Rattle.lifecycle.specs.Lifecycle.{next, counted_of, matured, observed, registered_of, credited_of, settled, aged_of, advanced_of}
use Rattle.lifecycle.specs.Sensors.{recorded_of}
use Rattle.settings.specs.Frame.{name_of, same_frame}
use Rattle.settings.specs.Settings.{default_settings}
use Rattle.square_root.specs.Root.{root_by, root_of, root_reply}
use Rattle.matrix.specs.Flat.{row_of, flat_of}
use Rattle.matrix.specs.Flat as flat
use Rattle.matrix.specs.Matrix.{row_times, product, times_vector, transposed, congruence, plus_vector, minus_vector, plus, minus, mean_row, symmetrized, identity}
use Rattle.finite.specs.Finite.{finite_vector, finite_matrix}
use Rattle.symmetry.specs.Symmetry.{largest_in_row, skew_row, skew, mirrored, is_symmetric}
use Rattle.symmetry.specs.Symmetry as symmetry
use Rattle.cholesky.specs.Cholesky.{column_by, pivot_root, columns_from, cholesky}
use Rattle.solving.specs.Solving.{forward, backward, solved_columns, gain_by}
use Rattle.solving.specs.Solving as solving
use Rattle.cholesky.specs.Definite.{factorable}
use Rattle.math.specs.Linalg.{entries_checked, validated, distance_reply, distance_by, squared_distance}
use Rattle.models.specs.Models.{transition, noise, selection, isotropic}
use Rattle.filter.specs.Filter.{stored, created, predicted, updated_by_position, updated_by_velocity, updated_by_checked_velocity, squared_mahalanobis, expected_of, distance_from, updated_from}
use Rattle.filter.specs.Kalman.{innovation, corrected, gained, measured_with, measured_by, measured, checked, update_reply}
use Rattle.filter.specs.Kalman as kalman
use Rattle.kuhn_munkres.specs.Assignment.{in_one, largest_of, sentinel_of, taker_of, takers_in, named, group_in, groups, pairing, takers_reply}
use Rattle.lists.specs.Masks.{left_by, count, up_from, zipped}
use Rattle.lists.specs.Each.{each, each_at}
use Rattle.kuhn_munkres.specs.Takers.{free, taken_by, both_takers}
use Rattle.kuhn_munkres.specs.Assignment as assignment
use Rattle.kuhn_munkres.specs.Groups.{relabel, relabelled, hit, hits, joined_to, join, joins, labels, is_label}
use Rattle.kuhn_munkres.specs.Square.{entry}
use Rattle.kuhn_munkres.specs.Steps.{relax, scan, shift_at, shift, mark, look, go_on, step, search, back, start, settle, fresh, enter, leave, rows}
use Rattle.lists.specs.Masks as masks
use Rattle.detections.specs.Births as distances
use Rattle.detections.specs.Detection.{detection_reply}
use Rattle.detections.specs.Pairs.{priced, gated, ruled, verdict_of}
use Rattle.types.specs.Batches.{batch_of, report_of, over_report, whole_report}
use Rattle.types.specs.Fresh.{fresh_of}
use Rattle.types.specs.States.{tracks_of, sequences_of, candidates_of, state_of, over_state}
use Rattle.tables.specs.Sequences.{last_of, noted, room_for, noted_in}
use Rattle.batches.specs.Check.{detections_reply, batch_reply}
use Rattle.calls.specs.Births.{stays, remaining, better, continued_at, within, considered, nearest_from, sighted_by, sighted_for, sighted, born_filter, born_life, born_track, spawned_by, born_if_enough, born_or_sighted, born_unless_low, confirmed_places, born_unless_taken, births_of}
use Rattle.calls.specs.Pairing.{cost_reply, cost_table, assigned, cascaded, recent, paired_in, paired}
use Rattle.calls.specs.Predict.{continued, moved_by, predicted_tracks}
use Rattle.calls.specs.Predict as prediction
use Rattle.calls.specs.Prior.{prior_reply}
use Rattle.calls.specs.Process.{associations_from, done_with, process_reply}
use Rattle.calls.specs.Process as processing
use Rattle.calls.specs.Run.{state_reply, state_after, run}
use Rattle.calls.specs.Update.{velocity_updated, filter_updated, observation_applied, updated_with, updated_by, updates, match_of, column_for, unmatched_from, matched_with, matched}
use Rattle.recorded.specs.Trace.{answer_to, trace}
use Rattle.recorded.specs.Instance.{after_calls, verdicts_on, all_forbid}

unfoldable pub opened : Unit {0}
unfolding add sub mul div lt le eq round of_bits of_int duration_reply age_of any first_at first_of change_first lay same sift pushed swap_remove counted_of matured observed registered_of credited_of next settled aged_of advanced_of recorded_of name_of same_frame default_settings root_by root_of root_reply row_of flat.rows_of flat_of row_times product times_vector transposed congruence plus_vector minus_vector plus minus mean_row symmetrized identity finite_vector finite_matrix largest_in_row symmetry.largest skew_row skew mirrored is_symmetric column_by pivot_root columns_from cholesky forward backward solving.solved solved_columns gain_by factorable entries_checked validated distance_reply distance_by squared_distance transition noise selection isotropic stored created predicted updated_by_position updated_by_velocity updated_by_checked_velocity squared_mahalanobis expected_of distance_from updated_from kalman.finished kalman.moved kalman.predict_reply innovation kalman.spread corrected gained measured_with measured_by measured checked update_reply kalman.distance_of assignment.rows_of in_one assignment.largest largest_of sentinel_of taker_of takers_in assignment.solved named group_in groups pairing takers_reply relabel relabelled hit hits joined_to join joins labels is_label entry relax scan shift_at shift mark look go_on step search back start settle fresh enter leave rows left_by masks.spread count up_from zipped distances.distance_of detection_reply priced gated ruled verdict_of batch_of report_of over_report whole_report fresh_of tracks_of sequences_of candidates_of state_of over_state last_of noted room_for noted_in detections_reply batch_reply stays remaining better continued_at within considered nearest_from sighted_by sighted_for sighted born_filter born_life born_track spawned_by born_if_enough born_or_sighted born_unless_low confirmed_places born_unless_taken births_of each each_at free taken_by both_takers cost_reply cost_table assigned cascaded recent paired_in paired continued moved_by prediction.moved predicted_tracks prediction.predict_reply prior_reply associations_from done_with processing.finished process_reply state_reply state_after run velocity_updated filter_updated observation_applied updated_with updated_by updates match_of column_for unmatched_from matched_with matched answer_to trace after_calls verdicts_on all_forbid
opened = tt
