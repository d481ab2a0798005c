-- What the stages of a batch answer, each on the whole tracker.
use Rattle.std.specs.Prelude.{ℕ, ◌≡◌, false, List, map, ℤ, take, Err, Ok, Option, Result}
use Rattle.number.specs.Reply.{Reply, refused, given, and_then}
use Rattle.detections.specs.declared.Detection.{Detection}
use Rattle.types.specs.declared.batch.ObservationBatch3D.{ObservationBatch3D}
use Rattle.types.specs.declared.refusal.Refusal.{Refusal}
use Rattle.types.specs.declared.tracker.Cartesian3DTracker.{Cartesian3DTracker}
use Rattle.types.specs.declared.track.Track3D.{Track3D}
use Rattle.types.specs.Track.{with_mark}
use Rattle.types.specs.Refusals.{number_of}
use Rattle.types.specs.Batches.{blank_report, whole_report}
use Rattle.types.specs.States.{State, state_with, state_of, tracks_of, sequences_of, candidates_of, over_tracks, over_state}
use Rattle.calls.specs.Predict.{predicted_tracks}
use Rattle.calls.specs.Pairing.{pair_config}
use Rattle.calls.specs.Update.{Matched, matched_with}
use Rattle.calls.specs.Process.{Done}
use Rattle.association.specs.declared.Pair.{Pair}
use Rattle.matching.specs.Stage.{takers_for, Matches}
use Rattle.association.specs.Told.{columns_from}
use Rattle.stages.specs.declared.Finished.{Finished}
use Rattle.stages.specs.declared.Matching.{Matching}
use Rattle.stages.specs.declared.Reported.{Reported}

abbrev pub refused_with : Cartesian3DTracker → Refusal → Reported
refused_with t why = record { outcome = Err why; tracker = t; report = blank_report }

-- the tracker's own state with other tracks
abbrev pub tracks_in : Cartesian3DTracker → List Track3D → State
tracks_in t l = state_with l (sequences_of t) (candidates_of t) (state_of t)

-- the whole tracker with the state that a reply gives
abbrev pub laid_over : Cartesian3DTracker → Reply State → Reply Cartesian3DTracker
laid_over t reply = and_then reply (λ s. given (over_state t s))

-- stages 2 and 3
unfoldable pub prepared_state : Cartesian3DTracker → ℤ → Reply State
prepared_state t now = and_then (predicted_tracks t.config now (tracks_of t)) (λ ts. given (tracks_in t (map (with_mark false) ts)))

-- what stages 2 to 6 hand over: the tracker with its tracks updated, the pair of each detection, the numbers of the tracks that took none
abbrev pub matched_in : Cartesian3DTracker → ObservationBatch3D → List (Option Pair) → List ℕ → ℕ → Matched
matched_in u b pairs ids n = record { tracks = tracks_of u; columns = columns_from b.count pairs b.observations; unmatched = take n ids }

-- the detections of a batch that has passed its check
abbrev pub seen_in : ObservationBatch3D → List Detection
seen_in b = take b.count b.observations

-- who takes which of them, by the tracks as u has them
abbrev pub takers_in : Cartesian3DTracker → ObservationBatch3D → Reply (List (Option ℕ))
takers_in u b = takers_for (pair_config u.config) (u.config.recent_track_window_ns) b.timestamp (tracks_of u) (seen_in b)

-- stages 4 to 6
abbrev pub match_reply : Cartesian3DTracker → ObservationBatch3D → Reply Matched
match_reply u b = matched_with u.config b.sensor_id b.timestamp (seen_in b) (tracks_of u)

abbrev pub matched_by : ObservationBatch3D → Matching → Matched
matched_by b r = matched_in r.tracker b r.paired.pairs r.paired.unmatched r.paired.unmatched_count

-- all that is handed over: the tracks updated, in the tracker that is else as it was, and what the pairing tells
pub record HandsOver (u : Cartesian3DTracker) (b : ObservationBatch3D) (r : Matching) : Type 0 where
  pub is : match_reply u b ≡ given (matched_by b r)
  pub whole : r.tracker ≡ over_tracks u (tracks_of r.tracker)
  pub pairing : Matches (pair_config u.config) (tracks_of u) (seen_in b) (takers_in u b) (Ok r.paired)

abbrev pub MatchAnswers : Cartesian3DTracker → ObservationBatch3D → Result Matching Refusal → Type 0
MatchAnswers u b (Ok r) = HandsOver u b r
MatchAnswers u b (Err why) = match_reply u b ≡ refused (number_of why)

-- stages 7 to 9, and a whole batch: the tracker and the report, by the reply of these stages
abbrev pub finished_on : Cartesian3DTracker → Reply Done → Reply Finished
finished_on u reply = and_then reply (λ d. given (record { tracker = over_state u d.state; report = whole_report d.report }))
