-- `process_batch_reported`. 01, Batch; the Rust's validate_batch and process_batch_inner. Its stages, with 01's refusals in their order:
--   1  the check of the batch: 11, 2, 3, 4, then per detection 5, 6, 7, then 11               batchReply (batches)
--   2  lives, and prediction of the tracks that they keep: 8, 5, 9                             predictedTracks (Predict)
--   3  marks cleared                                                                          withMark false
--   4  distances of class-compatible pairs, by track and then by detection: 7, 9               costTable (Pairing)
--   5  window ages: 8, over all tracks that are kept; the pairing: 10                         paired (Pairing)
--   6  updates in track order: the position's 7, 9, then the velocity's 5, 7, 9               updates (Update)
--   7  candidate ages: 8                                                                      remaining (Births)
--   8  births in detection order: 11, then 5, 7                                               birthsOf (Births)
--   9  the sensor's sequence, the time, the report                                            doneWith
use Rattle.std.specs.Prelude.{ℕ, suc, List, [], ◌∷◌, None, Some}
use Rattle.number.specs.Reply.{Reply, given, and_then}
use Rattle.settings.specs.declared.Cartesian3DTrackerConfig.{Cartesian3DTrackerConfig}
use Rattle.types.specs.declared.batch.ObservationBatch3D.{ObservationBatch3D}
use Rattle.types.specs.declared.batch.ObservationAssociation.{ObservationAssociation}
use Rattle.types.specs.declared.batch.ObservationOutcome.TheVariants.{Updated, Spawned, Unmatched}
use Rattle.types.specs.Batches.{batch_of, Report}
use Rattle.types.specs.States.{State, state_with}
use Rattle.tables.specs.Sequences.{noted}
use Rattle.batches.specs.Check.{batch_reply}
use Rattle.calls.specs.Predict.{at_time}
use Rattle.calls.specs.Update.{Matched, matched}
use Rattle.calls.specs.Births.{Fate, updated, spawned, unmatched, Births, remaining, with_candidates, confirmed_places, births_of}

-- the state after the batch, and its report
pub record Done : Type 0 where
  pub state : State
  pub report : Report

-- ---- the report

-- the Rust's ObservationAssociation: a cost only where a track was updated
abbrev pub association_of : ℕ → Fate → ObservationAssociation
association_of i (updated m) = record { observation_index = i; track_id = Some m.track; outcome = Updated; cost = Some m.cost }
association_of i (spawned n) = record { observation_index = i; track_id = Some n; outcome = Spawned; cost = None }
association_of i unmatched = record { observation_index = i; track_id = None; outcome = Unmatched; cost = None }

-- one for each detection, in the batch's order, numbered from i on
unfoldable pub associations_from : ℕ → List Fate → List ObservationAssociation
associations_from i [] = []
associations_from i (x ∷ l) = association_of i x ∷ associations_from (suc i) l

-- ---- the call

-- stage 9: the batch's sequence is its sensor's last, and the report tells of each detection
unfoldable pub done_with : ObservationBatch3D → Matched → Births → Done
done_with b m r =
    record {
      state = state_with r.state.tracks (noted b.sensor_id b.sequence r.state.sequences) r.state.candidates r.state;
      report = record { time = b.timestamp; sensor = b.sensor_id; associations = associations_from 0 r.fates; unmatched = m.unmatched };
    }

module _ (c : Cartesian3DTrackerConfig) (s : State) (b : ObservationBatch3D) where
  -- stages 7, 8 and 9: the births, once the candidates that are too old are gone; near a confirmed track is judged by the tracks as the updates left them
  unfoldable pub finished : Matched → Reply Done
  finished m =
      and_then (remaining c.birth_candidate_timeout_ns b.timestamp s.candidates)
      (λ l. and_then (births_of c b.sensor_id b.timestamp (confirmed_places m.tracks) m.columns (with_candidates l (at_time b.timestamp m.tracks s)))
      (λ r. given (done_with b m r)))

  -- all of them
  unfoldable pub process_reply : Reply Done
  process_reply =
      and_then (batch_reply c.frame_id s.last s.sequences b)
      (λ u. and_then (matched c b.sensor_id b.timestamp s.tracks (batch_of b).detections) finished)
