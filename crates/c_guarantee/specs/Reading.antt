-- What a C program reads in the records that the calls leave: the tracks, and what a report tells.
use Rattle.std.specs.Prelude.{ℕ, cond, List, map, eqb, take, None, Option, Some}
use Rattle.lists.specs.First.{first_of}
use Rattle.types.specs.declared.batch.ObservationOutcome.{ObservationOutcome}
use Rattle.types.specs.declared.batch.ObservationOutcome.TheVariants.{Updated, Spawned, Unmatched}
use Rattle.types.specs.declared.batch.ObservationAssociation.{ObservationAssociation}
use Rattle.types.specs.Batches.{Report}
use Rattle.calls.specs.Process.{Done}
use Rattle.flags.specs.Flags.{flagged}
use Rattle.records.specs.declared.tracks.PkTrack.{PkTrack}
use Rattle.records.specs.declared.tracker.PkTracker.{PkTracker}
use Rattle.records.specs.Trackers.{pk_state}
use Rattle.batch_records.specs.declared.PkAssociation.{PkAssociation}
use Rattle.batch_records.specs.declared.PkReport.{PkReport}

-- t->tracks[0 .. t->track_count)
abbrev pub pk_tracks : PkTracker → List PkTrack
pk_tracks t = take t.track_count t.tracks

-- the record of the track of this number, with every bit of it, or none
abbrev pub track_in : ℕ → PkTracker → Option PkTrack
track_in n t = first_of (λ x. eqb n x.id) (pk_tracks t)

-- PK_UPDATED is 1, PK_SPAWNED 2, PK_UNMATCHED 0
abbrev pub outcome_of : ℕ → ObservationOutcome
outcome_of n = cond (eqb n 1) Updated (cond (eqb n 2) Spawned Unmatched)

abbrev pub associated_of : ℕ → ℕ → Option ℕ
associated_of has id = cond (eqb has 0) None (Some id)

unfoldable pub association_of : PkAssociation → ObservationAssociation
association_of a =
    record {
      observation_index = a.observation_index;
      track_id = associated_of a.has_track a.track_id;
      outcome = outcome_of a.outcome;
      cost = flagged a.has_cost a.cost;
    }

unfoldable pub report_in : PkReport → Report
report_in r =
    record {
      time = r.timestamp;
      sensor = r.sensor_id;
      associations = map association_of (take r.association_count r.associations);
      unmatched = take r.unmatched_track_count r.unmatched_track_ids;
    }

-- what a C program holds after a batch
abbrev pub done_in : PkTracker → PkReport → Done
done_in t r = record { state = pk_state t; report = report_in r }
