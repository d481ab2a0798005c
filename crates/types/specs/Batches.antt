-- A batch and a report with lists in the place of arrays with a count.
use Rattle.std.specs.Prelude.{ℕ, List, ℤ, pos, length, take, replicate, None}
use Rattle.lists.specs.Lay.{lay}
use Rattle.detections.specs.declared.Detection.{Detection}
use Rattle.types.specs.declared.batch.ObservationBatch3D.{ObservationBatch3D}
use Rattle.types.specs.declared.batch.ObservationAssociation.{ObservationAssociation}
use Rattle.types.specs.declared.batch.ObservationOutcome.TheVariants.{Unmatched}
use Rattle.types.specs.declared.batch.BatchReport3D.{BatchReport3D}

-- what of a batch is a list; all else is read off the struct
pub record Batch : Type 0 where
  pub detections : List Detection

-- the detections in the first places, whatever the count says; one over 64 is refused before they are looked at
unfoldable pub batch_of : ObservationBatch3D → Batch
batch_of b = record { detections = take b.count b.observations }

pub record Report : Type 0 where
  pub time : ℤ
  pub sensor : ℕ
  pub associations : List ObservationAssociation
  pub unmatched : List ℕ

unfoldable pub report_of : BatchReport3D → Report
report_of r =
    record {
      time = r.timestamp;
      sensor = r.sensor_id;
      associations = take r.association_count r.associations;
      unmatched = take r.unmatched_track_count r.unmatched_track_ids;
    }

-- lists in the report's first places; those behind them are as they were
unfoldable pub over_report : BatchReport3D → List ObservationAssociation → List ℕ → BatchReport3D
over_report r l ids =
    record {
      timestamp = r.timestamp;
      sensor_id = r.sensor_id;
      associations = lay l r.associations;
      association_count = length l;
      unmatched_track_ids = lay ids r.unmatched_track_ids;
      unmatched_track_count = length ids;
    }

-- ---- the whole report of a call

abbrev pub blank_association : ObservationAssociation
blank_association = record { observation_index = 0; track_id = None; outcome = Unmatched; cost = None }

-- a report of nothing, of a time and a sensor
abbrev pub empty_report : ℤ → ℕ → BatchReport3D
empty_report time sensor =
    record {
      timestamp = time;
      sensor_id = sensor;
      associations = replicate 64 blank_association;
      association_count = 0;
      unmatched_track_ids = replicate 64 0;
      unmatched_track_count = 0;
    }

-- the report beside a refusal; 01 leaves it open
abbrev pub blank_report : BatchReport3D
blank_report = empty_report (pos 0) 0

-- a report with blanks behind its lists
unfoldable pub whole_report : Report → BatchReport3D
whole_report r = over_report (empty_report r.time r.sensor) r.associations r.unmatched
