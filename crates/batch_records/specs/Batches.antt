-- A batch from a C program, and its report to it.
use Rattle.std.specs.Float.Ieee.{of_bits}
use Rattle.std.specs.Prelude.{ℕ, map, get_or, unwrap_or}
use Rattle.std.specs.Float.{nan, binary64}
use Rattle.detections.specs.declared.Detection.{Detection}
use Rattle.types.specs.declared.batch.ObservationBatch3D.{ObservationBatch3D}
use Rattle.types.specs.declared.batch.ObservationAssociation.{ObservationAssociation}
use Rattle.types.specs.declared.batch.BatchReport3D.{BatchReport3D}
use Rattle.batch_records.specs.declared.PkDetection.{PkDetection}
use Rattle.batch_records.specs.declared.PkBatch.{PkBatch}
use Rattle.batch_records.specs.declared.PkAssociation.{PkAssociation}
use Rattle.batch_records.specs.declared.PkReport.{PkReport}
use Rattle.flags.specs.Flags.{velocity_of, flagged, flag, outcome_to}

unfoldable pub detection_of : PkDetection → Detection
detection_of d =
    record {
      position = d.position;
      covariance = d.covariance;
      velocity = velocity_of d.has_velocity (get_or d.velocity 0 nan) (get_or d.velocity 1 nan);
      class_label = flagged d.has_class d.class_label;
      score = flagged d.has_score d.score;
    }

unfoldable pub batch_of : PkBatch → ObservationBatch3D
batch_of b =
    record {
      sensor_id = b.sensor_id;
      sequence = b.sequence;
      timestamp = b.timestamp;
      frame_id = b.frame;
      observations = map detection_of b.detections;
      count = b.count;
    }

unfoldable pub association_to : ObservationAssociation → PkAssociation
association_to a =
    record {
      observation_index = a.observation_index;
      track_id = unwrap_or a.track_id 0;
      cost = unwrap_or a.cost (of_bits binary64 0);
      outcome = outcome_to a.outcome;
      has_track = flag a.track_id;
      has_cost = flag a.cost;
      reserved = 0;
    }

-- a report with the number of the answer
unfoldable pub report_to : ℕ → BatchReport3D → PkReport
report_to code r =
    record {
      code = code;
      sensor_id = r.sensor_id;
      timestamp = r.timestamp;
      association_count = r.association_count;
      unmatched_track_count = r.unmatched_track_count;
      associations = map association_to r.associations;
      unmatched_track_ids = r.unmatched_track_ids;
    }
