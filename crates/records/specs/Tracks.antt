-- A track as a C program holds it, and back.
use Rattle.std.specs.Prelude.{pos, unwrap_or}
use Rattle.lifecycle.specs.declared.TrackLifecycle.{TrackLifecycle}
use Rattle.types.specs.declared.track.Track3D.{Track3D}
use Rattle.records.specs.declared.tracks.PkTrack.{PkTrack}
use Rattle.flags.specs.Flags.{life_of, flagged, prior_of, mark_of, life_to, flag, the_prior, the_confidence, mark_to}

abbrev pub lifecycle_of : PkTrack → TrackLifecycle
lifecycle_of t =
    record {
      state = life_of t.lifecycle;
      created_at = t.created_at;
      last_observation = flagged t.has_last_observation t.last_observation;
      last_counted = flagged t.has_last_counted t.last_counted;
      observation_times = t.observation_times;
    }

unfoldable pub track_of : PkTrack → Track3D
track_of t =
    record {
      id = t.id;
      filter = t.filter;
      lifecycle = lifecycle_of t;
      class_label = flagged t.has_class t.class_label;
      class_prior = prior_of t.has_prior t.prior_label t.prior_confidence;
      state_timestamp = t.state_timestamp;
      last_update_sensor = flagged t.has_last_sensor t.last_sensor;
      contributing_sensors = t.sensors;
      updated_this_batch = mark_of t.updated;
    }

unfoldable pub track_to : Track3D → PkTrack
track_to t =
    record {
      id = t.id;
      filter = t.filter;
      created_at = t.lifecycle.created_at;
      last_observation = unwrap_or t.lifecycle.last_observation (pos 0);
      last_counted = unwrap_or t.lifecycle.last_counted (pos 0);
      state_timestamp = t.state_timestamp;
      prior_confidence = the_confidence t.class_prior;
      sensors = t.contributing_sensors;
      lifecycle = life_to t.lifecycle.state;
      has_last_observation = flag t.lifecycle.last_observation;
      has_last_counted = flag t.lifecycle.last_counted;
      observation_times = t.lifecycle.observation_times;
      has_class = flag t.class_label;
      class_label = unwrap_or t.class_label 0;
      has_prior = flag t.class_prior;
      prior_label = the_prior t.class_prior;
      has_last_sensor = flag t.last_update_sensor;
      last_sensor = unwrap_or t.last_update_sensor 0;
      updated = mark_to t.updated_this_batch;
      reserved = 0;
    }
