-- One part of a track changed, and what is shown of it.
use Rattle.detections.specs.declared.pairs.ClassPrior.{ClassPrior}
use Rattle.std.specs.Prelude.{Bool, [], ◌∷◌, ℤ, get_or, Option, ℕ}
use Rattle.std.specs.Float.{nan}
use Rattle.filter.specs.declared.KalmanFilter.{KalmanFilter}
use Rattle.lifecycle.specs.declared.TrackLifecycle.{TrackLifecycle}
use Rattle.lifecycle.specs.declared.sensors.Sensors.{Sensors}
use Rattle.types.specs.declared.track.Track3D.{Track3D}
use Rattle.types.specs.declared.track.Track3DSnapshot.{Track3DSnapshot}

-- The one place that builds a track anew: what calls may change, and the rest as x has it.
abbrev pub rebuilt : KalmanFilter → TrackLifecycle → Option ℕ → Option ClassPrior → ℤ → Option ℕ → Sensors → Bool → Track3D → Track3D
rebuilt filter life label prior time last sensors mark x =
    record {
      id = x.id;
      filter = filter;
      lifecycle = life;
      class_label = label;
      class_prior = prior;
      state_timestamp = time;
      last_update_sensor = last;
      contributing_sensors = sensors;
      updated_this_batch = mark;
    }

abbrev pub with_filter : KalmanFilter → Track3D → Track3D
with_filter f x = rebuilt f x.lifecycle x.class_label x.class_prior x.state_timestamp x.last_update_sensor x.contributing_sensors x.updated_this_batch x

abbrev pub with_lifecycle : TrackLifecycle → Track3D → Track3D
with_lifecycle l x = rebuilt x.filter l x.class_label x.class_prior x.state_timestamp x.last_update_sensor x.contributing_sensors x.updated_this_batch x

abbrev pub with_label : Option ℕ → Track3D → Track3D
with_label label x = rebuilt x.filter x.lifecycle label x.class_prior x.state_timestamp x.last_update_sensor x.contributing_sensors x.updated_this_batch x

abbrev pub with_prior : Option ClassPrior → Track3D → Track3D
with_prior prior x = rebuilt x.filter x.lifecycle x.class_label prior x.state_timestamp x.last_update_sensor x.contributing_sensors x.updated_this_batch x

abbrev pub with_timestamp : ℤ → Track3D → Track3D
with_timestamp time x = rebuilt x.filter x.lifecycle x.class_label x.class_prior time x.last_update_sensor x.contributing_sensors x.updated_this_batch x

-- the sensor of the latest update, and all that contributed
abbrev pub with_sensors : Option ℕ → Sensors → Track3D → Track3D
with_sensors last sensors x = rebuilt x.filter x.lifecycle x.class_label x.class_prior x.state_timestamp last sensors x.updated_this_batch x

abbrev pub with_mark : Bool → Track3D → Track3D
with_mark mark x = rebuilt x.filter x.lifecycle x.class_label x.class_prior x.state_timestamp x.last_update_sensor x.contributing_sensors mark x

-- the Rust's snapshot_of: position and velocity are the halves of the state
abbrev pub snapshot_of : Track3D → Track3DSnapshot
snapshot_of x =
    record {
      track_id = x.id;
      lifecycle = x.lifecycle.state;
      state_timestamp = x.state_timestamp;
      last_observation_timestamp = x.lifecycle.last_observation;
      last_update_sensor = x.last_update_sensor;
      contributing_sensors = x.contributing_sensors;
      class_label = x.class_label;
      class_prior = x.class_prior;
      updated_in_last_batch = x.updated_this_batch;
      observation_times_count = x.lifecycle.observation_times;
      position = get_or x.filter.state 0 nan ∷ get_or x.filter.state 1 nan ∷ get_or x.filter.state 2 nan ∷ [];
      velocity = get_or x.filter.state 3 nan ∷ get_or x.filter.state 4 nan ∷ get_or x.filter.state 5 nan ∷ [];
      state = x.filter.state;
      covariance = x.filter.covariance;
    }
