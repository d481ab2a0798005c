-- What goes to a C program comes back as it was. Assumes nothing.
use Rattle.std.specs.Float.{binary64}
use Rattle.std.specs.Float.Ieee.{of_bits}
use Rattle.std.specs.Prelude.{pos}
use mathlib.Core.Path.{◌≡◌, refl}
use mathlib.Core.List.{List, [], ◌∷◌, map}
use Rattle.settings.specs.declared.Cartesian3DTrackerConfig.{Cartesian3DTrackerConfig}
use Rattle.types.specs.declared.track.Track3D.{Track3D}
use Rattle.flags.proofs.Back.{flag_back, prior_back, mark_back, life_back}
use Rattle.records.specs.Tracks.{track_of, track_to}
use Rattle.records.specs.Configs.{settings_of, settings_to}

pub track_back : (t : Track3D) → track_of (track_to t) ≡ t
unfolding track_of track_to
track_back t = λ i. record {
  id = t.id;
  filter = t.filter;
  lifecycle = record {
    state = life_back t.lifecycle.state i;
    created_at = t.lifecycle.created_at;
    last_observation = flag_back t.lifecycle.last_observation (pos 0) i;
    last_counted = flag_back t.lifecycle.last_counted (pos 0) i;
    observation_times = t.lifecycle.observation_times;
  };
  class_label = flag_back t.class_label 0 i;
  class_prior = prior_back t.class_prior i;
  state_timestamp = t.state_timestamp;
  last_update_sensor = flag_back t.last_update_sensor 0 i;
  contributing_sensors = t.contributing_sensors;
  updated_this_batch = mark_back t.updated_this_batch i;
}

pub tracks_back : (l : List Track3D) → map track_of (map track_to l) ≡ l
tracks_back [] = refl
tracks_back (t ∷ l) = λ i. track_back t i ∷ tracks_back l i

pub settings_back : (s : Cartesian3DTrackerConfig) → settings_of (settings_to s) ≡ s
unfolding settings_of settings_to
settings_back s = λ i. record {
  lifecycle = s.lifecycle;
  new_track_score_threshold = flag_back s.new_track_score_threshold (of_bits binary64 0) i;
  max_contributing_sensors = s.max_contributing_sensors;
  frame_id = s.frame_id;
  accel_spectral_density = s.accel_spectral_density;
  initial_velocity_variance = s.initial_velocity_variance;
  gate_squared_mahalanobis = s.gate_squared_mahalanobis;
  class_prior_penalty = s.class_prior_penalty;
  recent_track_window_ns = flag_back s.recent_track_window_ns (pos 0) i;
  min_birth_distance_m = flag_back s.min_birth_distance_m (of_bits binary64 0) i;
  birth_persistence = flag_back s.birth_persistence 0 i;
  birth_candidate_radius_m = s.birth_candidate_radius_m;
  birth_candidate_timeout_ns = s.birth_candidate_timeout_ns;
  velocity_measurement_std = flag_back s.velocity_measurement_std (of_bits binary64 0) i;
}
