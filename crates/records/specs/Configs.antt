-- The settings as a C program holds them, and back.
use Rattle.std.specs.Prelude.{pos, unwrap_or}
use Rattle.std.specs.Float.Ieee.{of_bits}
use Rattle.std.specs.Float.{binary64}
use Rattle.settings.specs.declared.Cartesian3DTrackerConfig.{Cartesian3DTrackerConfig}
use Rattle.records.specs.declared.config.PkSettings.{PkSettings}
use Rattle.flags.specs.Flags.{flagged, flag}

unfoldable pub settings_of : PkSettings → Cartesian3DTrackerConfig
settings_of s =
    record {
      lifecycle = s.lifecycle;
      new_track_score_threshold = flagged s.has_new_track_score_threshold s.new_track_score_threshold;
      max_contributing_sensors = s.max_contributing_sensors;
      frame_id = s.frame;
      accel_spectral_density = s.accel_spectral_density;
      initial_velocity_variance = s.initial_velocity_variance;
      gate_squared_mahalanobis = s.gate_squared_mahalanobis;
      class_prior_penalty = s.class_prior_penalty;
      recent_track_window_ns = flagged s.has_recent_track_window s.recent_track_window_ns;
      min_birth_distance_m = flagged s.has_min_birth_distance s.min_birth_distance_m;
      birth_persistence = flagged s.has_birth_persistence s.birth_persistence;
      birth_candidate_radius_m = s.birth_candidate_radius_m;
      birth_candidate_timeout_ns = s.birth_candidate_timeout_ns;
      velocity_measurement_std = flagged s.has_velocity_measurement_std s.velocity_measurement_std;
    }

unfoldable pub settings_to : Cartesian3DTrackerConfig → PkSettings
settings_to s =
    record {
      lifecycle = s.lifecycle;
      max_contributing_sensors = s.max_contributing_sensors;
      frame = s.frame_id;
      accel_spectral_density = s.accel_spectral_density;
      initial_velocity_variance = s.initial_velocity_variance;
      gate_squared_mahalanobis = s.gate_squared_mahalanobis;
      class_prior_penalty = s.class_prior_penalty;
      birth_candidate_radius_m = s.birth_candidate_radius_m;
      birth_candidate_timeout_ns = s.birth_candidate_timeout_ns;
      new_track_score_threshold = unwrap_or s.new_track_score_threshold (of_bits binary64 0);
      recent_track_window_ns = unwrap_or s.recent_track_window_ns (pos 0);
      min_birth_distance_m = unwrap_or s.min_birth_distance_m (of_bits binary64 0);
      velocity_measurement_std = unwrap_or s.velocity_measurement_std (of_bits binary64 0);
      birth_persistence = unwrap_or s.birth_persistence 0;
      has_new_track_score_threshold = flag s.new_track_score_threshold;
      has_recent_track_window = flag s.recent_track_window_ns;
      has_min_birth_distance = flag s.min_birth_distance_m;
      has_velocity_measurement_std = flag s.velocity_measurement_std;
      has_birth_persistence = flag s.birth_persistence;
    }
