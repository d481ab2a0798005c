-- The settings that hold where nothing is set, and the fields that are checked, in 01's order.
use Rattle.std.specs.Prelude.{ℕ, false, List, [], ◌∷◌, ltb, eqb, pos, Float, Err, None, Ok, Result, Some}
use Rattle.std.specs.Int.Signed.{lt_z}
use Rattle.std.specs.Float.{binary64}
use Rattle.std.specs.Float.Ieee.{round}
use Rattle.lifecycle.specs.declared.LifecycleConfig.{LifecycleConfig}
use Rattle.settings.specs.declared.Cartesian3DTrackerConfig.{Cartesian3DTrackerConfig}
use Rattle.settings.specs.declared.bad_field.BadField.{BadField}
use Rattle.settings.specs.Optional.{set_and}
use Rattle.settings.specs.Frame.{world_frame, too_long}
use Rattle.settings.specs.Fields.{Field, field, first_bad, SettingsReply, accepted, refused, number_of_field, negative_number, not_positive_number, outside_unit, not_positive_time, below_two}

-- ---- defaults: the Rust's; 01: "the gate's is 16.266"

-- the double nearest n / d
abbrev pub decimal : ℕ → ℕ → Float
decimal n d = round binary64 false n d

abbrev pub default_lifecycle : LifecycleConfig
default_lifecycle =
    record {
      confirm_min_observation_times = 2;
      tentative_timeout_ns = pos 1000000000;
      confirmed_to_lost_ns = pos 500000000;
      lost_to_delete_ns = pos 2000000000;
    }

unfoldable pub default_settings : Cartesian3DTrackerConfig
default_settings =
    record {
      lifecycle = default_lifecycle;
      new_track_score_threshold = Some (decimal 3 10);
      max_contributing_sensors = 16;
      frame_id = world_frame;
      accel_spectral_density = decimal 1 1;
      initial_velocity_variance = decimal 4 1;
      gate_squared_mahalanobis = decimal 16266 1000;
      class_prior_penalty = decimal 8 1;
      recent_track_window_ns = None;
      min_birth_distance_m = None;
      birth_persistence = None;
      birth_candidate_radius_m = decimal 1 2;
      birth_candidate_timeout_ns = pos 300000000;
      velocity_measurement_std = None;
    }

-- ---- the check

-- each with its number, in 01's order
unfoldable pub fields_of : Cartesian3DTrackerConfig → List Field
fields_of c =
    field 1 (not_positive_time c.lifecycle.tentative_timeout_ns)
    ∷ field 2 (not_positive_time c.lifecycle.confirmed_to_lost_ns)
    ∷ field 3 (lt_z c.lifecycle.lost_to_delete_ns c.lifecycle.confirmed_to_lost_ns)
    ∷ field 4 (eqb c.max_contributing_sensors 0)
    ∷ field 5 (set_and outside_unit c.new_track_score_threshold)
    ∷ field 6 (negative_number c.accel_spectral_density)
    ∷ field 7 (not_positive_number c.initial_velocity_variance)
    ∷ field 8 (not_positive_number c.gate_squared_mahalanobis)
    ∷ field 9 (negative_number c.class_prior_penalty)
    ∷ field 10 (set_and not_positive_number c.min_birth_distance_m)
    ∷ field 11 (set_and below_two c.birth_persistence)
    ∷ field 12 (not_positive_number c.birth_candidate_radius_m)
    ∷ field 13 (not_positive_time c.birth_candidate_timeout_ns)
    ∷ field 14 (set_and not_positive_number c.velocity_measurement_std)
    ∷ field 15 (set_and not_positive_time c.recent_track_window_ns)
    ∷ field 16 (too_long c.frame_id)
    ∷ field 17 (ltb 16 c.max_contributing_sensors)
    ∷ []

unfoldable pub settings_reply : Cartesian3DTrackerConfig → SettingsReply
settings_reply c = first_bad (fields_of c)

-- the answer in 01's numbers
abbrev pub reply_of : Result (Unit {0}) BadField → SettingsReply
reply_of (Ok _) = accepted
reply_of (Err f) = refused 1 (number_of_field f)
