use Rattle.std.proofs.Common.{◌≡◌, rules, length, pos, []}
use Rattle.std.specs.Float.{nan}
use Rattle.lists.proofs.Laying.{length_mapped}
use Rattle.records.specs.declared.tracks.PkTrack.{PkTrack}
use Rattle.records.specs.Tracks.{track_of}
use Rattle.records.proofs.Made.{made}
use Rattle.records.proofs.tracker.tracks_of.Goals as goal

-- what code reads past the end
abbrev no_track : PkTrack
no_track =
    record {
      id = 0;
      filter = record { state = []; covariance = [] };
      created_at = pos 0;
      last_observation = pos 0;
      last_counted = pos 0;
      state_timestamp = pos 0;
      prior_confidence = nan;
      sensors = record { ids = []; count = 0 };
      lifecycle = 0;
      has_last_observation = 0;
      has_last_counted = 0;
      observation_times = 0;
      has_class = 0;
      class_label = 0;
      has_prior = 0;
      prior_label = 0;
      has_last_sensor = 0;
      last_sensor = 0;
      updated = 0;
      reserved = 0;
    }

pub returns : goal.returns
returns c =
    let t = c.args.t in
    let long : length t.tracks ≡ 64 = search (rules, length_mapped) in
    made track_of no_track _ _ 64 t.tracks _ long (λ k b y q r. (search rules, search rules)) c.from_fn.ensures.items
