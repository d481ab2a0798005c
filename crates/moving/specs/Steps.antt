-- A track as a time leaves it, and the tracks.
use Rattle.std.specs.Prelude.{ℤ, Float, None, Option, Some}
use Rattle.number.specs.Reply.{Reply, given, and_then}
use Rattle.lifecycle.specs.Lifecycle.{aged_of}
use Rattle.lifecycle.specs.declared.Verdict.{Verdict}
use Rattle.lifecycle.specs.declared.LifecycleConfig.{LifecycleConfig}
use Rattle.types.specs.declared.track.Track3D.{Track3D}
use Rattle.types.specs.Track.{with_lifecycle}
use Rattle.types.specs.declared.tracker.Cartesian3DTracker.{Cartesian3DTracker}
use Rattle.types.specs.States.{tracks_of, over_tracks}
use Rattle.calls.specs.Predict.{continued, moved, predicted_tracks}
use Rattle.moving.specs.declared.AgedTrack.{AgedTrack}

abbrev pub aged_with : Track3D → Verdict → AgedTrack
aged_with t v = record { track = t; verdict = v }

-- 01: "The small lifecycle record is updated where the track keeps it."
unfoldable pub aged_track : Track3D → ℤ → LifecycleConfig → AgedTrack
aged_track t at life = aged_with (with_lifecycle (aged_of t.lifecycle at life).lifecycle t) (aged_of t.lifecycle at life).verdict

-- 01, Predict: "for each track that the lifecycle keeps": none where it drops the track, and the track at the time where it keeps it
abbrev pub carried_on : Float → ℤ → Option Track3D → Reply (Option Track3D)
carried_on q now None = given None
carried_on q now (Some t) = and_then (moved q now t) (λ u. given (Some u))

unfoldable pub carried : LifecycleConfig → Float → ℤ → Track3D → Reply (Option Track3D)
carried life q now t = carried_on q now (continued life now t)

-- the tracker with its tracks at a time; what stands behind their count is as it was
unfoldable pub moved_tracks : Cartesian3DTracker → ℤ → Reply Cartesian3DTracker
moved_tracks s now = and_then (predicted_tracks s.config now (tracks_of s)) (λ ts. given (over_tracks s ts))

abbrev pub with_time : ℤ → Cartesian3DTracker → Cartesian3DTracker
with_time now s =
    record {
      tracks = s.tracks;
      track_count = s.track_count;
      next_track_id = s.next_track_id;
      last_time = Some now;
      sequences = s.sequences;
      sequence_count = s.sequence_count;
      candidates = s.candidates;
      candidate_count = s.candidate_count;
      config = s.config;
    }
