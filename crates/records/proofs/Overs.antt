-- A state laid over what a C program holds is that state laid over the tracker that it means. Assumes nothing.
use Rattle.std.specs.Prelude.{pos, unwrap_or}
use mathlib.Core.Path.{◌≡◌, refl, sym, ap, ◌∙◌}
use mathlib.Core.List.{map}
use lib.ListN.{length, length-map}
use Rattle.lists.specs.Lay.{lay}
use Rattle.lists.proofs.Laying.{take_lay}
use Rattle.lists.proofs.Filling.{map_lay}
use Rattle.types.specs.declared.tracker.Cartesian3DTracker.{Cartesian3DTracker}
use Rattle.types.specs.States.{State, state_of, tracks_of, over_state}
use Rattle.types.specs.Fresh.{fresh_of}
use Rattle.types.proofs.Overs.{state_over}
use Rattle.flags.specs.Flags.{flag}
use Rattle.flags.proofs.Back.{flag_back}
use Rattle.records.specs.declared.config.PkSettings.{PkSettings}
use Rattle.records.specs.declared.tracker.PkTracker.{PkTracker}
use Rattle.records.specs.Tracks.{track_of, track_to}
use Rattle.records.specs.Configs.{settings_of}
use Rattle.records.specs.Trackers.{tracker_of, pk_over, pk_fresh, laid_over}
use Rattle.records.proofs.Back.{tracks_back}

module _ (t : PkTracker) (s : State) where
  pub tracker_over : tracker_of (pk_over t s) ≡ over_state (tracker_of t) s
  unfolding tracker_of pk_over over_state
  tracker_over = λ i. record {
    tracks = (map_lay track_of (map track_to s.tracks) t.tracks ∙ ap (λ l. lay l (map track_of t.tracks)) (tracks_back s.tracks)) i;
    track_count = length-map s.tracks track_to i;
    next_track_id = s.next;
    last_time = flag_back s.last (pos 0) i;
    sequences = lay s.sequences t.sequences;
    sequence_count = length s.sequences;
    candidates = lay s.candidates t.candidates;
    candidate_count = length s.candidates;
    config = settings_of t.settings;
  }

  pub state_over_pk : state_of (tracker_of (pk_over t s)) ≡ s
  state_over_pk = ap state_of tracker_over ∙ state_over (tracker_of t) s

  laid_whole : laid_over t (over_state (tracker_of t) s) ≡ pk_over t s
  unfolding tracker_of pk_over over_state tracks_of
  laid_whole = λ i. record {
    tracks = lay (map track_to (take_lay s.tracks (map track_of t.tracks) i)) t.tracks;
    track_count = sym (length-map s.tracks track_to) i;
    next_track_id = s.next;
    last_time = unwrap_or s.last (pos 0);
    sequences = lay s.sequences t.sequences;
    sequence_count = length s.sequences;
    candidates = lay s.candidates t.candidates;
    candidate_count = length s.candidates;
    settings = t.settings;
    has_last_time = flag s.last;
    reserved = t.reserved;
  }

  -- what the code lays over t is the state that the call gave
  pub laid_over_lem : (u : Cartesian3DTracker) → u ≡ over_state (tracker_of t) s → laid_over t u ≡ pk_over t s
  laid_over_lem u e = ap (laid_over t) e ∙ laid_whole

pub fresh_tracker : (c : PkSettings) → tracker_of (pk_fresh c) ≡ fresh_of (settings_of c)
unfolding tracker_of pk_fresh fresh_of track_of track_to
fresh_tracker c = refl
