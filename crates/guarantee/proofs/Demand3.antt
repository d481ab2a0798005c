-- Demand 3, and that in every state that calls make the track of a number is the only one. Assumes nothing.
use Rattle.std.specs.Prelude.{Some}
use mathlib.Core.Path.{◌≡◌}
use mathlib.Core.List.{List, Memᴰ}
use Rattle.settings.specs.declared.Cartesian3DTrackerConfig.{Cartesian3DTrackerConfig}
use Rattle.types.specs.declared.track.Track3D.{Track3D}
use Rattle.types.specs.States.{State}
use Rattle.types.specs.Fresh.{fresh_state}
use Rattle.calls.specs.Numbers.{track_of, Numbered}
use Rattle.calls.specs.Run.{Call, run}
use Rattle.calls.proofs.Ascends.{below, the_track_lem}
use Rattle.calls.proofs.Numbers.{run_numbered, fresh_numbered}
use Rattle.guarantee.specs.Claim.{Demand3From, Demand3}
use Rattle.guarantee.proofs.Both.{undisturbed}

pub demand3_from : (c : Cartesian3DTrackerConfig) (s₀ : State) → Demand3From c s₀
demand3_from c s₀ h calls a b x y d p q =
    let s = run c calls s₀ in
    let n = run_numbered c calls s₀ h in
    undisturbed c s (λ t m. below t.id s.tracks s.next t n (the_track_lem s.tracks s.next t n m)) a b x y d p q

pub demand3 : Demand3
demand3 c = demand3_from c fresh_state fresh_numbered

-- the numbers ascend in every state that calls make, and each track is the one of its number
pub numbered_always : (c : Cartesian3DTrackerConfig) (calls : List Call) → Numbered (run c calls fresh_state)
numbered_always c calls = run_numbered c calls fresh_state fresh_numbered

pub one_of_a_number : (c : Cartesian3DTrackerConfig) (calls : List Call) (t : Track3D) → let s = run c calls fresh_state in Memᴰ t s.tracks → track_of t.id s.tracks ≡ Some t
one_of_a_number c calls t m = let s = run c calls fresh_state in the_track_lem s.tracks s.next t (numbered_always c calls) m
