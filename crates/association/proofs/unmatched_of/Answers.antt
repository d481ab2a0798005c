-- `association::unmatched_of` meets its contract: the unmatched ones of the first i numbers are listed. Assumes nothing.
use mathlib.Core.Path.{subst}
use mathlib.Core.List.{List, []}
use Prim.Native.Nat.{ℕ, ◌≤◌, ◌<◌}
use lib.ListN.{length, take}
use lib.Seq.{take_all}
use native.Mathlib.Omega.{arith}
use Rattle.association.specs.Told.{mate_of, unmatched_of, Listed}
use Rattle.association.proofs.Telling.{listed_none, listed_skip, listed_room, listed_take, mate_taken, mate_free}
use Rattle.association.proofs.unmatched_of.Goals as goal

pub loop-i-init : goal.loop-i-init
unfolding unmatched_of
loop-i-init c = (omega arith, listed_none)

pub loop-i-preserved-then-mates-i-lt-MAX_OBSERVATIONS : goal.loop-i-preserved-then-mates-i-lt-MAX_OBSERVATIONS
loop-i-preserved-then-mates-i-lt-MAX_OBSERVATIONS c =
    let v = c.loop-i.invariant in
    let h = c.loop-i-test.true in
    (omega arith, listed_skip _ _ c.loop-i.i h _ _ v.1 (mate_taken c.args.mates.now [] c.loop-i.i c.if-mates-i-lt-MAX_OBSERVATIONS.true))

-- there is room for one more
room : (mates ids left : List ℕ) (i count : ℕ) → length ids ≤ 64 → i < length ids → Listed (unmatched_of (mate_of mates []) 0 (take i ids)) left count → count < 64
room mates ids left i count a h v = omega (arith, listed_room (mate_of mates []) ids i h left count v)

pub loop-i-preserved : goal.loop-i-preserved
loop-i-preserved c =
    let v = c.loop-i.invariant in
    let h = c.loop-i-test.true in
    (omega arith, listed_take _ _ c.loop-i.i h _ _ (omega (arith, c.requires)) v.1 (mate_free c.args.mates.now [] c.loop-i.i c.if-mates-i-lt-MAX_OBSERVATIONS.false))

pub offset_bounds-left-count : goal.offset_bounds-left-count
offset_bounds-left-count c = omega (arith, room _ _ _ _ _ c.requires c.loop-i-test.true c.loop-i.invariant.1)

pub bounds-left-count : goal.bounds-left-count
bounds-left-count c = omega (arith, room _ _ _ _ _ c.requires c.loop-i-test.true c.loop-i.invariant.1)

pub overflow_add-count : goal.overflow_add-count
overflow_add-count c = omega (arith, room _ _ _ _ _ c.requires c.loop-i-test.true c.loop-i.invariant.1)

pub returns : goal.returns
returns c =
    subst (λ (l : List ℕ). Listed (unmatched_of (mate_of c.args.mates.now []) 0 l) c.loop-i.left c.loop-i.count)
    (take_all c.loop-i.i c.args.ids.now (omega (arith, c.loop-i-test.false, c.loop-i.invariant.0))) c.loop-i.invariant.1
