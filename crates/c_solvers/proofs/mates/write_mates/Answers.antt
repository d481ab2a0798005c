use native.Mathlib.Omega.{arith}
use mathlib.Core.Path.{refl, sym, ◌∙◌}
use lib.ListN.{length-set}
use Rattle.c_solvers.proofs.Walks.{walk_start, walk_hit, walk_miss, walk_end, hits_front, hit_below}
use Rattle.c_solvers.proofs.mates.write_mates.Goals as goal

pub loop-i-init : goal.loop-i-init
loop-i-init c = (omega arith, refl, λ t h. walk_start t _ _)

-- a pair that is row i's is one of the pairs
pub overflow_add-k : goal.overflow_add-k
overflow_add-k c = omega (arith, hit_below c.args.pair_rows.now c.args.count c.loop-i.k c.loop-i.i _ (c.is_next.ensures ∙ hits_front c.args.pair_rows.now c.args.count c.loop-i.k c.loop-i.i (rw c.told-pair_rows c.requires.0)) c.if-is_next.true)

pub bounds-pair_columns-k : goal.bounds-pair_columns-k
bounds-pair_columns-k c = omega (arith, hit_below c.args.pair_rows.now c.args.count c.loop-i.k c.loop-i.i _ (c.is_next.ensures ∙ hits_front c.args.pair_rows.now c.args.count c.loop-i.k c.loop-i.i (rw c.told-pair_rows c.requires.0)) c.if-is_next.true)

pub offset_bounds-pair_columns-k : goal.offset_bounds-pair_columns-k
offset_bounds-pair_columns-k c = omega (arith, hit_below c.args.pair_rows.now c.args.count c.loop-i.k c.loop-i.i _ (c.is_next.ensures ∙ hits_front c.args.pair_rows.now c.args.count c.loop-i.k c.loop-i.i (rw c.told-pair_rows c.requires.0)) c.if-is_next.true)

pub loop-i-preserved-then-is_next : goal.loop-i-preserved-then-is_next
loop-i-preserved-then-is_next c =
    (omega arith, simp length-set c.loop-i.invariant.1, λ t h. walk_hit t _ _ _ _ h _ _ _ _ c.loop-i-test.true c.requires.1 (c.loop-i.invariant.2 t h) (sym (c.is_next.ensures ∙ hits_front c.args.pair_rows.now c.args.count c.loop-i.k c.loop-i.i (rw c.told-pair_rows c.requires.0)) ∙ c.if-is_next.true) (hit_below c.args.pair_rows.now c.args.count c.loop-i.k c.loop-i.i _ (c.is_next.ensures ∙ hits_front c.args.pair_rows.now c.args.count c.loop-i.k c.loop-i.i (rw c.told-pair_rows c.requires.0)) c.if-is_next.true))

pub loop-i-preserved : goal.loop-i-preserved
loop-i-preserved c =
    (omega arith, simp length-set c.loop-i.invariant.1, λ t h. walk_miss t _ _ _ _ h _ _ _ _ c.loop-i-test.true c.requires.1 (c.loop-i.invariant.2 t h) (sym (c.is_next.ensures ∙ hits_front c.args.pair_rows.now c.args.count c.loop-i.k c.loop-i.i (rw c.told-pair_rows c.requires.0)) ∙ c.if-is_next.false))

pub returns : goal.returns
returns c = record { is = λ t h. walk_end t _ _ _ _ _ (omega (arith, c.loop-i-test.false, c.loop-i.invariant.0)) (c.loop-i.invariant.2 t h) }
