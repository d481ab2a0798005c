-- `pairing::ids_of` meets its contract: the numbers of the first i rows are laid. Assumes nothing.
use mathlib.Core.Path.{refl, ap, ◌∙◌}
use Prim.Native.Nat.{ℕ}
use mathlib.Core.List.{List}
use lib.ListN.{replicate, length-replicate}
use lib.Seq.{take_all}
use native.Mathlib.Omega.{arith}
use Rattle.lists.specs.Lay.{lay}
use Rattle.pairing.specs.declared.Row.{Row}
use Rattle.pairing.specs.Rows.{ids_of}
use Rattle.pairing.proofs.Rows.{no_row, map_lay, map_take}
use Rattle.pairing.proofs.ids_of.Goals as goal

pub loop-i-init : goal.loop-i-init
unfolding lay
loop-i-init c = (omega arith, refl)

pub loop-i-preserved : goal.loop-i-preserved
loop-i-preserved c =
    let v = c.loop-i.invariant in
    (omega arith, map_lay (λ (r : Row). r.id) c.args.rows.now (replicate 64 0) _ c.loop-i.i no_row _ (omega arith) (omega (arith, c.requires, length-replicate {A = ℕ} 64 0)) refl v.1)

pub returns : goal.returns
returns c = c.loop-i.invariant.1 ∙ ap (λ (l : List ℕ). lay l (replicate 64 0)) (map_take (λ (r : Row). r.id) c.loop-i.i c.args.rows.now) ∙ ap (λ (l : List Row). lay (ids_of l) (replicate 64 0)) (take_all c.loop-i.i c.args.rows.now (omega (arith, c.loop-i-test.false, c.loop-i.invariant.0)))
