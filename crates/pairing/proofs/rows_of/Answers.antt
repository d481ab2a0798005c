-- `pairing::rows_of` meets its contract: the rows of the first i tracks are laid. Assumes nothing.
use mathlib.Core.Path.{◌≡◌, sym, ap, ◌∙◌}
use mathlib.Core.List.{List, map}
use Prim.Native.Nat.{ℕ, ◌<◌}
use lib.ListN.{take, replicate, length-map, length-take, length-replicate}
use lib.Seq.{get_or-take}
use native.Mathlib.Omega.{arith}
use borrow.Author.Rules.{rules}
use Rattle.lists.specs.Lay.{lay}
use Rattle.lists.proofs.Laying.{length_mapped}
use Rattle.lists.proofs.Tables.{rows as front}
use Rattle.tables.proofs.Stores.{no_track}
use Rattle.pairing.specs.declared.Row.{Row}
use Rattle.pairing.specs.Rows.{row_of, blank_row}
use Rattle.pairing.proofs.Rows.{map_lay}
use Rattle.pairing.proofs.rows_of.Goals as goal

pub loop-i-init : goal.loop-i-init
unfolding lay
loop-i-init c = (omega (arith, c.taken-count.ensures), search (rules, length_mapped), ap (λ (b : Row). replicate 64 b) c.blank_row-rows.ensures)

pub loop-i-preserved : goal.loop-i-preserved
loop-i-preserved c =
    let v = c.loop-i.invariant in
    let l = c.args.tracks in
    let n = c.taken-count in
    let i = c.loop-i.i in
    let among : i < n.result = omega (arith, c.loop-i-test.true, length-take n.result l) in (
      v.0,
      v.1,
      map_lay row_of l (replicate 64 blank_row) _ i no_track _ (omega (arith, among, v.0, v.1)) (omega (arith, among, v.0, length-replicate {A = Row} 64 blank_row))
          (c.row_of.ensures ∙ ap row_of (get_or-take n.result l i no_track among)) v.2,
    )

pub returns : goal.returns
returns c =
    let v = c.loop-i.invariant in
    let l = c.args.tracks in
    let n = c.taken-count in
    let e : c.loop-i.i ≡ n.result = omega (arith, c.loop-i-test.false, c.loop-i.auto.i-end, length-take n.result l, v.0, v.1) in
    v.2
    ∙ ap (λ (q : List Row). lay q (replicate 64 blank_row)) (ap (λ (j : ℕ). take j (map row_of l)) e ∙ sym (front (map row_of l) 64 c.args.n n.result (length-map l row_of ∙ v.1) n.ensures))
