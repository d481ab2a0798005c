use mathlib.Core.Path.{refl}
use native.Mathlib.Omega.{arith}
use lib.Ieee.{of_bits, of_fields, odd}
use Rattle.kuhn_munkres.specs.Binary64.{float}
use Rattle.hungarian.specs.Passes.{two, relaxed}
use Rattle.kuhn_munkres.specs.Square.{entry}
use Rattle.hungarian.specs.Structs.{square_from}
use Rattle.hungarian.proofs.Entries.{at_table, at_own, at_far, at_col, at_off, at_zero, row_fits}
use Rattle.hungarian.proofs.relax_row.Goals as goal

pub relax_table-requires : goal.relax_table-requires
relax_table-requires c = let st = c in omega (arith, row_fits st.args.i0 st.args.q.rows st.args.q.cols st.requires.0 c.if-i0-rows.true)

pub returns-then-i0-rows : goal.returns-then-i0-rows
unfolding relaxed
returns-then-i0-rows c = let st = c in let q = st.args.q in let i = st.args.i0 in let D = square_from st.args.costs.now q in let s = two st.args.minv.now st.args.way.now in let A = entry float D i in let h = c.if-i0-rows.true in let t1 = c.relax_table.ensures A (λ k x y. at_table float D i k h y) s (refl {a = s}) in let t2 = c.relax_even.ensures A (λ k x y. at_far float D i k h (omega arith) (λ e. omega arith)) s t1 in let t3 = c.relax_even-then-i0-rows.ensures A (λ k x y. at_own float D i k h (omega arith) (omega arith)) s t2 in c.relax_even-then-i0-rows-2.ensures A (λ k x y. at_far float D i k h (omega arith) (λ e. omega arith)) s t3

pub returns-else-i0-rows : goal.returns-else-i0-rows
unfolding relaxed of_bits of_fields odd
returns-else-i0-rows c = let st = c in let q = st.args.q in let i = st.args.i0 in let D = square_from st.args.costs.now q in let s = two st.args.minv.now st.args.way.now in let A = entry float D i in let h = c.if-i0-rows.false in let t1 = c.relax_even-else-i0-rows.ensures A (λ k x y. at_off float D i k h (omega arith) (λ e. omega arith)) s (refl {a = s}) in let t2 = c.relax_even-else-i0-rows-2.ensures A (λ k x y. at_col float D i k h (omega arith) (omega arith)) s t1 in let t3 = c.relax_even-else-i0-rows-3.ensures A (λ k x y. at_off float D i k h y (λ e. omega arith)) s t2 in c.relax_even-else-i0-rows-4.ensures A (λ k x y. at_zero float D i k h (omega arith)) s t3
