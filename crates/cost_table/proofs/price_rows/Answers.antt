-- `cost_table::price_rows` meets its contract: the rows of the first i tracks are laid in front. Assumes nothing.
use Rattle.std.proofs.lemmas.Result.{err_from_is_err_and}
use mathlib.Core.Path.{◌≡◌, sym, ap}
use Prim.Native.Nat.{ℕ, ◌*◌}
use lib.ListN.{length}
use native.Mathlib.Omega.{arith}
use Rattle.pairing.proofs.Rows.{no_row}
use Rattle.sightings.specs.declared.Sightings.{Sightings}
use Rattle.sightings.specs.Laid.{sights_of}
use Rattle.sightings.proofs.Sights.{sights_long}
use Rattle.cost_table.proofs.Tabling.{tabling_none, table_more, table_stops, table_all}
use Rattle.cost_table.proofs.price_rows.Goals as goal

pub loop-i-init : goal.loop-i-init
loop-i-init c = (omega arith, tabling_none _ _ _ _)

-- a row has a place for each detection
start_of : (laid : Sightings) (i : ℕ) → i * laid.count ≡ i * length (sights_of laid)
start_of laid i = ap (λ (k : ℕ). i * k) (sym (sights_long laid))

pub loop-i-preserved : goal.loop-i-preserved
loop-i-preserved c =
    let a = c.args in
    let v = c.loop-i.invariant in
    let h = c.loop-i-test.true in
    (omega arith, table_more _ _ _ _ c.loop-i.i _ _ _ no_row v.1 (start_of a.laid.now c.loop-i.i) c.price_row.result h c.in_ok-price_row.was c.price_row.ensures)

pub returns-in_err-price_row : goal.returns-in_err-price_row
returns-in_err-price_row c =
    let a = c.args in
    let v = c.loop-i.invariant in
    let h = c.loop-i-test.true in
    let p = err_from_is_err_and c.from_residual.result c.from_residual.ensures.1 in
    rw (p.1, p.2)
    (table_stops _ _ _ _ c.loop-i.i _ _ _ no_row v.1 (start_of a.laid.now c.loop-i.i) c.price_row.result _ h c.in_err-price_row.was c.price_row.ensures)

pub returns : goal.returns
returns c = table_all _ _ _ _ c.loop-i.i _ (omega (arith, c.loop-i-test.false, c.loop-i.invariant.0)) c.loop-i.invariant.1
