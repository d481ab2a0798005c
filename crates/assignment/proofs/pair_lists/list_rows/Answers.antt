use native.Mathlib.Omega.{arith}
use mathlib.Core.Path.{◌≡◌, sym, ◌∙◌}
use lib.ListN.{take}
use Rattle.assignment.proofs.Listings.{found, listing_none, listing_pair, listing_free, listing_done}
use Rattle.assignment.proofs.pair_lists.list_rows.Goals as goal

pub loop-i-init : goal.loop-i-init
loop-i-init c = (omega arith, listing_none _ _ _ _ _ c.requires.2 c.requires.3 c.requires.4)

pub loop-i-preserved-in-Some : goal.loop-i-preserved-in-Some
loop-i-preserved-in-Some c = (omega arith, listing_pair _ _ _ _ _ _ _ _ c.requires.0 c.loop-i-test.true c.loop-i.invariant.1 _ (found c.loop-i.i (omega (arith, c.requires.0, c.loop-i-test.true)) (take c.args.columns c.args.takers.now) ∙ sym c.column_of.ensures ∙ c.in-Some.is))

pub loop-i-preserved : goal.loop-i-preserved
loop-i-preserved c = (omega arith, listing_free _ _ _ _ _ _ _ _ c.requires.0 c.loop-i-test.true c.loop-i.invariant.1 (found c.loop-i.i (omega (arith, c.requires.0, c.loop-i-test.true)) (take c.args.columns c.args.takers.now) ∙ sym c.column_of.ensures ∙ c.in-None.is))

pub returns : goal.returns
returns c = let e : c.loop-i.i ≡ c.args.rows = omega (arith, c.loop-i-test.false, c.loop-i.invariant.0) in listing_done _ _ _ _ _ _ _ (rw e at c.loop-i.invariant.1)
