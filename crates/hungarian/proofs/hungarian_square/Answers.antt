use Rattle.std.proofs.lemmas.Result.{err_from_is_err_and}
use mathlib.Core.Path.{◌≡◌, ap}
use Prim.Native.Nat.{◌+◌, ◌<◌}
use native.Mathlib.Omega.{arith}
use lib.Ieee.{of_bits, of_fields, odd}
use Rattle.kuhn_munkres.specs.Binary64.{float}
use Rattle.kuhn_munkres.specs.Square.{entry}
use Rattle.hungarian.specs.Structs.{square_from}
use Rattle.hungarian.specs.Ends.{end_of}
use Rattle.hungarian.proofs.Rows.{row_first, begun_sane, begun_row, row_ends, went_j, went_way, row_next}
use Rattle.hungarian.proofs.hungarian_square.Goals as goal

pub loop-k-init : goal.loop-k-init
unfolding of_bits of_fields odd
loop-k-init c = let g = c in (omega arith, row_first (entry float (square_from c.args.costs.now c.args.q)) (c.args.q.rows + c.args.q.cols))

pub find_path-requires : goal.find_path-requires
find_path-requires c = let q = c.args.q in let n = q.rows + q.cols in let A = entry float (square_from c.args.costs.now q) in let i = c.loop-k.invariant.1 in let k = c.loop-k.k in let le : k < n = omega (arith, c.loop-k-test.true) in (c.requires.0, c.requires.1, c.requires.2, begun_sane A n k _ _ _ _ i le, begun_row A n k _ _ _ _ i le)

pub returns-in_err-j : goal.returns-in_err-j
returns-in_err-j c =
    let q = c.args.q in
    let n = q.rows + q.cols in
    let A = entry float (square_from c.args.costs.now q) in
    let k = c.loop-k.k in
    let p = err_from_is_err_and c.from_residual.result c.from_residual.ensures.1 in
    rw (p.1, p.2) (row_ends A n k _ _ _ _ c.loop-k.invariant.1 (omega (arith, c.loop-k-test.true)) _ _ _ _ _ _ c.in_err-j.ensures)

pub walk_back-requires : goal.walk_back-requires
walk_back-requires c = let q = c.args.q in let n = q.rows + q.cols in let A = entry float (square_from c.args.costs.now q) in let i = c.loop-k.invariant.1 in let k = c.loop-k.k in let le : k < n = omega (arith, c.loop-k-test.true) in let E = c.in_ok-j.ensures in (omega (arith, c.requires.0, c.requires.1), went_j A n k _ _ _ _ i le _ _ _ _ _ E, went_way A n k _ _ _ _ i le _ _ _ _ _ E)

pub loop-k-preserved : goal.loop-k-preserved
loop-k-preserved c = let q = c.args.q in let n = q.rows + q.cols in let A = entry float (square_from c.args.costs.now q) in let i = c.loop-k.invariant.1 in let k = c.loop-k.k in let le : k < n = omega (arith, c.loop-k-test.true) in let E = c.in_ok-j.ensures in (omega (arith, c.loop-k-test.true), rw c.walk_back.ensures (row_next A n k _ _ _ _ i le _ _ _ _ _ E))

pub returns : goal.returns
returns c = let q = c.args.q in let n = q.rows + q.cols in let A = entry float (square_from c.args.costs.now q) in let i = c.loop-k.invariant.1 in let k = c.loop-k.k in let e : k ≡ n = omega arith in rw e at (ap end_of i.is)
