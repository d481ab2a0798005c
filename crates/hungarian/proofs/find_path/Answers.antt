use mathlib.Core.Path.{◌≡◌, refl, sym, ◌∙◌}
use Prim.Native.Nat.{◌+◌, ◌-◌, ◌≤◌}
use native.Mathlib.Omega.{arith}
use lib.ListN.{replicate}
use lib.Ieee.{div, of_bits, of_fields, odd}
use lib.Count.{count_trailing_zeros}
use Rattle.kuhn_munkres.specs.Binary64.{float}
use Rattle.kuhn_munkres.specs.Square.{entry}
use Rattle.hungarian.specs.Structs.{square_from}
use Rattle.hungarian.proofs.Places.{fits8}
use Rattle.hungarian.proofs.Mask.{mask}
use Rattle.hungarian.specs.Ends.{begun, none}
use Rattle.hungarian.proofs.Path.{ends}
use Rattle.hungarian.proofs.Looking.{j0_room, row_in, row_room, next_room, stopped_here, found_here, next_turn}
use Rattle.hungarian.proofs.find_path.Goals as goal

pub loop-t-init : goal.loop-t-init
unfolding div of_bits of_fields odd count_trailing_zeros mask
loop-t-init c =
    let n = c.args.q.rows + c.args.q.cols in
    let e : n + 1 - 0 ≡ n + 1 = omega arith in (
      omega arith,
      refl,
      record {
        s = begun c.args.u.now c.args.v.now c.args.p.now c.args.way.now;
        b = none;
        holds = record { m = replicate 129 float.top; is = refl; masked = refl; long = refl; way_long = c.told-way; used_long = refl };
        sane = c.requires.3;
        row = c.requires.4;
        rest = rw e;
      },
    )

pub look-b-requires : goal.look-b-requires
look-b-requires c = let i = c.loop-t.invariant.2 in (i.row, c.requires.0, c.requires.1, row_in (omega arith) i c.loop-t.j0, c.requires.2)

pub returns-then-not-is_finite : goal.returns-then-not-is_finite
unfolding div of_bits of_fields odd count_trailing_zeros
returns-then-not-is_finite c =
    let i = c.loop-t.invariant.2 in
    let le : c.loop-t.t ≤ c.args.q.rows + c.args.q.cols = omega (arith, c.loop-t-test.true) in
    let e = c.look-b.ensures in
    stopped_here (omega arith) i le e.0 e.1 (sym c.is_finite.ensures ∙ c.if-not-is_finite.true)

pub shift_all-requires : goal.shift_all-requires
shift_all-requires c = (omega arith, row_room (omega arith) c.loop-t.invariant.2)

pub returns-then-p-j0-eq0 : goal.returns-then-p-j0-eq0
unfolding div of_bits of_fields odd count_trailing_zeros
returns-then-p-j0-eq0 c =
    let i = c.loop-t.invariant.2 in
    let le : c.loop-t.t ≤ c.args.q.rows + c.args.q.cols = omega (arith, c.loop-t-test.true) in
    let e = c.look-b.ensures in
    let fine = sym c.is_finite.ensures ∙ c.if-not-is_finite.false in
    let s = c.shift_all.ensures in
    found_here (omega arith) i le e.0 e.1 fine s.0 s.1 c.if-p-j0-eq0.true

pub loop-t-preserved : goal.loop-t-preserved
unfolding div of_bits of_fields odd count_trailing_zeros
loop-t-preserved c =
    let i = c.loop-t.invariant.2 in
    let le : c.loop-t.t ≤ c.args.q.rows + c.args.q.cols = omega (arith, c.loop-t-test.true) in
    let e = c.look-b.ensures in
    let s = c.shift_all.ensures in
    (omega (arith, c.loop-t-test.true), refl, next_turn (omega arith) i le e.0 e.1 (sym c.is_finite.ensures ∙ c.if-not-is_finite.false) s.0 s.1 c.if-p-j0-eq0.false)

pub returns : goal.returns
returns c = let q = c.args.q in let i = c.loop-t.invariant.2 in ends (entry float (square_from c.args.costs.now q)) (q.rows + q.cols) _ _ _ _ _ _ _ _ _ i (omega arith)

pub bounds-p-j0 : goal.bounds-p-j0
bounds-p-j0 c = j0_room (omega arith) c.loop-t.invariant.2

pub bounds-used-j0 : goal.bounds-used-j0
bounds-used-j0 c = j0_room (omega arith) c.loop-t.invariant.2

pub bounds-minv-j0 : goal.bounds-minv-j0
bounds-minv-j0 c = j0_room (omega arith) c.loop-t.invariant.2

pub bounds-u-i0 : goal.bounds-u-i0
bounds-u-i0 c = row_room (omega arith) c.loop-t.invariant.2 c.loop-t.j0

pub offset_bounds-p-j0 : goal.offset_bounds-p-j0
offset_bounds-p-j0 c = fits8 _ (j0_room (omega arith) c.loop-t.invariant.2)

pub offset_bounds-minv-j0 : goal.offset_bounds-minv-j0
offset_bounds-minv-j0 c = fits8 _ (j0_room (omega arith) c.loop-t.invariant.2)

pub offset_bounds-u-i0 : goal.offset_bounds-u-i0
offset_bounds-u-i0 c = fits8 _ (row_room (omega arith) c.loop-t.invariant.2 c.loop-t.j0)

pub bounds-p-j0-in-loop-t : goal.bounds-p-j0-in-loop-t
unfolding div of_bits of_fields odd count_trailing_zeros
bounds-p-j0-in-loop-t c = let e = c.look-b.ensures in next_room (omega arith) c.loop-t.invariant.2 (omega (arith, c.loop-t-test.true)) e.0 e.1

pub offset_bounds-p-j0-in-loop-t : goal.offset_bounds-p-j0-in-loop-t
unfolding div of_bits of_fields odd count_trailing_zeros
offset_bounds-p-j0-in-loop-t c = let e = c.look-b.ensures in fits8 _ (next_room (omega arith) c.loop-t.invariant.2 (omega (arith, c.loop-t-test.true)) e.0 e.1)
