use mathlib.Core.Path.{◌≡◌, refl, sym, ◌∙◌}
use Prim.Native.Nat.{min}
use lib.ListN.{length}
use native.Mathlib.Omega.{arith}
use borrow.Author.Rules.{rules}
use Rattle.lists.proofs.Laying.{length_mapped}
use Rattle.tables.proofs.Ascending.{seat_inside, last_there, last_is_nowhere}
use Rattle.tables.proofs.sequences.Sequences.last.Goals as goal

pub returns-in_err-e : goal.returns-in_err-e
returns-in_err-e c =
    let s = c.args.self.now in
    let l : length s.entries ≡ 32 = search (rules, length_mapped) in
    rw c.from_residual.ensures (sym (last_is_nowhere s.entries s.count (min s.count 32) c.args.sensor l refl c.seat_of.result c.seat_of.ensures c.in_err-e.was))

pub bounds-self-branch : goal.bounds-self-branch
bounds-self-branch c =
    let s = c.args.self.now in
    let l : length s.entries ≡ 32 = search (rules, length_mapped) in
    omega (arith, seat_inside s.entries s.count (min s.count 32) c.args.sensor l refl c.seat_of.result c.seat_of.ensures c.in_ok-e.field-0 c.in_ok-e.was)

pub offset_bounds-self-branch : goal.offset_bounds-self-branch
offset_bounds-self-branch c =
    let s = c.args.self.now in
    let l : length s.entries ≡ 32 = search (rules, length_mapped) in
    omega (arith, seat_inside s.entries s.count (min s.count 32) c.args.sensor l refl c.seat_of.result c.seat_of.ensures c.in_ok-e.field-0 c.in_ok-e.was)

pub returns : goal.returns
returns c =
    let s = c.args.self.now in
    let l : length s.entries ≡ 32 = search (rules, length_mapped) in
    c.then_some.ensures ∙ sym (last_there s.entries s.count (min s.count 32) c.args.sensor l refl c.seat_of.result c.seat_of.ensures c.in_ok-e.field-0 c.in_ok-e.was)
