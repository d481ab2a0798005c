use mathlib.Core.Path.{◌≡◌, ap, ◌∙◌}
use lib.ListN.{length}
use native.Mathlib.Omega.{arith}
use borrow.Author.Rules.{rules}
use Rattle.lists.proofs.Laying.{length_mapped}
use Rattle.tables.specs.Sequences.{over, held}
use Rattle.tables.proofs.Ascending.{seat_inside, noted_behind, noted_among, noted_own}
use Rattle.tables.proofs.sequences.Sequences.note.Goals as goal

pub insert-requires-else-entries-i : goal.insert-requires-else-entries-i
insert-requires-else-entries-i c =
    let n = c.taken-n in
    let a = c.args in
    let i = c.in-Some in
    let l : length a.self.entries ≡ 32 = search (rules, length_mapped) in
    omega (arith, n.ensures, seat_inside a.self.entries a.self.count n.result a.sensor l n.ensures c.seat_of.result c.seat_of.ensures i.i i.is)

pub returns-in-None : goal.returns-in-None
returns-in-None c =
    let n = c.taken-n in
    let a = c.args in
    let l : length a.self.entries ≡ 32 = search (rules, length_mapped) in
    c.insert.ensures
    ∙ ap (over a.self) (noted_behind a.self.entries a.self.count n.result a.sensor l n.ensures c.seat_of.result c.seat_of.ensures a.sequence c.in-None.is)

pub returns-then-entries-i : goal.returns-then-entries-i
returns-then-entries-i c =
    let n = c.taken-n in
    let a = c.args in
    let i = c.in-Some in
    let l : length a.self.entries ≡ 32 = search (rules, length_mapped) in
    ap held (noted_own a.self.entries a.self.count n.result a.sensor l n.ensures c.seat_of.result c.seat_of.ensures a.sequence i.i i.is c.if-entries-i.true)

pub returns-else-entries-i : goal.returns-else-entries-i
returns-else-entries-i c =
    let n = c.taken-n in
    let a = c.args in
    let i = c.in-Some in
    let l : length a.self.entries ≡ 32 = search (rules, length_mapped) in
    c.insert-else-entries-i.ensures
    ∙ ap (over a.self) (noted_among a.self.entries a.self.count n.result a.sensor l n.ensures c.seat_of.result c.seat_of.ensures a.sequence i.i i.is c.if-entries-i.false)

pub bounds-entries-i : goal.bounds-entries-i
bounds-entries-i c =
    let n = c.taken-n in
    let a = c.args in
    let i = c.in-Some in
    let l : length a.self.entries ≡ 32 = search (rules, length_mapped) in
    omega (arith, n.ensures, seat_inside a.self.entries a.self.count n.result a.sensor l n.ensures c.seat_of.result c.seat_of.ensures i.i i.is)

pub offset_bounds-entries-i : goal.offset_bounds-entries-i
offset_bounds-entries-i c =
    let n = c.taken-n in
    let a = c.args in
    let i = c.in-Some in
    let l : length a.self.entries ≡ 32 = search (rules, length_mapped) in
    omega (arith, n.ensures, seat_inside a.self.entries a.self.count n.result a.sensor l n.ensures c.seat_of.result c.seat_of.ensures i.i i.is)

pub bounds-entries-i-then-entries-i : goal.bounds-entries-i-then-entries-i
bounds-entries-i-then-entries-i c =
    let n = c.taken-n in
    let a = c.args in
    let i = c.in-Some in
    let l : length a.self.entries ≡ 32 = search (rules, length_mapped) in
    omega (arith, n.ensures, seat_inside a.self.entries a.self.count n.result a.sensor l n.ensures c.seat_of.result c.seat_of.ensures i.i i.is)

pub offset_bounds-entries-i-then-entries-i : goal.offset_bounds-entries-i-then-entries-i
offset_bounds-entries-i-then-entries-i c =
    let n = c.taken-n in
    let a = c.args in
    let i = c.in-Some in
    let l : length a.self.entries ≡ 32 = search (rules, length_mapped) in
    omega (arith, n.ensures, seat_inside a.self.entries a.self.count n.result a.sensor l n.ensures c.seat_of.result c.seat_of.ensures i.i i.is)
