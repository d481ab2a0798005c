use mathlib.Core.Path.{◌≡◌, ap, ◌∙◌}
use mathlib.Core.List.{List}
use Prim.Native.Nat.{◌+◌}
use lib.ListN.{length, set}
use native.Mathlib.Omega.{arith}
use borrow.Author.Rules.{rules}
use Rattle.lists.specs.Table.{table}
use Rattle.lists.proofs.Laying.{length_mapped}
use Rattle.types.specs.declared.tracker.SensorSequence.{SensorSequence}
use Rattle.tables.specs.Sequences.{held}
use Rattle.tables.proofs.Ascending.{inserted_room, inserted_full}
use Rattle.tables.proofs.sequences.Sequences.insert.Goals as goal

pub returns-then-n-eq-MAX_SEQUENCES : goal.returns-then-n-eq-MAX_SEQUENCES
returns-then-n-eq-MAX_SEQUENCES c =
    let n = c.taken-n in
    let a = c.args in
    let l : length a.self.entries ≡ 32 = search (rules, length_mapped) in
    ap held (inserted_full a.self.entries a.self.count n.result l n.ensures a.at a.entry (omega (arith, c.if-n-eq-MAX_SEQUENCES.true)))

pub returns : goal.returns
returns c =
    let n = c.taken-n in
    let a = c.args in
    let l : length a.self.entries ≡ 32 = search (rules, length_mapped) in
    ap held
    (ap (λ (m : List SensorSequence). table (set m a.at a.entry) (n.result + 1)) c.copy_within.ensures.after
    ∙ inserted_room a.self.entries a.self.count n.result l n.ensures a.at a.entry (omega (arith, c.requires, n.ensures)) (omega (arith, c.if-n-eq-MAX_SEQUENCES.false, n.ensures)))
