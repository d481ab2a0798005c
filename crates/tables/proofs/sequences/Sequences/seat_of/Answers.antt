use Rattle.std.proofs.Common.{◌≡◌, rules, true, false, take, length, sym, ap, ◌∙◌}
use Rattle.std.proofs.lemmas.Iterator.{IsFirst-from_position, YieldsList-from_slice}
use borrow.Author.Tests.{tests}
use Rattle.lists.specs.First.{first_at}
use Rattle.lists.proofs.Laying.{length_mapped}
use Rattle.lists.proofs.Tables.{rows}
use Rattle.tables.specs.Sequences.{not_before}
use Rattle.tables.proofs.Positions.{first_by}
use Rattle.tables.proofs.Stores.{no_sequence}
use Rattle.tables.proofs.sequences.Sequences.seat_of.Goals as goal

pub returns : goal.returns
returns c =
    let s = c.args.self.now in
    let n = c.taken-n in
    let l : length s.entries ≡ 32 = search (rules, length_mapped) in
    first_by (not_before c.args.sensor) no_sequence (take n.result s.entries) _
    (IsFirst-from_position _ _ _ (λ e. not_before c.args.sensor e ≡ true) (λ e. not_before c.args.sensor e ≡ false) c.position.ensures.ran (YieldsList-from_slice (take n.result s.entries) cc) (λ e q k. search (rules, tests)) (λ e q k. search (rules, tests)))
    ∙ sym (ap (first_at (not_before c.args.sensor)) (rows s.entries 32 s.count n.result l n.ensures))
