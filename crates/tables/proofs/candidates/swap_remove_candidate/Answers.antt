use mathlib.Core.Path.{◌≡◌}
use lib.ListN.{length}
use native.Mathlib.Omega.{arith}
use borrow.Author.Rules.{rules}
use Rattle.lists.specs.Table.{swap_remove}
use Rattle.lists.proofs.Laying.{length_mapped}
use Rattle.lists.proofs.Tables.{swapped, swapped_none}
use Rattle.tables.proofs.Stores.{candidates_are, no_candidate}
use Rattle.tables.proofs.candidates.swap_remove_candidate.Goals as goal

pub returns-then-i-n : goal.returns-then-i-n
returns-then-i-n c =
    let a = c.args in
    let s = a.s in
    let n = c.taken-n in
    let l : length s.candidates ≡ 64 = search (rules, length_mapped) in
    candidates_are s (swap_remove a.i) _ (swapped s.candidates 64 s.candidate_count n.result l n.ensures a.i no_candidate c.if-i-n.true)

pub returns-else-i-n : goal.returns-else-i-n
returns-else-i-n c =
    let a = c.args in
    let s = a.s in
    let n = c.taken-n in
    let l : length s.candidates ≡ 64 = search (rules, length_mapped) in
    candidates_are s (swap_remove a.i) _ (swapped_none s.candidates 64 s.candidate_count n.result l n.ensures a.i (omega (arith, c.if-i-n.false)))
