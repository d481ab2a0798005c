use mathlib.Core.Path.{◌≡◌}
use lib.ListN.{length}
use native.Mathlib.Omega.{arith}
use borrow.Author.Rules.{rules}
use Rattle.lists.specs.Table.{pushed}
use Rattle.lists.proofs.Laying.{length_mapped}
use Rattle.lists.proofs.Tables.{pushed_room, pushed_full}
use Rattle.tables.proofs.Stores.{candidates_are}
use Rattle.tables.proofs.candidates.push_candidate.Goals as goal

pub returns-then-n-lt-MAX_CANDIDATES : goal.returns-then-n-lt-MAX_CANDIDATES
returns-then-n-lt-MAX_CANDIDATES c =
    let s = c.args.s in
    let x = c.args.candidate in
    let n = c.taken-n in
    let l : length s.candidates ≡ 64 = search (rules, length_mapped) in
    candidates_are s (pushed 64 x) _ (pushed_room s.candidates 64 s.candidate_count n.result l n.ensures x c.if-n-lt-MAX_CANDIDATES.true)

pub returns-else-n-lt-MAX_CANDIDATES : goal.returns-else-n-lt-MAX_CANDIDATES
returns-else-n-lt-MAX_CANDIDATES c =
    let s = c.args.s in
    let x = c.args.candidate in
    let n = c.taken-n in
    let l : length s.candidates ≡ 64 = search (rules, length_mapped) in
    candidates_are s (pushed 64 x) _ (pushed_full s.candidates 64 s.candidate_count n.result l n.ensures x (omega (arith, c.if-n-lt-MAX_CANDIDATES.false)))
