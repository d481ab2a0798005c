use mathlib.Core.Path.{◌≡◌}
use lib.ListN.{length}
use borrow.Author.Rules.{rules}
use Rattle.lists.proofs.Laying.{length_mapped}
use Rattle.birth_candidates.proofs.Listing.{laid_at}
use Rattle.birth_candidates.proofs.Candidates.laid.Goals as goal

pub returns : goal.returns
returns c =
    let a = c.args in
    let n = c.len-n in
    let places : length a.kept.now.items ≡ 64 = search (rules, length_mapped) in
    laid_at a.self.now a.kept.now n.result _ places n.ensures.0 c.copy_from_slice.ensures.after
