use mathlib.Core.Path.{◌≡◌}
use lib.ListN.{length}
use native.Mathlib.Omega.{arith}
use borrow.Author.Rules.{rules}
use Rattle.lists.proofs.Laying.{length_mapped}
use Rattle.birth_candidates.proofs.Listing.{remove_at}
use Rattle.birth_candidates.proofs.Candidates.remove.Goals as goal

pub returns : goal.returns
returns c =
    let places : length c.args.self.now.items ≡ 64 = search (rules, length_mapped) in
    remove_at c.args.self.now c.len-last.result places c.len-last.ensures.0 c.args.k (omega (arith, c.requires, c.len-last.ensures.0))
