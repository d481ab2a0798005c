use mathlib.Core.Path.{◌≡◌}
use lib.ListN.{length}
use borrow.Author.Rules.{rules}
use Rattle.lists.proofs.Laying.{length_mapped}
use Rattle.birth_candidates.proofs.Listing.{same_at}
use Rattle.birth_candidates.proofs.Candidates.settled.Goals as goal

pub returns : goal.returns
returns c =
    let places : length c.args.self.now.items ≡ 64 = search (rules, length_mapped) in
    same_at c.args.self.now c.len.result places c.len.ensures.0
