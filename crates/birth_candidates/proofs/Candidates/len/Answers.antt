use mathlib.Core.Path.{◌≡◌}
use lib.ListN.{length}
use borrow.Author.Rules.{rules}
use Rattle.lists.proofs.Laying.{length_mapped}
use Rattle.birth_candidates.proofs.Listing.{list_length}
use Rattle.birth_candidates.proofs.Candidates.len.Goals as goal

pub returns : goal.returns
returns c =
    let places : length c.args.self.now.items ≡ 64 = search (rules, length_mapped) in
    list_length c.args.self.now c.taken.result places c.taken.ensures
