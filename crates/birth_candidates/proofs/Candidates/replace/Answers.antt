use mathlib.Core.Path.{◌≡◌}
use lib.ListN.{length}
use native.Mathlib.Omega.{arith}
use borrow.Author.Rules.{rules}
use Rattle.lists.proofs.Laying.{length_mapped}
use Rattle.birth_candidates.proofs.Listing.{replace_at}
use Rattle.birth_candidates.proofs.Candidates.replace.Goals as goal

pub returns : goal.returns
returns c =
    let places : length c.args.self.now.items ≡ 64 = search (rules, length_mapped) in
    replace_at c.args.self.now c.len-self.result places c.len-self.ensures.0 c.args.k c.args.x (omega (arith, c.requires, c.len-self.ensures.0))
