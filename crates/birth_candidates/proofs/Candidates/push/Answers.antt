use mathlib.Core.Path.{◌≡◌}
use lib.ListN.{length}
use native.Mathlib.Omega.{arith}
use borrow.Author.Rules.{rules}
use Rattle.lists.proofs.Laying.{length_mapped}
use Rattle.birth_candidates.proofs.Listing.{push_at}
use Rattle.birth_candidates.proofs.Candidates.push.Goals as goal

pub returns : goal.returns
returns c =
    let places : length c.args.self.now.items ≡ 64 = search (rules, length_mapped) in
    push_at c.args.self.now c.len-n.result places c.len-n.ensures.0 c.args.x (omega (arith, c.requires, c.len-n.ensures.0))
