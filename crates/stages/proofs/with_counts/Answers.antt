use mathlib.Core.Path.{◌≡◌}
use lib.ListN.{length}
use borrow.Author.Rules.{rules}
use Rattle.lists.proofs.Laying.{length_mapped}
use Rattle.stages.proofs.Settled.{own_settled}
use Rattle.stages.proofs.with_counts.Goals as goal

pub returns : goal.returns
returns c =
    let t = c.args.t in
    let tracks : length t.tracks ≡ 64 = search (rules, length_mapped) in
    let sequences : length t.sequences ≡ 32 = search (rules, length_mapped) in
    let candidates : length t.candidates ≡ 64 = search (rules, length_mapped) in
    own_settled t _ _ _ tracks sequences candidates c.taken.ensures c.taken-2.ensures c.taken-3.ensures
