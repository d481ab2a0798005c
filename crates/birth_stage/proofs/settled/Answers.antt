use mathlib.Core.Path.{◌≡◌, ap}
use lib.ListN.{length}
use borrow.Author.Rules.{rules}
use Rattle.lists.specs.Table.{table}
use Rattle.lists.proofs.Laying.{length_mapped}
use Rattle.types.specs.States.{state_of}
use Rattle.types.proofs.Overs.{counts_settled}
use Rattle.birth_candidates.specs.declared.Candidates.{Candidates}
use Rattle.birth_candidates.specs.Candidates.{list_of}
use Rattle.birth_stage.proofs.settled.Goals as goal

pub returns : goal.returns
unfolding state_of
returns c =
    let track_places : length c.args.s.tracks ≡ 64 = search (rules, length_mapped) in
    let sequence_places : length c.args.s.sequences ≡ 32 = search (rules, length_mapped) in
    counts_settled c.args.s c.taken.result c.taken-2.result (table c.laid-laid.result.items c.laid-laid.result.count) (list_of c.args.kept.now) track_places sequence_places c.taken.ensures c.taken-2.ensures
    (ap (λ (u : Candidates). table u.items u.count) (rw c.candidates_of-held.ensures at c.laid-laid.ensures))
