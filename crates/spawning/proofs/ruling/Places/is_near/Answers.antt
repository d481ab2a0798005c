use Rattle.std.proofs.Common.{◌≡◌, rules, take, length, sym, ◌∙◌}
use Rattle.std.proofs.lemmas.Iterator.{YieldsList-from_slice}
use Rattle.std.proofs.lemmas.Iterator.Search.{any_from_yields_List}
use Rattle.lists.proofs.Firsts.{list_any_is}
use Rattle.lists.proofs.Laying.{length_mapped}
use Rattle.matrix.specs.Matrix.{Vector}
use Rattle.detections.specs.Births.{nearer}
use Rattle.spawning.specs.declared.ruling.Spot.{Spot}
use Rattle.spawning.proofs.Placing.{any_place}
use Rattle.spawning.proofs.ruling.Places.is_near.Goals as goal

pub returns : goal.returns
returns c =
    let a = c.args in
    let n = c.taken-n in
    let p = a.self.now in
    let l : length p.items ≡ 64 = search (rules, length_mapped) in
    any_from_yields_List (λ (s : Spot). nearer s.position a.position a.radius) _ _ _ c.any.ensures.ran (YieldsList-from_slice (take n.result p.items) cc) (λ x b q k. (search rules, search rules))
    ∙ list_any_is (λ (s : Spot). nearer s.position a.position a.radius) (take n.result p.items)
    ∙ sym (any_place (λ (q : Vector). nearer q a.position a.radius) p n.result l n.ensures)
