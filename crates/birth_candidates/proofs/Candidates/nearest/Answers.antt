-- The loop keeps that the best so far is `nearest_from` of the candidates before i.
use mathlib.Core.Path.{◌≡◌, refl, sym, ap, ◌∙◌}
use mathlib.Core.List.{List}
use native.Mathlib.Omega.{arith}
use mir.Facts.{to_z-of_z}
use lib.ListN.{length, take}
use lib.Seq.{take-length}
use borrow.Author.Rules.{rules}
use Rattle.lists.proofs.Laying.{length_mapped}
use Rattle.calls.specs.Births.{nearest_from}
use Rattle.types.specs.declared.tracker.BirthCandidate.{BirthCandidate}
use Rattle.birth_candidates.specs.Candidates.{near_of, no_candidate}
use Rattle.birth_candidates.proofs.Listing.{front}
use Rattle.birth_candidates.proofs.Nearing.{nearest_more}
use Rattle.birth_candidates.proofs.Candidates.nearest.Goals as goal

pub loop-i-init : goal.loop-i-init
loop-i-init c = unfold nearest_from in refl

pub loop-i-preserved : goal.loop-i-preserved
loop-i-preserved c =
    let a = c.args in
    c.nearer-best.ensures _ c.loop-i.invariant ∙ ap near_of (sym (nearest_more a.radius _ a.d _ c.loop-i.i no_candidate c.loop-i-test.true))

pub returns : goal.returns
returns c =
    let s = c.args.self.now in
    let n = c.len in
    let l : List BirthCandidate = take n.result s.items in
    let places : length s.items ≡ 64 = search (rules, length_mapped) in
    let e : c.loop-i.i ≡ length l = omega (arith, c.loop-i-test.false, c.loop-i.auto.i-end) in
    rw (front s n.result places n.ensures.0) (rw (e, take-length l, to_z-of_z c.ranges.time) at c.loop-i.invariant)
