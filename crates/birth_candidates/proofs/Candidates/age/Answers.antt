-- The loop keeps `Weeded`: the candidates so far that stay stand in front; an age that overflows ends it by `gone_stops`.
use Rattle.std.proofs.lemmas.Result.{err_from_is_err_and}
use mathlib.Core.Path.{◌≡◌, sym, ap, ◌∙◌}
use lib.ListN.{length, length-take}
use native.Mathlib.Omega.{arith}
use mir.Facts.{to_z-of_z}
use borrow.Author.Rules.{rules}
use Rattle.lists.proofs.Laying.{length_mapped}
use Rattle.lists.proofs.Weeding.{weeded_start}
use Rattle.number.specs.Reply.{given}
use Rattle.types.specs.Refusals.{number_of}
use Rattle.birth_candidates.proofs.Aging.{kept_more, gone_more, gone_stops, age_refused, age_done}
use Rattle.birth_candidates.proofs.Candidates.age.Goals as goal
use Rattle.birth_candidates.proofs.Candidates.age.Goals.{then-stays, else-stays}

pub loop-x-init : goal.loop-x-init
loop-x-init c = (omega arith, weeded_start _ _)

pub loop-x-preserved : goal.loop-x-preserved
loop-x-preserved c =
    let v = c.loop-x.invariant in
    let i = c.loop-x.x-index in
    let items = c.args.self.now.items in
    elim c.if-stays.branch [
      | then-stays w ↦ rw (w.items-is, w.kept-is) (
        omega (arith, v.0),
        kept_more _ items c.loop-x.items c.len.result i c.loop-x.kept v.1 c.loop-x-test.true (sym c.in_ok-stays.ensures ∙ ap given w.if-stays.true),
      )
      | else-stays w ↦ rw (w.items-is, w.kept-is) (
        omega (arith, v.0),
        gone_more _ items c.loop-x.items c.len.result i c.loop-x.kept v.1 c.loop-x-test.true (sym c.in_ok-stays.ensures ∙ ap given w.if-stays.false),
      )
    ]

pub returns-in_err-stays : goal.returns-in_err-stays
returns-in_err-stays c =
    let s = c.args.self.now in
    let n = c.len in
    let places : length s.items ≡ 64 = search (rules, length_mapped) in
    let q = err_from_is_err_and c.from_residual.result c.from_residual.ensures.1 in
    rw (q.1, q.2)
    (age_refused c.args.timeout c.args.now s n.result places n.ensures.0 _
    (rw (to_z-of_z c.ranges.timeout, to_z-of_z c.ranges.now) at
    (gone_stops _ s.items c.loop-x.items n.result c.loop-x.x-index c.loop-x.kept c.loop-x.invariant.1 c.loop-x-test.true (omega (arith, n.ensures.1, places)) (number_of c.in_err-stays.field-0.0) (sym c.in_err-stays.ensures))))

pub returns : goal.returns
returns c =
    let s = c.args.self.now in
    let n = c.len in
    let places : length s.items ≡ 64 = search (rules, length_mapped) in
    let e : c.loop-x.x-index ≡ n.result = omega (arith, c.loop-x-test.false, c.loop-x.auto.x-index-end, length-take n.result s.items, n.ensures.1, places) in
    age_done c.args.timeout c.args.now s n.result places n.ensures.0 c.loop-x.items c.loop-x.kept
    (rw (e, to_z-of_z c.ranges.timeout, to_z-of_z c.ranges.now) at c.loop-x.invariant.1)
