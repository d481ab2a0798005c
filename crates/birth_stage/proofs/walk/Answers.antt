-- The loop keeps `Walking`: what the births of the columns before j left in the tracker, in the candidates and in what is told. Each turn ends by its law, and after the last one the candidates are laid back.
use Rattle.std.proofs.lemmas.Result.{err_from_is_err_and}
use Rattle.std.specs.Prelude.{None, Some}
use mathlib.Core.Path.{refl, sym, ◌∙◌, subst}
use lib.ListN.{get_or, replicate, length-set}
use native.Mathlib.Omega.{arith}
use mir.Syntax.{w64}
use mir.Val.{to_z, of_z}
use mir.Facts.{to_z-of_z}
use borrow.Author.Rules.{rules}
use Rattle.lists.proofs.Laying.{length_mapped}
use Rattle.types.specs.declared.batch.ObservationAssociation.{ObservationAssociation}
use Rattle.types.specs.Refusals.{number_of}
use Rattle.types.specs.States.{state_of}
use Rattle.calls.specs.Births.{with_candidates}
use Rattle.birth_candidates.specs.Candidates.{list_of}
use Rattle.spawning.specs.Ruling.{places_of}
use Rattle.association.specs.Told.{columns_from}
use Rattle.birth_stage.proofs.Deciding.{considered_is, considered_not}
use Rattle.birth_stage.proofs.Walking.{Walking, walking_start, walking_taken, walking_alone, walking_begun, walking_refused, columns_length, column_at_lem, begun_room, walk_stops, walk_done, walking_end, no_pair, no_detection, no_column}
use Rattle.birth_stage.proofs.walk.Goals as goal

pub loop-j-init : goal.loop-j-init
loop-j-init c =
    let a = c.args in (
      search rules,
      omega (arith, c.taken-n.ensures),
      search (rules, length_mapped),
      search (rules, length_mapped),
      search (rules, length_mapped),
      refl,
      subst (λ (x : ObservationAssociation). Walking a.t.config a.sensor (to_z w64 (of_z w64 a.time)) (places_of a.places.now) (columns_from a.m a.pairs a.observations) (with_candidates (list_of a.c) (state_of a.t)) a.t a.t a.c (replicate 64 x) 0) (sym c.alone-blank.ensures)
          (walking_start _ _ _ _ _ _ a.t a.c refl),
    )

pub loop-j-preserved-in-Some : goal.loop-j-preserved-in-Some
loop-j-preserved-in-Some c =
    let n = c.taken-n in
    let a = c.args in
    let v = c.loop-j.invariant in
    let h = c.loop-j-test.true in
    let long = columns_length a.pairs a.observations a.m n.result v.3 v.2 n.ensures in (
      search rules,
      v.1,
      v.2,
      v.3,
      v.4,
      length-set c.loop-j.associations c.loop-j.j _ ∙ v.5,
      walking_taken _ _ _ _ _ _ _ c.loop-j.s c.loop-j.kept c.loop-j.associations c.loop-j.j (get_or a.pairs c.loop-j.j no_pair) c.in-Some.p (get_or a.observations c.loop-j.j no_detection) no_column c.paired.result v.6
          (omega (arith, long, h)) (omega (arith, v.1, h)) (column_at_lem a.pairs a.observations a.m n.result v.3 v.2 n.ensures c.loop-j.j no_pair no_detection no_column h) c.in-Some.is c.paired.ensures,
    )

pub loop-j-preserved-in_default-begun : goal.loop-j-preserved-in_default-begun
loop-j-preserved-in_default-begun c =
    let n = c.taken-n in
    let a = c.args in
    let v = c.loop-j.invariant in
    let h = c.loop-j-test.true in
    let long = columns_length a.pairs a.observations a.m n.result v.3 v.2 n.ensures in (
      search rules,
      v.1,
      v.2,
      v.3,
      v.4,
      length-set c.loop-j.associations c.loop-j.j _ ∙ v.5,
      walking_alone _ _ _ _ _ _ _ c.loop-j.s c.loop-j.kept c.loop-j.associations c.loop-j.j (get_or a.pairs c.loop-j.j no_pair) (get_or a.observations c.loop-j.j no_detection) no_column v.6
          (omega (arith, long, h)) (omega (arith, v.1, h)) (column_at_lem a.pairs a.observations a.m n.result v.3 v.2 n.ensures c.loop-j.j no_pair no_detection no_column h) c.in_default.is
          c.taken-k.result v.4 c.taken-k.ensures c.in_ok-x.x.candidates c.alone.result (considered_is c.loop-j.kept c.in_ok-x.x _ None c.in_ok-x.ensures c.in_default-begun.is) c.alone.ensures,
    )

pub bounds-s-k : goal.bounds-s-k
bounds-s-k c =
    let room = begun_room _ _ _ _ _ _ _ _ _ (list_of c.in_ok-x.x.candidates) c.in-Some-begun.track (considered_is c.loop-j.kept c.in_ok-x.x _ (Some c.in-Some-begun.track) c.in_ok-x.ensures c.in-Some-begun.is) in
    room.0

pub overflow_add-s-in-loop-j : goal.overflow_add-s-in-loop-j
overflow_add-s-in-loop-j c =
    let room = begun_room _ _ _ _ _ _ _ _ _ (list_of c.in_ok-x.x.candidates) c.in-Some-begun.track (considered_is c.loop-j.kept c.in_ok-x.x _ (Some c.in-Some-begun.track) c.in_ok-x.ensures c.in-Some-begun.is) in
    omega (arith, room.1)

pub loop-j-preserved : goal.loop-j-preserved
loop-j-preserved c =
    let n = c.taken-n in
    let a = c.args in
    let v = c.loop-j.invariant in
    let h = c.loop-j-test.true in
    let long = columns_length a.pairs a.observations a.m n.result v.3 v.2 n.ensures in
    let one = considered_is c.loop-j.kept c.in_ok-x.x _ (Some c.in-Some-begun.track) c.in_ok-x.ensures c.in-Some-begun.is in
    let room = begun_room _ _ _ _ _ _ _ _ _ (list_of c.in_ok-x.x.candidates) c.in-Some-begun.track one in (
      search rules,
      v.1,
      v.2,
      v.3,
      length-set c.loop-j.s.tracks c.taken-k.result _ ∙ v.4,
      length-set c.loop-j.associations c.loop-j.j _ ∙ v.5,
      walking_begun _ _ _ _ _ _ _ c.loop-j.s c.loop-j.kept c.loop-j.associations c.loop-j.j (get_or a.pairs c.loop-j.j no_pair) (get_or a.observations c.loop-j.j no_detection) no_column v.6
          (omega (arith, long, h)) (omega (arith, v.1, h)) (column_at_lem a.pairs a.observations a.m n.result v.3 v.2 n.ensures c.loop-j.j no_pair no_detection no_column h) c.in_default.is
          c.taken-k.result v.4 c.taken-k.ensures c.in_ok-x.x.candidates c.in-Some-begun.track c.begun.result room.0 one c.begun.ensures,
    )

pub returns-in_err-x : goal.returns-in_err-x
returns-in_err-x c =
    let n = c.taken-n in
    let a = c.args in
    let v = c.loop-j.invariant in
    let h = c.loop-j-test.true in
    let why = c.in_err-x.field-0.0 in
    let long = columns_length a.pairs a.observations a.m n.result v.3 v.2 n.ensures in
    let p = err_from_is_err_and c.from_residual.result c.from_residual.ensures.1 in
    rw (p.1, p.2)
    (walk_stops a.t _ (number_of why)
    (rw (to_z-of_z c.ranges.time) at
    (walking_refused _ _ _ _ _ _ _ c.loop-j.s c.loop-j.kept c.loop-j.associations c.loop-j.j (get_or a.pairs c.loop-j.j no_pair) (get_or a.observations c.loop-j.j no_detection) no_column v.6
    (omega (arith, long, h)) (omega (arith, v.1, h)) (column_at_lem a.pairs a.observations a.m n.result v.3 v.2 n.ensures c.loop-j.j no_pair no_detection no_column h) c.in_default.is
    c.taken-k.result v.4 c.taken-k.ensures (number_of why) (considered_not c.loop-j.kept (number_of why) _ c.in_err-x.ensures))))

pub returns : goal.returns
returns c =
    let n = c.taken-n in
    let a = c.args in
    let v = c.loop-j.invariant in
    let w = v.6 in
    let long = columns_length a.pairs a.observations a.m n.result v.3 v.2 n.ensures in
    walk_done a.t _ c.loop-j.s c.settled-tracker.result c.loop-j.kept c.loop-j.associations w.so_far
    (rw (to_z-of_z c.ranges.time) at (walking_end _ _ _ _ _ _ _ c.loop-j.s c.loop-j.kept c.loop-j.associations c.loop-j.j w (omega (arith, long, c.loop-j-test.false))))
    c.settled-tracker.ensures w.state w.arrays w.slots
