-- Three ends, by what is ruled of the detection: passed over, it begins, it counts as a sighting.
use mathlib.Core.Path.{sym, ◌∙◌}
use mir.Facts.{to_z-of_z}
use Rattle.number.specs.Reply.{reply_by}
use Rattle.types.specs.Refusals.{number_of}
use Rattle.calls.specs.Births.{low_score, near_confirmed}
use Rattle.spawning.specs.Ruling.{places_of}
use Rattle.birth_stage.proofs.Deciding.{decide_passed, decide_begins, decide_counted}
use Rattle.birth_stage.proofs.one.decide.Goals as goal
use Rattle.birth_stage.proofs.one.decide.Goals.{in-Passed, in-Begins}

pub returns-in-Counted : goal.returns-in-Counted
returns-in-Counted c =
    let a = c.args in
    decide_counted a.config a.time a.d a.c.now (low_score a.config a.d) (near_confirmed a.config (places_of a.places.now) a.d) c.in-Counted.required (reply_by number_of c.sight.result)
    (sym c.in-Counted.is ∙ c.rule.ensures) (rw (to_z-of_z c.ranges.time) at c.sight.ensures)

pub returns : goal.returns
returns c =
    let a = c.args in
    elim c.match-rule.branch [
      | in-Passed w ↦ rw w.begins-is
          (decide_passed a.config a.time a.d a.c.now (low_score a.config a.d) (near_confirmed a.config (places_of a.places.now) a.d) c.settled-candidates.result
          (sym w.in-Passed.is ∙ c.rule.ensures) c.settled-candidates.ensures)
      | in-Begins w ↦ rw w.begins-is
          (decide_begins a.config a.time a.d a.c.now (low_score a.config a.d) (near_confirmed a.config (places_of a.places.now) a.d) c.settled-candidates.result
          (sym w.in-Begins.is ∙ c.rule.ensures) c.settled-candidates.ensures)
    ]
