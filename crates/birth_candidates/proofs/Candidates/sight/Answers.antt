-- The nearest that is found stands at its place, and is seen again; where none is found, the detection is seen for the first time.
use mathlib.Core.Path.{◌≡◌, ap}
use lib.ListN.{length}
use mir.Facts.{to_z-of_z}
use borrow.Author.Rules.{rules}
use Rattle.number.specs.Reply.{given}
use Rattle.lists.proofs.Laying.{length_mapped}
use Rattle.birth_candidates.proofs.Seeing.{near_stands, found_near, found_none}
use Rattle.birth_candidates.proofs.Candidates.sight.Goals as goal

pub proceed-requires : goal.proceed-requires
proceed-requires c =
    let a = c.args in
    let places : length a.self.now.items ≡ 64 = search (rules, length_mapped) in
    near_stands a.self.now a.radius a.time a.d a.required places c.in-Some.near (rw (to_z-of_z c.ranges.time) at c.in-Some.ensures)

pub returns-in-Some : goal.returns-in-Some
returns-in-Some c =
    let a = c.args in
    let t = to_z-of_z c.ranges.time in
    let places : length a.self.now.items ≡ 64 = search (rules, length_mapped) in
    rw (found_near a.self.now a.radius a.time a.d a.required places c.in-Some.near (rw t at c.in-Some.ensures)) (ap given (rw t at (c.proceed.ensures a.radius)))

pub returns-in-None : goal.returns-in-None
returns-in-None c =
    let a = c.args in
    let t = to_z-of_z c.ranges.time in
    rw (found_none a.self.now a.radius a.time a.d a.required (rw t at c.in-None.ensures)) (rw t at (c.begin.ensures a.radius a.required))
