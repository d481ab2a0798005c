use mathlib.Core.Path.{◌≡◌, ap, ◌∙◌}
use native.Mathlib.Omega.{arith}
use mir.Facts.{to_z-of_z}
use borrow.Author.Tests.{lt-ltb, le-ltb}
use Rattle.lifecycle.specs.Lifecycle.{new_of, registered_of, credited_of}
use Rattle.calls.specs.Births.{born_life}
use Rattle.spawning.proofs.spawn.first_life.Goals as goal

pub returns-then-sightings-gt1 : goal.returns-then-sightings-gt1
unfolding born_life
returns-then-sightings-gt1 c =
    let a = c.args in
    let t = to_z-of_z c.ranges.time in
    let once : c.registered-life.result ≡ registered_of (new_of a.time) a.time a.config =
    (rw t at c.registered-life.ensures) ∙ ap (λ l. registered_of l a.time a.config) (rw t at c.new.ensures) in
    rw (lt-ltb 1 a.sightings c.if-sightings-gt1.true) (c.credited.ensures ∙ ap (λ l. credited_of l a.sightings a.config) once)

pub returns-else-sightings-gt1 : goal.returns-else-sightings-gt1
unfolding born_life
returns-else-sightings-gt1 c =
    let a = c.args in
    let t = to_z-of_z c.ranges.time in
    let once : c.registered-life.result ≡ registered_of (new_of a.time) a.time a.config =
    (rw t at c.registered-life.ensures) ∙ ap (λ l. registered_of l a.time a.config) (rw t at c.new.ensures) in
    rw (le-ltb 1 a.sightings (omega (arith, c.if-sightings-gt1.false))) once
