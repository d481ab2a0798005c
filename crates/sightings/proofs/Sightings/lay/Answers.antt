-- The loop keeps `Sighted`: the first j detections stand in their places.
use mathlib.Core.Path.{refl}
use native.Mathlib.Omega.{arith}
use Rattle.sightings.proofs.Sights.{sighted_all}
use Rattle.sightings.proofs.Sightings.lay.Goals as goal

pub returns : goal.returns
returns c = (refl, sighted_all _ c.loop-j.j _ _ _ c.loop-j.invariant.1 (omega (arith, c.loop-j-test.false, c.loop-j.invariant.0)))
