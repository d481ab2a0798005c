-- The places of confirmed tracks, and what is ruled of a detection.
use Rattle.std.specs.Prelude.{ℕ, Bool, true, false, List, map, length, take, replicate, None, Option, Some}
use Rattle.lists.specs.Lay.{lay}
use Rattle.matrix.specs.Matrix.{Vector}
use Rattle.types.specs.declared.track.Track3D.{Track3D}
use Rattle.types.specs.Track.{snapshot_of}
use Rattle.matrix.specs.Matrix.{nought}
use Rattle.spawning.specs.declared.ruling.Spot.{Spot}
use Rattle.spawning.specs.declared.ruling.Places.{Places}
use Rattle.spawning.specs.declared.ruling.Ruling.{Ruling}
use Rattle.spawning.specs.declared.ruling.Ruling.TheVariants.{Passed, Begins, Counted}

abbrev pub spot_at : Vector → Spot
spot_at v = record { position = v }

abbrev pub spot_of : Track3D → Spot
spot_of t = spot_at (snapshot_of t).position

-- what stands in the places that nothing has taken
abbrev pub no_spots : List Spot
no_spots = replicate 64 (spot_at (replicate 3 nought))

unfoldable pub laid_out : List Vector → Places
laid_out l = record { items = lay (map spot_at l) no_spots; count = length l }

-- the first places, whatever the count says
unfoldable pub places_of : Places → List Vector
places_of p = map (λ (s : Spot). s.position) (take p.count p.items)

abbrev pub suppressed_by : Option ℕ → Ruling
suppressed_by None = Passed
suppressed_by (Some required) = Counted required

-- with a low score, near a confirmed track, under such a persistence
unfoldable pub ruling_of : Bool → Bool → Option ℕ → Ruling
ruling_of true near o = Passed
ruling_of false true o = suppressed_by o
ruling_of false false o = Begins
