-- What the operations on tables look for.
use Rattle.std.specs.Prelude.{ℕ, Bool, eqb}
use Rattle.types.specs.declared.track.Track3D.{Track3D}

-- the track has this number: the one of a number is the first such (`first_of (numbered n)`), and that one is changed (`changeFirst (numbered n)`)
abbrev pub numbered : ℕ → Track3D → Bool
numbered n x = eqb n x.id
