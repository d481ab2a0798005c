-- Track numbers. 01, What demand 3 speaks of: "the same track is the one of the same number".
use Rattle.std.specs.Prelude.{ℕ, ◌<◌, List, [], ◌∷◌, map, Option}
use Rattle.lists.specs.First.{first_of}
use Rattle.lists.specs.Masks.{Every}
use Rattle.types.specs.declared.track.Track3D.{Track3D}
use Rattle.types.specs.States.{State}
use Rattle.tables.specs.Operations.{numbered}

abbrev pub track_of : ℕ → List Track3D → Option Track3D
track_of n ts = first_of (numbered n) ts

abbrev pub numbers_of : List Track3D → List ℕ
numbers_of ts = map (λ t. t.id) ts

-- strictly ascending, and all below hi
unfoldable pub Ascend : List ℕ → ℕ → Type 0
Ascend [] hi = Unit {0}
Ascend (n ∷ l) hi = Every (λ m. n < m) l × (n < hi) × Ascend l hi

-- the numbers of a state's tracks, below its next one
abbrev pub Numbered : State → Type 0
Numbered s = Ascend (numbers_of s.tracks) s.next
