-- The bounded list of sensors that contributed to a track. 01: "16 contributing sensors"; the Rust's record_sensor of tracker/mod.rs.
use Rattle.std.specs.Prelude.{ℕ, Bool, cond, ◌&&◌, List, [], ◌∷◌, ◌++◌, ltb, leb, eqb, length, take, drop}
use Rattle.lists.specs.Lay.{lay}
use Rattle.lists.specs.First.{any}
use Rattle.lifecycle.specs.declared.sensors.Sensors.{Sensors}

-- the sensors in the first places, whatever the count says
abbrev pub sensors_of : Sensors → List ℕ
sensors_of s = take s.count s.ids

-- the same array with the list over its front
abbrev pub over : Sensors → List ℕ → Sensors
over s l = record { ids = lay l s.ids; count = length l }

abbrev pub is : ℕ → ℕ → Bool
is sensor x = eqb x sensor

-- accepted settings have a limit from 1 to 16; another counts as 16
abbrev pub bound_of : ℕ → ℕ
bound_of limit = cond (ltb 0 limit && ltb limit 16) limit 16

-- a known sensor changes nothing; a new one goes last, and where the limit is reached the oldest is forgotten
unfoldable pub recorded_of : List ℕ → ℕ → ℕ → List ℕ
recorded_of l sensor limit = cond (any (is sensor) l) l (cond (leb (bound_of limit) (length l)) (drop 1 l) l ++ (sensor ∷ []))
