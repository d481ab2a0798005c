-- Sensors with their latest sequence numbers, ascending by sensor: the Rust's map. 01: "32 sensors with a sequence".
use Rattle.std.specs.Prelude.{ℕ, ◌<◌, Bool, cond, ◌||◌, List, [], ◌∷◌, eqb, leb, ltb, length, None, Option, Some, is_some}
use Rattle.lists.specs.Table.{Table, over_table, inserted}
use Rattle.types.specs.declared.tracker.SensorSequence.{SensorSequence}
use Rattle.tables.specs.declared.sequences.Sequences.{Sequences}

abbrev pub held : Table SensorSequence → Sequences
held t = record { entries = t.array; count = t.count }

-- a list in the first places; those behind it are as they were
abbrev pub over : Sequences → List SensorSequence → Sequences
over s l = held (over_table l s.entries)

abbrev pub entry : ℕ → ℕ → SensorSequence
entry sensor sequence = record { sensor = sensor; sequence = sequence }

abbrev pub not_before : ℕ → SensorSequence → Bool
not_before sensor e = leb sensor e.sensor

-- the sensor's latest number: its place is that of the first one that isn't before it
unfoldable pub last_of : ℕ → List SensorSequence → Option ℕ
last_of sensor [] = None
last_of sensor (e ∷ l) = cond (not_before sensor e) (cond (eqb e.sensor sensor) (Some e.sequence) None) (last_of sensor l)

-- a known sensor takes the number, a new one its place among the others
unfoldable pub noted : ℕ → ℕ → List SensorSequence → List SensorSequence
noted sensor q [] = entry sensor q ∷ []
noted sensor q (e ∷ l) = cond (not_before sensor e) (entry sensor q ∷ cond (eqb e.sensor sensor) l (e ∷ l)) (e ∷ noted sensor q l)

-- 01, Batch: "11 a 33rd sensor"
unfoldable pub room_for : ℕ → ℕ → List SensorSequence → Bool
room_for most sensor l = is_some (last_of sensor l) || ltb (length l) most

-- x before the one at i, where there is room for it
abbrev pub inserted_in : ℕ → ℕ → SensorSequence → List SensorSequence → List SensorSequence
inserted_in most i x l = cond (ltb (length l) most) (inserted i x l) l

-- the number noted where there is room for its sensor
unfoldable pub noted_in : ℕ → ℕ → ℕ → List SensorSequence → List SensorSequence
noted_in most sensor q l = cond (room_for most sensor l) (noted sensor q l) l

-- sensors strictly ascend, from above k on
unfoldable pub AscendsFrom : ℕ → List SensorSequence → Type 0
AscendsFrom k [] = Unit {0}
AscendsFrom k (e ∷ l) = (k < e.sensor) × AscendsFrom e.sensor l

unfoldable pub Ascends : List SensorSequence → Type 0
Ascends [] = Unit {0}
Ascends (e ∷ l) = AscendsFrom e.sensor l
