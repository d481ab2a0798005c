-- Noted numbers are a map's: the sensor's own is the one noted, every other's stays, and the sensors still ascend. Assumes nothing.
use Rattle.std.specs.Prelude.{None, Some}
use mathlib.Core.Path.{◌≡◌, refl, sym}
use mathlib.Core.Bool.{Bool, true, false, cond}
use mathlib.Core.List.{List, [], ◌∷◌}
use Prim.Native.Nat.{ℕ, ◌≤◌, ◌<◌}
use native.Mathlib.Omega.{arith}
use borrow.Author.Tests.{leb-true, leb-false, eqb-true, eqb-false, le-leb, lt-leb, eq-eqb, ne_eqb}
use lib.Dec.{eqb}
use Rattle.types.specs.declared.tracker.SensorSequence.{SensorSequence}
use Rattle.tables.specs.Sequences.{entry, not_before, last_of, noted, AscendsFrom, Ascends}

-- ---- what is looked up after a number is noted

pub last_noted : (sensor q : ℕ) (l : List SensorSequence) → last_of sensor (noted sensor q l) ≡ Some q
unfolding last_of noted
last_noted sensor q [] = rw (le-leb sensor sensor (omega arith), eq-eqb sensor sensor refl)
last_noted sensor q (e ∷ l) = go (not_before sensor e) refl (last_noted sensor q l)
  where
    go : (b : Bool) → not_before sensor e ≡ b → last_of sensor (noted sensor q l) ≡ Some q
        → last_of sensor (cond b (entry sensor q ∷ cond (eqb e.sensor sensor) l (e ∷ l)) (e ∷ noted sensor q l)) ≡ Some q
    go true h r = rw (le-leb sensor sensor (omega arith), eq-eqb sensor sensor refl)
    go false h r = rw h r

pub last_noted_other : (k sensor q : ℕ) (l : List SensorSequence) → (k ≡ sensor → ⊥) → last_of k (noted sensor q l) ≡ last_of k l
unfolding last_of noted
last_noted_other k sensor q [] other = go (not_before k (entry sensor q))
  where
    go : (b : Bool) → cond b (cond (eqb sensor k) (Some q) None) None ≡ None
    go true = rw (ne_eqb sensor k (λ e. other (sym e)))
    go false = refl
last_noted_other k sensor q (e ∷ l) other = go (not_before sensor e) refl (not_before k (entry sensor q)) refl (last_noted_other k sensor q l other)
  where
    go : (b : Bool) → not_before sensor e ≡ b → (c : Bool) → not_before k (entry sensor q) ≡ c → last_of k (noted sensor q l) ≡ last_of k l
        → last_of k (cond b (entry sensor q ∷ cond (eqb e.sensor sensor) l (e ∷ l)) (e ∷ noted sensor q l)) ≡ last_of k (e ∷ l)
    go false h c w r = rw r
    go true h true w r =
        let below : k < sensor = omega (arith, leb-true k sensor w, other) in
        let at : sensor ≤ e.sensor = leb-true sensor e.sensor h in
        rw (w, ne_eqb sensor k (λ x. other (sym x)), le-leb k e.sensor (omega arith), ne_eqb e.sensor k (λ x. absurd (omega arith)))
    go true h false w r = rw w (own (eqb e.sensor sensor) refl)
      where
        own : (d : Bool) → eqb e.sensor sensor ≡ d → last_of k (cond d l (e ∷ l)) ≡ last_of k (e ∷ l)
        own true y =
            let above : sensor < k = leb-false k sensor w in
            let same : e.sensor ≡ sensor = eqb-true e.sensor sensor y in
            rw (lt-leb k e.sensor (omega arith))
        own false y = refl

-- ---- the order

from_below : (j k : ℕ) (l : List SensorSequence) → j ≤ k → AscendsFrom k l → AscendsFrom j l
unfolding AscendsFrom
from_below j k [] h a = tt
from_below j k (e ∷ l) h a = (omega (arith, a.0), a.1)

noted_from : (k sensor q : ℕ) (l : List SensorSequence) → k < sensor → AscendsFrom k l → AscendsFrom k (noted sensor q l)
unfolding AscendsFrom noted
noted_from k sensor q [] h a = (h, tt)
noted_from k sensor q (e ∷ l) h a = go (not_before sensor e) refl (noted_from e.sensor sensor q l)
  where
    go : (b : Bool) → not_before sensor e ≡ b → (e.sensor < sensor → AscendsFrom e.sensor l → AscendsFrom e.sensor (noted sensor q l))
        → AscendsFrom k (cond b (entry sensor q ∷ cond (eqb e.sensor sensor) l (e ∷ l)) (e ∷ noted sensor q l))
    go true w r = (h, own (eqb e.sensor sensor) refl)
      where
        own : (d : Bool) → eqb e.sensor sensor ≡ d → AscendsFrom sensor (cond d l (e ∷ l))
        own true y = from_below sensor e.sensor l (omega (arith, eqb-true e.sensor sensor y)) a.1
        own false y = (omega (arith, leb-true sensor e.sensor w, eqb-false e.sensor sensor y), a.1)
    go false w r = (a.0, r (leb-false sensor e.sensor w) a.1)

pub noted_ascends : (sensor q : ℕ) (l : List SensorSequence) → Ascends l → Ascends (noted sensor q l)
unfolding Ascends AscendsFrom noted
noted_ascends sensor q [] a = tt
noted_ascends sensor q (e ∷ l) a = go (not_before sensor e) refl
  where
    go : (b : Bool) → not_before sensor e ≡ b → Ascends (cond b (entry sensor q ∷ cond (eqb e.sensor sensor) l (e ∷ l)) (e ∷ noted sensor q l))
    go true w = own (eqb e.sensor sensor) refl
      where
        own : (d : Bool) → eqb e.sensor sensor ≡ d → AscendsFrom sensor (cond d l (e ∷ l))
        own true y = from_below sensor e.sensor l (omega (arith, eqb-true e.sensor sensor y)) a
        own false y = (omega (arith, leb-true sensor e.sensor w, eqb-false e.sensor sensor y), a)
    go false w = noted_from e.sensor sensor q l (leb-false sensor e.sensor w) a
