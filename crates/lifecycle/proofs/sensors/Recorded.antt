-- The three ways in which a sensor is recorded, on the array and its count. Assumes nothing.
use mathlib.Core.Path.{◌≡◌, refl, sym, ap, ◌∙◌}
use mathlib.Core.Bool.{Bool, true, false, cond, ◌&&◌}
use mathlib.Core.List.{List, [], ◌∷◌, ◌++◌}
use Prim.Native.Nat.{ℕ, ◌+◌, ◌≤◌, ◌<◌, min}
use native.Mathlib.Omega.{arith}
use lib.Dec.{ltb}
use lib.ListN.{length, take, drop, set, length-append, length-drop}
use lib.Seq.{length-take-le}
use borrow.Author.Tests.{ltb-true, le-leb, lt-leb}
use Rattle.lists.specs.First.{any}
use Rattle.lists.specs.Lay.{lay}
use Rattle.lists.proofs.Laying.{lay_front, push_lay, take_min}
use Rattle.lifecycle.specs.declared.sensors.Sensors.{Sensors}
use Rattle.lifecycle.specs.Sensors.{is, bound_of, sensors_of, over, recorded_of}

-- a limit is from 1 to 16
bound_range : (limit : ℕ) → (0 < bound_of limit) × (bound_of limit ≤ 16)
bound_range limit = go (ltb 0 limit) (ltb limit 16) refl refl
  where
    go : (a b : Bool) → ltb 0 limit ≡ a → ltb limit 16 ≡ b → (0 < cond (a && b) limit 16) × (cond (a && b) limit 16 ≤ 16)
    go true true e f = let p = ltb-true 0 limit e in let q = ltb-true limit 16 f in (omega arith, omega arith)
    go true false e f = (omega arith, omega arith)
    go false b e f = (omega arith, omega arith)

pub bound_least : (limit : ℕ) → 0 < bound_of limit
bound_least limit = (bound_range limit).0

pub bound_most : (limit : ℕ) → bound_of limit ≤ 16
bound_most limit = (bound_range limit).1

module _ (s : Sensors) (sensor limit n : ℕ) (sized : length s.ids ≡ 16) (taken : n ≡ min s.count 16) where
  abbrev l : List ℕ
  l = take n s.ids

  -- the list is that of the first n places
  front : sensors_of s ≡ l
  front =
      let e : min s.count (length s.ids) ≡ n = omega arith in
      take_min s.count s.ids ∙ ap (λ (k : ℕ). take k s.ids) e

  front_length : length l ≡ n
  front_length = length-take-le n s.ids (omega arith)

  laid : (m : List ℕ) (k : ℕ) (a : List ℕ) → a ≡ lay m s.ids → k ≡ length m → recorded_of l sensor limit ≡ m → record { ids = a; count = k } ≡ over s (recorded_of (sensors_of s) sensor limit)
  laid m k a p q e = (λ i. record { ids = p i; count = q i }) ∙ ap (over s) (sym (ap (λ (x : List ℕ). recorded_of x sensor limit) front ∙ e))

  pub known : any (is sensor) l ≡ true → record { ids = s.ids; count = n } ≡ over s (recorded_of (sensors_of s) sensor limit)
  unfolding recorded_of
  known h = laid l n s.ids (sym (lay_front n s.ids (omega arith))) (sym front_length) (rw h)

  pub full : any (is sensor) l ≡ false → bound_of limit ≤ n → (a : List ℕ) → a ≡ lay (drop 1 l ++ (sensor ∷ [])) s.ids → record { ids = a; count = n } ≡ over s (recorded_of (sensors_of s) sensor limit)
  unfolding recorded_of
  full h b a p =
      let c : n ≡ length (drop 1 l ++ (sensor ∷ [])) = omega (arith, length-append (drop 1 l) (sensor ∷ []), length-drop 1 l, front_length, bound_least limit) in
      laid (drop 1 l ++ (sensor ∷ [])) n a p c (simp (h, le-leb (bound_of limit) (length l) (omega (arith, front_length))))

  pub room : any (is sensor) l ≡ false → n < bound_of limit → record { ids = set s.ids n sensor; count = n + 1 } ≡ over s (recorded_of (sensors_of s) sensor limit)
  unfolding recorded_of
  room h b =
      let c : n + 1 ≡ length (l ++ (sensor ∷ [])) = omega (arith, length-append l (sensor ∷ []), front_length) in
      laid (l ++ (sensor ∷ [])) (n + 1) (set s.ids n sensor) (push_lay s.ids n sensor (omega (arith, bound_most limit))) c
      (simp (h, lt-leb (bound_of limit) (length l) (omega (arith, front_length))))
