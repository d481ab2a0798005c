-- The nearest candidate stands at the place that is told of it. Assumes nothing.
use Rattle.std.specs.Prelude.{None, Option, Some}
use mathlib.Core.Path.{◌≡◌}
use mathlib.Core.List.{List, [], ◌∷◌}
use mathlib.Core.Bool.{Bool, true, false, cond}
use Prim.Native.Nat.{ℕ, suc, ◌+◌, ◌<◌}
use native.Mathlib.Omega.{arith}
use lib.IntN.{ℤ}
use lib.Ieee.{Float, lt}
use lib.ListN.{length, get_or}
use Rattle.detections.specs.declared.Detection.{Detection}
use Rattle.detections.specs.Births.{distance_of}
use Rattle.types.specs.declared.tracker.BirthCandidate.{BirthCandidate}
use Rattle.calls.specs.Births.{Nearest, within, better, considered, nearest_from}

module _ (radius : Float) (now : ℤ) (d : Detection) (all : List BirthCandidate) (a : BirthCandidate) where
  Stands : Option Nearest → Type 0
  Stands None = Unit {0}
  Stands (Some n) = (n.place < length all) × (get_or all n.place a ≡ n.candidate)

  better_stands : (n : Nearest) (o : Option Nearest) → Stands (Some n) → Stands o → Stands (Some (better n o))
  unfolding better
  better_stands n None h g = h
  better_stands n (Some best) h g = go (lt n.distance best.distance)
    where
      go : (b : Bool) → Stands (Some (cond b n best))
      go true = h
      go false = g

  considered_stands : (i : ℕ) (k : BirthCandidate) (o : Option Nearest) → i < length all → get_or all i a ≡ k → Stands o → Stands (considered radius now d i k o)
  unfolding considered Stands
  considered_stands i k o h e g = go (within radius now d k)
    where
      go : (b : Bool) → Stands (cond b (Some (better (record { place = i; candidate = k; distance = distance_of k.position d.position }) o)) o)
      go true = better_stands _ o (h, e) g
      go false = g

  stands_from : (i : ℕ) (o : Option Nearest) (l : List BirthCandidate) → length all ≡ i + length l → ((k : ℕ) → k < length l → get_or all (i + k) a ≡ get_or l k a) → Stands o → Stands (nearest_from radius now d i o l)
  unfolding nearest_from
  stands_from i o [] w f g = g
  stands_from i o (k ∷ l) w f g =
      let z : i + 0 ≡ i = omega arith in
      let first : get_or all i a ≡ k = rw z at (f 0 (omega arith)) in
      stands_from (suc i) (considered radius now d i k o) l (omega arith)
      (λ j h. let z : suc i + j ≡ i + suc j = omega arith in rw z (f (suc j) (omega arith)))
      (considered_stands i k o (omega arith) first g)

pub nearest_stands : (radius : Float) (now : ℤ) (d : Detection) (l : List BirthCandidate) (a : BirthCandidate) (n : Nearest) → nearest_from radius now d 0 None l ≡ Some n
    → (n.place < length l) × (get_or l n.place a ≡ n.candidate)
unfolding Stands
nearest_stands radius now d l a n e =
    rw e at (stands_from radius now d l a 0 None l (omega arith) (λ k h. let z : 0 + k ≡ k = omega arith in rw z) tt)
