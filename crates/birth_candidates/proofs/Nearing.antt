-- Candidates by themselves: whether one stays, and the nearest, one candidate after another. Assumes nothing.
use Rattle.std.specs.Prelude.{None, Option, Some}
use mathlib.Core.Path.{◌≡◌, refl, sym, ap, ◌∙◌}
use mathlib.Core.Bool.{Bool, true, false}
use mathlib.Core.List.{List, [], ◌∷◌, ◌++◌}
use Prim.Native.Nat.{ℕ, suc, ◌+◌, ◌<◌}
use native.Mathlib.Omega.{arith}
use native.Mathlib.Numerals.{add-one}
use lib.IntN.{ℤ}
use lib.Signed.{le_z}
use lib.Ieee.{Float, lt}
use lib.ListN.{length, take, get_or}
use lib.Seq.{take-suc, length-take-le}
use Rattle.number.specs.Reply.{given, and_then, reply_or}
use Rattle.number.specs.Time.{duration_reply, same_time}
use Rattle.number.proofs.Zeros.{impossible}
use Rattle.detections.specs.Births.{distance_of}
use Rattle.detections.specs.declared.Detection.{Detection}
use Rattle.types.specs.declared.tracker.BirthCandidate.{BirthCandidate}
use Rattle.calls.specs.Births.{stays, Nearest, better, within, considered, nearest_from}
use Rattle.birth_candidates.specs.declared.Near.{Near}
use Rattle.birth_candidates.specs.Candidates.{near_of}

-- ---- whether one stays

pub stays_by : (timeout now : ℤ) (x : BirthCandidate) (o : Option ℤ) → reply_or 8 o ≡ duration_reply now x.last_seen → and_then (reply_or 8 o) (λ age. given (le_z age timeout)) ≡ stays timeout now x
unfolding stays
stays_by timeout now x o e = ap (λ r. and_then r (λ age. given (le_z age timeout))) e

-- ---- the nearer of two

module _ (radius : Float) (now : ℤ) (d : Detection) (i : ℕ) (x : BirthCandidate) where
  abbrev far : Float
  far = distance_of x.position d.position

  pub seen_now : (best : Option Near) (o : Option Nearest) → same_time x.last_seen now ≡ true → best ≡ near_of o → best ≡ near_of (considered radius now d i x o)
  unfolding considered within
  seen_now best o e q = rw e q

  pub too_far : (best : Option Near) (o : Option Nearest) → same_time x.last_seen now ≡ false → lt far radius ≡ false → best ≡ near_of o → best ≡ near_of (considered radius now d i x o)
  unfolding considered within
  too_far best o e f q = rw (e, f) q

  pub farther : (best : Near) (o : Option Nearest) → same_time x.last_seen now ≡ false → lt far radius ≡ true → lt far best.distance ≡ false → Some best ≡ near_of o
      → Some best ≡ near_of (considered radius now d i x o)
  unfolding considered within better
  farther best None e f g q = absurd (let z : ◌≡◌ {A = ℕ} 0 1 = cc in omega arith)
  farther best (Some b) e f g q =
      let z : best.distance ≡ b.distance = cc in
      rw (e, f, rw z at g) q

  pub closer : (best : Near) (o : Option Nearest) → same_time x.last_seen now ≡ false → lt far radius ≡ true → lt far best.distance ≡ true → Some best ≡ near_of o
      → Some (record { at = i; distance = far }) ≡ near_of (considered radius now d i x o)
  unfolding considered within better
  closer best None e f g q = absurd (let z : ◌≡◌ {A = ℕ} 0 1 = cc in omega arith)
  closer best (Some b) e f g q =
      let z : best.distance ≡ b.distance = cc in
      rw (e, f, rw z at g)

  pub first : (o : Option Nearest) → same_time x.last_seen now ≡ false → lt far radius ≡ true → None ≡ near_of o → Some (record { at = i; distance = far }) ≡ near_of (considered radius now d i x o)
  unfolding considered within better
  first None e f q = rw (e, f)
  first (Some b) e f q = absurd (let z : ◌≡◌ {A = ℕ} 0 1 = cc in omega arith)

  -- the two answers of `is_none_or`
  pub chosen : (best : Option Near) (r : Bool) (o : Option Nearest) → same_time x.last_seen now ≡ false → lt far radius ≡ true → ((b : Near) → best ≡ Some b → r ≡ lt far b.distance) → r ≡ true → best ≡ near_of o
      → Some (record { at = i; distance = far }) ≡ near_of (considered radius now d i x o)
  chosen None r o e f h t q = first o e f q
  chosen (Some b) r o e f h t q = closer b o e f (sym (h b refl) ∙ t) q

  pub passed_over : (best : Option Near) (r : Bool) (o : Option Nearest) → same_time x.last_seen now ≡ false → lt far radius ≡ true → (best ≡ None → r ≡ true) → ((b : Near) → best ≡ Some b → r ≡ lt far b.distance)
      → r ≡ false → best ≡ near_of o → best ≡ near_of (considered radius now d i x o)
  passed_over None r o e f n h t q = impossible (sym t ∙ n refl)
  passed_over (Some b) r o e f n h t q = farther b o e f (sym (h b refl) ∙ t) q

-- ---- one after another

module _ (radius : Float) (now : ℤ) (d : Detection) where
  nearest_snoc : (i : ℕ) (o : Option Nearest) (l : List BirthCandidate) (x : BirthCandidate)
      → nearest_from radius now d i o (l ++ (x ∷ [])) ≡ considered radius now d (i + length l) x (nearest_from radius now d i o l)
  unfolding nearest_from
  nearest_snoc i o [] x = let z : i + 0 ≡ i = omega arith in rw z
  nearest_snoc i o (y ∷ l) x =
      let z : i + suc (length l) ≡ suc i + length l = omega arith in
      rw z (nearest_snoc (suc i) (considered radius now d i y o) l x)

  pub nearest_more : (l : List BirthCandidate) (i : ℕ) (a : BirthCandidate) → i < length l
      → nearest_from radius now d 0 None (take (i + 1) l) ≡ considered radius now d i (get_or l i a) (nearest_from radius now d 0 None (take i l))
  nearest_more l i a h =
      let z : 0 + length (take i l) ≡ i = (let q = length-take-le i l (omega arith) in omega arith) in
      rw (add-one, take-suc l i a h, nearest_snoc 0 None (take i l) (get_or l i a), z)
