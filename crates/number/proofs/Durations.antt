-- A difference that is checked as std checks it is the reply of 01. Assumes nothing.
use Rattle.std.proofs.Common.{◌≡◌, ℕ, suc, ◌-◌, ◌^◌, ◌<◌, ◌≤◌, Bool, true, false, cond, ltb, ℤ, pos, negsuc, ◌-ℤ◌, refl, ap, w64, SFits, to_z, of_z, to_z-of_z, ltb-false, ltb-true, lt-ltb, Option, Some, None, SomeIff}
use lib.IntN.{sub_ℕ}
use lib.Signed.{mag}
use Rattle.number.specs.Reply.{given}
use Rattle.number.specs.Time.{duration_reply, reply_of_duration}

-- what holds of a difference of two naturals, by which is larger
pub sub_cases : (P : ℤ → Type 0) (a b : ℕ) → (a < b → P (negsuc (b - suc a))) → (b ≤ a → P (pos (a - b))) → P (sub_ℕ a b)
sub_cases P a b f g = go (ltb a b) refl
  where
    go : (t : Bool) → ltb a b ≡ t → P (cond t (negsuc (b - suc a)) (pos (a - b)))
    go true e = f (ltb-true a b e)
    go false e = g (ltb-false a b e)

held : (now earlier : ℤ) (o : Option ℤ) → SomeIff o (SFits w64 (now -ℤ earlier)) (now -ℤ earlier) → reply_of_duration o ≡ duration_reply now earlier
unfolding duration_reply
held now earlier None h = go (ltb (mag (now -ℤ earlier)) (2 ^ 63)) refl
  where
    go : (b : Bool) → ltb (mag (now -ℤ earlier)) (2 ^ 63) ≡ b → reply_of_duration None ≡ duration_reply now earlier
    go true e = absurd (h (record { sfits = ltb-true _ _ e }))
    go false e = rw e
held now earlier (Some d) (f, e) = rw (lt-ltb (mag (now -ℤ earlier)) (2 ^ 63) f.sfits) (ap given e)

-- times as code has them, by their bits
pub checked : (now earlier : ℤ) (o : Option ℤ) → SFits w64 now → SFits w64 earlier
    → SomeIff o (SFits w64 (to_z w64 (of_z w64 now) -ℤ to_z w64 (of_z w64 earlier))) (to_z w64 (of_z w64 now) -ℤ to_z w64 (of_z w64 earlier))
    → reply_of_duration o ≡ duration_reply now earlier
checked now earlier o f g h = held now earlier o (rw (to_z-of_z f, to_z-of_z g) at h)
