-- What a reply of several steps was made of, where it is given, and back. Assumes nothing.
use Rattle.std.proofs.Common.{◌≡◌, ℕ, Bool, true, false, refl, arith}
use Rattle.number.specs.Reply.{Reply, refused, given, and_then, refuse_unless}

pub given_same : {A : Type 0} (x y : A) → given x ≡ given y → x ≡ y
given_same x y e = cc

pub never_given : {A B : Type 0} (n : ℕ) (x : A) → refused n ≡ given x → B
never_given n x e = absurd (let z : ◌≡◌ {A = ℕ} 0 1 = cc in omega arith)

module _ {A B : Type 0} where
  -- both steps were given
  pub bound : (r : Reply A) (f : A → Reply B) (y : B) → and_then r f ≡ given y → (x : A) × (r ≡ given x) × (f x ≡ given y)
  bound (refused n) f y e = never_given n y e
  bound (given x) f y e = (x, refl, e)

  pub then_given : (r : Reply A) (f : A → Reply B) (x : A) → r ≡ given x → and_then r f ≡ f x
  then_given r f x e = rw e

-- the test held
pub past_test : {A : Type 0} (b : Bool) (n : ℕ) (r : Reply A) (x : A) → refuse_unless b n r ≡ given x → (b ≡ true) × (r ≡ given x)
past_test true n r x e = (refl, e)
past_test false n r x e = never_given n x e
