-- What the number reader's proofs use.
use Rattle.std.specs.Prelude.{Option}
use Rattle.std.proofs.Common.{◌≡◌, refl, sym, ap, ◌∙◌, Bool, true, false, cond, List, [], ◌∷◌, ℕ, zero, suc, ◌+◌, ◌-◌, ◌*◌, ◌<◌, ◌≤◌, eqb, leb, add-one, arith, length, take, drop, get_or, length-drop, drop_of_length-le, drop-cons, ℤ, pos, negsuc, ◌-ℤ◌, to_z, of_z, w32, Option, Some, None}
use mathlib.Core.Bool.{true≢false}
use Rattle.std.proofs.lemmas.Bool.Decides.{nat_tests}
use Rattle.std.proofs.lemmas.Int.{ints}
use borrow.Author.Tests.{eq-eqb, ne_eqb, le-leb, lt-leb}
use lib.Seq.{take_all}
use Rattle.std.specs.Char.{is_ascii_digit}
use Rattle.number.specs.Reply.{Reply, refused, given}
use Rattle.forms.specs.Decimal.{digit, value_of, limited, natural_of, minus, plus, decimal_of, natural_reply, reply_of_natural, signed_reply, decimal_reply, reply_of_decimal}

-- a value that is over the limit stays over it
over : (l : List ℕ) (v : ℕ) → 1000000 < v → limited (value_of v l) ≡ None
unfolding value_of limited
over [] v h = rw (lt-leb v 1000000 h)
over (b ∷ l) v h = go (digit b) (over l (v * 10 + (b - 48)) (omega arith))
  where
    go : (t : Bool) → limited (value_of (v * 10 + (b - 48)) l) ≡ None → limited (cond t (value_of (v * 10 + (b - 48)) l) None) ≡ None
    go true e = e
    go false e = refl

module _ (w : List ℕ) (i v : ℕ) (h : i < length w) where
  opens : drop i w ≡ get_or w i 0 ∷ drop (i + 1) w
  opens = rw (add-one, drop-cons w i 0)

  pub other : is_ascii_digit (get_or w i 0) ≡ false → limited (value_of v (drop i w)) ≡ None
  unfolding value_of limited
  other e = rw (opens, e)

  pub step : is_ascii_digit (get_or w i 0) ≡ true → value_of v (drop i w) ≡ value_of (v * 10 + (get_or w i 0 - 48)) (drop (i + 1) w)
  unfolding value_of
  step e = rw (opens, e)

  pub too_large : is_ascii_digit (get_or w i 0) ≡ true → 1000000 < v * 10 + (get_or w i 0 - 48) → limited (value_of v (drop i w)) ≡ None
  too_large e o = rw (step e) (over (drop (i + 1) w) (v * 10 + (get_or w i 0 - 48)) o)

pub ended : (w : List ℕ) (i v : ℕ) → length w ≤ i → v ≤ 1000000 → limited (value_of v (drop i w)) ≡ Some v
unfolding value_of limited
ended w i v h g = rw (drop_of_length-le w h, le-leb v 1000000 g)

-- ---- no leading zero
pub none_of : (w : List ℕ) → length w ≡ 0 → natural_of w ≡ None
unfolding natural_of
none_of [] h = refl
none_of (b ∷ l) h = absurd (omega arith)

pub one_of_lem : (w : List ℕ) → length w ≡ 1 → natural_of w ≡ limited (value_of 0 w)
unfolding natural_of
one_of_lem [] h = absurd (omega arith)
one_of_lem (b ∷ []) h = refl
one_of_lem (b ∷ c ∷ l) h = absurd (omega arith)

pub led_of : (w : List ℕ) → (length w ≡ 0 → ⊥) → (length w ≡ 1 → ⊥) → get_or w 0 0 ≡ 48 → natural_of w ≡ None
unfolding natural_of
led_of [] f g e = absurd (f refl)
led_of (b ∷ []) f g e = absurd (g refl)
led_of (b ∷ c ∷ l) f g e = rw (eq-eqb b 48 e)

pub many_of : (w : List ℕ) → (length w ≡ 0 → ⊥) → (length w ≡ 1 → ⊥) → (get_or w 0 0 ≡ 48 → ⊥) → natural_of w ≡ limited (value_of 0 w)
unfolding natural_of
many_of [] f g e = absurd (f refl)
many_of (b ∷ []) f g e = absurd (g refl)
many_of (b ∷ c ∷ l) f g e = rw (ne_eqb b 48 e)

-- ---- what an answer says
limited_small : (o : Option ℕ) (n : ℕ) → given n ≡ natural_reply (limited o) → n ≤ 1000000
unfolding limited
limited_small None n h = absurd (let z : ◌≡◌ {A = ℕ} 0 1 = cc in omega arith)
limited_small (Some v) n h = go (leb v 1000000) refl h
  where
    go : (t : Bool) → leb v 1000000 ≡ t → given n ≡ natural_reply (cond t (Some v) None) → n ≤ 1000000
    go true e g = let u : n ≡ v = cc in grind (arith, nat_tests)
    go false e g = absurd (let z : ◌≡◌ {A = ℕ} 0 1 = cc in omega arith)

-- a count is in the range
pub counted_small : (w : List ℕ) (n : ℕ) → given n ≡ natural_reply (natural_of w) → n ≤ 1000000
unfolding natural_of
counted_small [] n h = absurd (let z : ◌≡◌ {A = ℕ} 0 1 = cc in omega arith)
counted_small (b ∷ []) n h = limited_small _ n h
counted_small (b ∷ c ∷ l) n h = go (eqb b 48) h
  where
    go : (t : Bool) → given n ≡ natural_reply (cond t None (limited (value_of 0 (b ∷ c ∷ l)))) → n ≤ 1000000
    go true g = absurd (let z : ◌≡◌ {A = ℕ} 0 1 = cc in omega arith)
    go false g = limited_small _ n g

-- ---- a sign: what the count behind it, or of the whole word, makes
abbrev pub negated : Option ℕ → Reply (Bool × ℕ)
negated None = refused 13
negated (Some zero) = refused 13
negated (Some (suc n)) = given (true, suc n)

abbrev pub plain : Option ℕ → Reply (Bool × ℕ)
plain None = refused 13
plain (Some n) = given (false, n)

minus_of : (a : Option ℕ) (o : Option ℕ) → reply_of_natural a ≡ natural_reply o → negated a ≡ decimal_reply (minus o)
unfolding minus
minus_of None None h = refl
minus_of None (Some n) h = cc
minus_of (Some k) None h = absurd (let z : ◌≡◌ {A = ℕ} 0 1 = cc in omega arith)
minus_of (Some zero) (Some n) h = let e : n ≡ zero = cc in rw e
minus_of (Some (suc k)) (Some n) h = let e : n ≡ suc k = cc in rw e

plus_of : (a : Option ℕ) (o : Option ℕ) → reply_of_natural a ≡ natural_reply o → plain a ≡ decimal_reply (plus o)
unfolding plus
plus_of None None h = refl
plus_of None (Some n) h = cc
plus_of (Some k) None h = absurd (let z : ◌≡◌ {A = ℕ} 0 1 = cc in omega arith)
plus_of (Some k) (Some n) h = let e : n ≡ k = cc in rw e

whole : (w : List ℕ) → take (length w - 1) (drop 1 w) ≡ drop 1 w
whole w = take_all (length w - 1) (drop 1 w) (simp length-drop (omega arith))

pub no_dash : (w : List ℕ) → length w < 1 → get_or w 0 0 ≡ 45 → ⊥
no_dash [] h e = omega arith
no_dash (b ∷ l) h e = omega arith

pub signed : (w : List ℕ) (a : Option ℕ) → 1 ≤ length w → get_or w 0 0 ≡ 45 → reply_of_natural a ≡ natural_reply (natural_of (take (length w - 1) (drop 1 w))) → negated a ≡ decimal_reply (decimal_of w)
unfolding decimal_of
signed [] a h e r = absurd (omega arith)
signed (b ∷ l) a h e r =
    let q : reply_of_natural a ≡ natural_reply (natural_of l) = r ∙ ap (λ (m : List ℕ). natural_reply (natural_of m)) (whole (b ∷ l)) in
    rw (eq-eqb b 45 e) (minus_of a (natural_of l) q)

pub unsigned : (w : List ℕ) (a : Option ℕ) → (get_or w 0 0 ≡ 45 → ⊥) → reply_of_natural a ≡ natural_reply (natural_of w) → plain a ≡ decimal_reply (decimal_of w)
unfolding decimal_of natural_of plus
unsigned [] a f r = plus_of a None r
unsigned (b ∷ l) a f r = rw (ne_eqb b 45 f) (plus_of a (natural_of (b ∷ l)) r)

-- ---- the same as signed numbers of 32 bits
pub minus_is : (n : ℕ) → (n ≡ 0 → ⊥) → n ≤ 1000000 → signed_reply (to_z w32 (of_z w32 (pos 0 -ℤ to_z w32 n))) ≡ negated (Some n)
minus_is zero f h = absurd (f refl)
minus_is (suc k) f h = let e : to_z w32 (of_z w32 (pos 0 -ℤ to_z w32 (suc k))) ≡ negsuc k = omega (arith, ints) in rw e

pub plus_is : (n : ℕ) → n ≤ 1000000 → signed_reply (to_z w32 n) ≡ plain (Some n)
plus_is n h = let e : to_z w32 n ≡ pos n = omega (arith, ints) in rw e

-- ---- what the answer to a number says
pub no_value : (o : Option ℤ) → reply_of_decimal None ≡ decimal_reply o → o ≡ None
no_value None h = refl
no_value (Some (pos n)) h = absurd (let z : ◌≡◌ {A = ℕ} 0 1 = cc in omega arith)
no_value (Some (negsuc n)) h = absurd (let z : ◌≡◌ {A = ℕ} 0 1 = cc in omega arith)

-- sign and size of a number that is given
sized : (x y : Bool × ℕ) → given x ≡ given y → (x.0 ≡ y.0) × (x.1 ≡ y.1)
sized x y e = let z : x ≡ y = cc in (ap (λ (p : Bool × ℕ). p.0) z, ap (λ (p : Bool × ℕ). p.1) z)

pub value_is : (o : Option ℤ) (z : ℤ) → reply_of_decimal (Some z) ≡ decimal_reply o → o ≡ Some z
value_is None (pos n) h = absurd (let z : ◌≡◌ {A = ℕ} 0 1 = cc in omega arith)
value_is None (negsuc n) h = absurd (let z : ◌≡◌ {A = ℕ} 0 1 = cc in omega arith)
value_is (Some (pos m)) (pos n) h = ap (λ (k : ℕ). Some (pos k)) (sym (sized (false, n) (false, m) h).1)
value_is (Some (negsuc m)) (pos n) h = absurd (true≢false (sym (sized (false, n) (true, suc m) h).0))
value_is (Some (pos m)) (negsuc n) h = absurd (true≢false (sized (true, suc n) (false, m) h).0)
value_is (Some (negsuc m)) (negsuc n) h =
    let e : suc n ≡ suc m = (sized (true, suc n) (true, suc m) h).1 in
    let k : m ≡ n = omega arith in
    rw k
