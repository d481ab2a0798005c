-- Words: what a number's and an entry's answers say.
use Rattle.std.specs.Prelude.{Option}
use mathlib.Core.Path.{◌≡◌, refl, ap, ◌∙◌}
use mathlib.Core.Bool.{Bool, true, false, ◌&&◌}
use mathlib.Core.List.{List, [], ◌∷◌}
use Prim.Native.Nat.{ℕ, ◌+◌, ◌-◌, ◌<◌, ◌≤◌}
use native.Mathlib.Numerals.{add-one}
use native.Mathlib.Omega.{arith}
use borrow.Author.Tests.{ne_eqb}
use lib.Dec.{eqb}
use lib.IntN.{ℤ, pos, negsuc, nat_abs}
use lib.ListN.{length, take, drop, get_or, length-drop, drop_of_length-le}
use lib.Seq.{drop-cons}
use lib.Ieee.{Float, binary64, of_int, of_bits, of_fields, inf}
use Rattle.std.proofs.Common.{Option, Some, None, Result, Ok, Err, SFits, w32}
use Rattle.std.specs.Int.{FitsUnsignedBits}
use Rattle.std.specs.Result.{OkIff, result_ok}
use Rattle.std.proofs.lemmas.Int.{ints}
use Rattle.request.specs.declared.words.Found.{Found}
use Rattle.std.proofs.lemmas.Bool.Decides.{nat_tests}
use Rattle.std.specs.Cmp.Lexicographic.{pointwise}
use Rattle.forms.specs.Shape.{word_end}
use Rattle.forms.proofs.Shapes.{Passed, passed}
use Rattle.forms.specs.Decimal.{decimal_of}
use Rattle.request.specs.Request.{word_of, dash, leaving, cost_of, cost_in, cost_answer, entry_of, blank, argument_of, counted, count_of, begins, closing, found_of}
use Rattle.request.proofs.Lists.{place}

-- ---- bytes compared with a text
same : (b c : ℕ) → eqb b c ≡ eqb c b
same b c = grind (arith, nat_tests)

and_end : (t : Bool) → t && true ≡ t
and_end true = refl
and_end false = refl

and_more : (t : Bool) → t && false ≡ false
and_more true = refl
and_more false = refl

pub dash_is : (w : List ℕ) → pointwise eqb w (45 ∷ []) ≡ dash w
unfolding dash
dash_is [] = refl
dash_is (b ∷ []) = and_end (eqb b 45)
dash_is (b ∷ c ∷ l) = and_more (eqb b 45)

pub closing_is : (l : List ℕ) → pointwise eqb l (41 ∷ 10 ∷ []) ≡ closing l
unfolding closing
closing_is [] = refl
closing_is (a ∷ []) = and_more (eqb a 41)
closing_is (a ∷ b ∷ []) = ap (λ (t : Bool). eqb a 41 && t) (and_end (eqb b 10))
closing_is (a ∷ b ∷ c ∷ l) = ap (λ (t : Bool). eqb a 41 && t) (and_more (eqb b 10)) ∙ and_more (eqb a 41)

pub begins_is : (t s : List ℕ) → pointwise eqb t (take (length t) s) ≡ begins t s
unfolding begins
begins_is [] s = refl
begins_is (b ∷ t) [] = refl
begins_is (b ∷ t) (c ∷ l) = rw (same b c, begins_is t l)

-- ---- the word at `at`, which ends at e
module _ (s : List ℕ) (at e : ℕ) (b : at ≤ length s) (q : e ≡ word_end s at) where
  p : Passed s at e
  p = passed s at e b q

  abbrev w : List ℕ
  w = take (e - at) (drop at s)

  pub inside_line : e ≤ length s
  inside_line = p.within

  word_is : word_of (drop at s) ≡ w
  unfolding word_of
  word_is =
      let g : e ≤ length s = inside_line in
      let k : length (drop at s) - length (drop e s) ≡ e - at = simp length-drop (omega (arith, p.past)) in
      rw (← p.left, k)

  entry_is : entry_of (drop at s) ≡ leaving (drop e s) (cost_in w)
  unfolding entry_of
  entry_is = rw (word_is, ← p.left)

  pub entry_none : None ≡ cost_answer (cost_in w) → None ≡ found_of s (entry_of (drop at s))
  unfolding leaving
  entry_none h = rw entry_is (go (cost_in w) h)
    where
      go : (o : Option Float) → None ≡ cost_answer o → None ≡ found_of s (leaving (drop e s) o)
      go None g = refl
      go (Some x) g = absurd (let z : ◌≡◌ {A = ℕ} 0 1 = cc in omega arith)

  pub entry_some : (x : Float) → Some x ≡ cost_answer (cost_in w) → Some (record { value = x; end = e }) ≡ found_of s (entry_of (drop at s))
  unfolding leaving
  entry_some x h = rw entry_is (go (cost_in w) h)
    where
      go : (o : Option Float) → Some x ≡ cost_answer o → Some (record { value = x; end = e }) ≡ found_of s (leaving (drop e s) o)
      go None g = absurd (let z : ◌≡◌ {A = ℕ} 0 1 = cc in omega arith)
      go (Some y) g = let u : y ≡ x = cc in rw (u, place s e inside_line)

  argument_is : argument_of (drop at s) ≡ blank (leaving (drop e s) (decimal_of w))
  unfolding argument_of
  argument_is = rw (word_is, ← p.left)

  pub argument_ends : length s ≤ e → None ≡ found_of s (argument_of (drop at s))
  unfolding blank leaving
  argument_ends h = rw (argument_is, drop_of_length-le s h) (go (decimal_of w))
    where
      go : (o : Option ℤ) → None ≡ found_of s (blank (leaving [] o))
      go None = refl
      go (Some z) = refl

  pub argument_none : decimal_of w ≡ None → None ≡ found_of s (argument_of (drop at s))
  unfolding blank leaving
  argument_none h = rw (argument_is, h)

  module _ (h : e < length s) where
    next_is : drop e s ≡ get_or s e 0 ∷ drop (e + 1) s
    next_is = rw (add-one, drop-cons s e 0)

    pub argument_other : (get_or s e 0 ≡ 32 → ⊥) → None ≡ found_of s (argument_of (drop at s))
    unfolding blank leaving
    argument_other g = rw (argument_is, next_is) (go (decimal_of w))
      where
        go : (o : Option ℤ) → None ≡ found_of s (blank (leaving (get_or s e 0 ∷ drop (e + 1) s) o))
        go None = refl
        go (Some z) = rw (ne_eqb _ _ g)

    pub argument_some : get_or s e 0 ≡ 32 → (z : ℤ) → decimal_of w ≡ Some z → Some (record { value = z; end = e + 1 }) ≡ found_of s (argument_of (drop at s))
    unfolding blank leaving
    argument_some g z d = rw (argument_is, next_is, d, g, place s (e + 1) (omega arith))

-- ---- a word's cost
pub cost_dash : (w : List ℕ) → dash w ≡ true → Some (inf false) ≡ cost_answer (cost_in w)
unfolding cost_in
cost_dash w h = rw h

pub cost_none : (w : List ℕ) → dash w ≡ false → decimal_of w ≡ None → None ≡ cost_answer (cost_in w)
unfolding cost_in cost_of
cost_none w h g = rw (h, g)

pub cost_some : (w : List ℕ) (z : ℤ) → dash w ≡ false → decimal_of w ≡ Some z → Some (of_int binary64 z) ≡ cost_answer (cost_in w)
unfolding cost_in cost_of
cost_some w z h g = rw (h, g)

-- +infinity
pub infinite : of_bits binary64 0x7ff0_0000_0000_0000 ≡ inf false
unfolding of_bits of_fields
infinite = refl

-- ---- a number that is not below zero
unfoldable pub natural : ℤ → Option ℕ
natural (pos n) = Some n
natural (negsuc n) = None

pub converted : {E : Type 0} (z : ℤ) (r : Result ℕ E) → SFits w32 z → OkIff r (FitsUnsignedBits 32 z) (nat_abs z) → result_ok r ≡ natural z
unfolding natural
converted (pos n) (Ok x) f h = ap (λ (k : ℕ). Some k) h.1
converted (pos n) (Err e) f h = absurd (h (omega (arith, ints)))
converted (negsuc n) (Ok x) f h = absurd h.0
converted (negsuc n) (Err e) f h = refl

module _ (s : List ℕ) where
  count_of_none : (o : Option (ℤ × List ℕ)) → None ≡ found_of s o → None ≡ found_of s (counted o)
  unfolding counted
  count_of_none None h = refl
  count_of_none (Some (pos n, l)) h = absurd (let z : ◌≡◌ {A = ℕ} 0 1 = cc in omega arith)
  count_of_none (Some (negsuc n, l)) h = refl

  count_of_below : (o : Option (ℤ × List ℕ)) (f : Found ℤ) → Some f ≡ found_of s o → None ≡ natural f.value → None ≡ found_of s (counted o)
  unfolding counted natural
  count_of_below None f h g = refl
  count_of_below (Some (pos n, l)) f h g =
      let u : f ≡ record { value = pos n; end = length s - length l } = cc in
      let v : None ≡ Some n = g ∙ ap (λ (x : Found ℤ). natural x.value) u in
      absurd (let z : ◌≡◌ {A = ℕ} 0 1 = cc in omega arith)
  count_of_below (Some (negsuc n, l)) f h g = refl

  count_of_some : (o : Option (ℤ × List ℕ)) (f : Found ℤ) (v : ℕ) → Some f ≡ found_of s o → Some v ≡ natural f.value → Some (record { value = v; end = f.end }) ≡ found_of s (counted o)
  unfolding counted natural
  count_of_some None f v h g = absurd (let z : ◌≡◌ {A = ℕ} 0 1 = cc in omega arith)
  count_of_some (Some (pos n, l)) f v h g =
      let u : f ≡ record { value = pos n; end = length s - length l } = cc in
      let w : Some v ≡ Some n = g ∙ ap (λ (x : Found ℤ). natural x.value) u in
      let k : v ≡ n = cc in
      rw k (ap (λ (x : Found ℤ). Some (record { value = n; end = x.end })) u)
  count_of_some (Some (negsuc n, l)) f v h g =
      let u : f ≡ record { value = negsuc n; end = length s - length l } = cc in
      let w : Some v ≡ None = g ∙ ap (λ (x : Found ℤ). natural x.value) u in
      absurd (let z : ◌≡◌ {A = ℕ} 0 1 = cc in omega arith)

  module _ (at : ℕ) where
    pub count_none : None ≡ found_of s (argument_of (drop at s)) → None ≡ found_of s (count_of (drop at s))
    unfolding count_of
    count_none h = count_of_none (argument_of (drop at s)) h

    pub count_below : (f : Found ℤ) → Some f ≡ found_of s (argument_of (drop at s)) → None ≡ natural f.value → None ≡ found_of s (count_of (drop at s))
    unfolding count_of
    count_below f h g = count_of_below (argument_of (drop at s)) f h g

    pub count_some : (f : Found ℤ) (v : ℕ) → Some f ≡ found_of s (argument_of (drop at s)) → Some v ≡ natural f.value → Some (record { value = v; end = f.end }) ≡ found_of s (count_of (drop at s))
    unfolding count_of
    count_some f v h g = count_of_some (argument_of (drop at s)) f v h g
