-- The numbers of a line that is read are whole and in range: what every entry of its table is, or `-`, and its row cost.
use Rattle.std.specs.Prelude.{None, Option, Some}
use mathlib.Core.Path.{◌≡◌, refl, sym, ap, ◌∙◌, subst}
use mathlib.Core.Bool.{Bool, true, false, cond, true≢false}
use mathlib.Core.List.{List, [], ◌∷◌}
use Prim.Native.Nat.{ℕ, zero, suc, ◌≤◌}
use native.Mathlib.Omega.{arith}
use borrow.Author.Tests.{leb-true}
use lib.Dec.{eqb, leb}
use lib.IntN.{ℤ, pos, negsuc}
use lib.ListN.{length, drop}
use lib.Ieee.{Float, inf, binary64, of_int}
use lib.Ieee.Back.{round_whole}
use lib.Ieee.Scale.{finite}
use Rattle.whole.specs.Integer.{Within}
use Rattle.whole.specs.Whole.{WholeValue}
use Rattle.lists.specs.Masks.{Every}
use Rattle.least.proofs.Sentinel.{Ranged}
use Rattle.forms.proofs.Shapes.{never}
use Rattle.forms.specs.Shape.{past_word}
use Rattle.forms.specs.Decimal.{limited, value_of, natural_of, minus, plus, decimal_of}
use Rattle.request.specs.Listed.{Reader, also, behind, up_to, listed, inside, bracketed}
use Rattle.line_least.specs.LeastLine.{integer_of}
use Rattle.request.specs.Request.{Sizes, Request, word_of, dash, leaving, cost_of, cost_in, entry_of, blank, argument_of, begins, opening, costed, columned, rowed, head_of, closing, closed, row_of, table_of, tabled, request_of}

same_some : {A : Type 0} (x y : A) → Some x ≡ Some y → x ≡ y
same_some x y e = cc

-- ---- a decimal
abbrev Small : ℤ → Type 0
Small z = Within 1_000_000 (integer_of z)

limited_small : (o : Option ℕ) (n : ℕ) → limited o ≡ Some n → n ≤ 1_000_000
unfolding limited
limited_small None n e = never e
limited_small (Some v) n e = go (leb v 1000000) refl e
  where
    go : (b : Bool) → leb v 1000000 ≡ b → cond b (Some v) None ≡ Some n → n ≤ 1_000_000
    go false q w = never w
    go true q w = subst (λ (k : ℕ). k ≤ 1_000_000) (same_some v n w) (leb-true v 1000000 q)

natural_small : (w : List ℕ) (n : ℕ) → natural_of w ≡ Some n → n ≤ 1_000_000
unfolding natural_of
natural_small [] n e = never e
natural_small (b ∷ []) n e = limited_small (value_of 0 (b ∷ [])) n e
natural_small (b ∷ c ∷ l) n e = go (eqb b 48) e
  where
    go : (x : Bool) → cond x None (limited (value_of 0 (b ∷ c ∷ l))) ≡ Some n → n ≤ 1_000_000
    go true w = never w
    go false w = limited_small (value_of 0 (b ∷ c ∷ l)) n w

minus_small : (o : Option ℕ) (z : ℤ) → ((n : ℕ) → o ≡ Some n → n ≤ 1_000_000) → minus o ≡ Some z → Small z
unfolding minus
minus_small None z h e = never e
minus_small (Some zero) z h e = never e
minus_small (Some (suc n)) z h e = subst Small (same_some (negsuc n) z e) (let l = h (suc n) refl in (omega arith, omega arith))

plus_small : (o : Option ℕ) (z : ℤ) → ((n : ℕ) → o ≡ Some n → n ≤ 1_000_000) → plus o ≡ Some z → Small z
unfolding plus
plus_small None z h e = never e
plus_small (Some n) z h e = subst Small (same_some (pos n) z e) (let l = h n refl in (omega arith, omega arith))

decimal_small : (w : List ℕ) (z : ℤ) → decimal_of w ≡ Some z → Small z
unfolding decimal_of
decimal_small [] z e = never e
decimal_small (b ∷ l) z e = go (eqb b 45) e
  where
    go : (x : Bool) → cond x (minus (natural_of l)) (plus (natural_of (b ∷ l))) ≡ Some z → Small z
    go true w = minus_small (natural_of l) z (natural_small l) w
    go false w = plus_small (natural_of (b ∷ l)) z (natural_small (b ∷ l)) w

int_exact : (z : ℤ) → Small z → WholeValue (of_int binary64 z) (integer_of z)
unfolding of_int
int_exact (pos n) s = record { minus = false; mag = n; val = round_whole binary64 false n (omega arith); is = omega arith }
int_exact (negsuc n) s = record { minus = true; mag = suc n; val = round_whole binary64 true (suc n) (omega arith); is = omega arith }

int_ranged : (z : ℤ) → Small z → Ranged (of_int binary64 z)
int_ranged z s = (integer_of z, int_exact z s, s)

-- the double that stands for a decimal has exactly the decimal's value
pub decimal_exact : (w : List ℕ) (z : ℤ) → decimal_of w ≡ Some z → WholeValue (of_int binary64 z) (integer_of z)
decimal_exact w z e = int_exact z (decimal_small w z e)

-- ---- an entry: a number in range, or one that forbids
abbrev pub Fit : Float → Type 0
Fit x = finite x ≡ true → Ranged x

cost_fit : (o : Option ℤ) (x : Float) → ((z : ℤ) → o ≡ Some z → Small z) → cost_of o ≡ Some x → Fit x
unfolding cost_of
cost_fit None x h e = never e
cost_fit (Some z) x h e = λ f. subst Ranged (same_some (of_int binary64 z) x e) (int_ranged z (h z refl))

in-fit : (w : List ℕ) (x : Float) → cost_in w ≡ Some x → Fit x
unfolding cost_in
in-fit w x e = go (dash w) e
  where
    go : (b : Bool) → cond b (Some (inf false)) (cost_of (decimal_of w)) ≡ Some x → Fit x
    go true q = λ f. absurd (true≢false (sym f ∙ ap finite (sym (same_some (inf false) x q))))
    go false q = cost_fit (decimal_of w) x (decimal_small w) q

-- ---- what a reader leaves behind its value
leaving_is : {X : Type 0} (r : List ℕ) (o : Option X) (x : X) (l : List ℕ) → leaving r o ≡ Some (x, l) → o ≡ Some x
unfolding leaving
leaving_is r None x l e = never e
leaving_is r (Some y) x l e = ap Some (ap (λ (p : _ × List ℕ). p.0) (same_some (y, r) (x, l) e))

entry_fit : (l : List ℕ) (x : Float) (r : List ℕ) → entry_of l ≡ Some (x, r) → Fit x
unfolding entry_of
entry_fit l x r e = in-fit (word_of l) x (leaving_is (past_word l) (cost_in (word_of l)) x r e)

-- ---- lists in brackets: what the reader of one gives holds of all
module _ {X : Type 0} (P : X → Type 0) (one : Reader X) (each : (l : List ℕ) (x : X) (r : List ℕ) → one l ≡ Some (x, r) → P x) where
  abbrev All : Option (List X × List ℕ) → Type 0
  All o = (xs : List X) (r : List ℕ) → o ≡ Some (xs, r) → Every P xs

  also_all : (x : X) (o : Option (List X × List ℕ)) → P x → All o → All (also x o)
  unfolding also Every
  also_all x None p h xs r e = never e
  also_all x (Some (ys, l)) p h xs r e = subst (Every P) (ap (λ (q : List X × List ℕ). q.0) (same_some (x ∷ ys, l) (xs, r) e)) (p, h ys l refl)

  behind_all : (more : Reader (List X)) (o : Option (X × List ℕ)) → ((x : X) (r : List ℕ) → o ≡ Some (x, r) → P x) → ((l : List ℕ) → All (more l)) → All (behind more o)
  unfolding behind Every
  behind_all more None h m xs r e = never e
  behind_all more (Some (x, [])) h m xs r e = never e
  behind_all more (Some (x, c ∷ l)) h m xs r e = go (eqb c 41) (eqb c 32) e
    where
      go : (a b : Bool) → cond a (Some (x ∷ [], l)) (cond b (also x (more l)) None) ≡ Some (xs, r) → Every P xs
      go true b w = subst (Every P) (ap (λ (q : List X × List ℕ). q.0) (same_some (x ∷ [], l) (xs, r) w)) (h x (c ∷ l) refl, tt)
      go false true w = also_all x (more l) (h x (c ∷ l) refl) (m l) xs r w
      go false false w = never w

  up_to_all : (k : ℕ) (l : List ℕ) → All (up_to one k l)
  unfolding up_to
  up_to_all zero l xs r e = never e
  up_to_all (suc k) l xs r e = behind_all (up_to one k) (one l) (each l) (up_to_all k) xs r e

  inside_all : (l : List ℕ) → All (inside one l)
  unfolding inside listed Every
  inside_all [] xs r e = never e
  inside_all (c ∷ l) xs r e = go (eqb c 41) e
    where
      go : (b : Bool) → cond b (Some ([], l)) (up_to one (length (c ∷ l)) (c ∷ l)) ≡ Some (xs, r) → Every P xs
      go true w = subst (Every P) (ap (λ (q : List X × List ℕ). q.0) (same_some ([], l) (xs, r) w)) tt
      go false w = up_to_all (length (c ∷ l)) (c ∷ l) xs r w

  bracketed_all : (l : List ℕ) → All (bracketed one l)
  unfolding bracketed
  bracketed_all [] xs r e = never e
  bracketed_all (b ∷ l) xs r e = go (eqb b 40) e
    where
      go : (x : Bool) → cond x (inside one l) None ≡ Some (xs, r) → Every P xs
      go true w = inside_all l xs r w
      go false w = never w

row_fit : (l : List ℕ) (xs : List Float) (r : List ℕ) → row_of l ≡ Some (xs, r) → Every Fit xs
unfolding row_of
row_fit l xs r e = bracketed_all Fit entry_of entry_fit l xs r e

table_fit : (l : List ℕ) (t : List (List Float)) (r : List ℕ) → table_of l ≡ Some (t, r) → Every (Every Fit) t
unfolding table_of
table_fit l t r e = bracketed_all (Every Fit) row_of row_fit l t r e

-- ---- the head
blank_is : {X : Type 0} (o : Option (X × List ℕ)) (x : X) (r : List ℕ) → blank o ≡ Some (x, r) → (l : List ℕ) × (o ≡ Some (x, l))
unfolding blank
blank_is {X} None x r e = never e
blank_is {X} (Some (y, [])) x r e = never e
blank_is {X} (Some (y, c ∷ l)) x r e = go (eqb c 32) e
  where
    go : (b : Bool) → cond {A = Option (X × List ℕ)} b (Some (y, l)) None ≡ Some (x, r) → (k : List ℕ) × (◌≡◌ {A = Option (X × List ℕ)} (Some (y, c ∷ l)) (Some (x, k)))
    go true w = (c ∷ l, ap (λ (q : X × List ℕ). Some (q.0, c ∷ l)) (same_some (y, l) (x, r) w))
    go false w = never w

argument_small : (l : List ℕ) (z : ℤ) (r : List ℕ) → argument_of l ≡ Some (z, r) → Small z
unfolding argument_of
argument_small l z r e =
    let b = blank_is (leaving (past_word l) (decimal_of (word_of l))) z r e in
    decimal_small (word_of l) z (leaving_is (past_word l) (decimal_of (word_of l)) z b.0 b.1)

abbrev Sized : Option (Sizes × List ℕ) → Type 0
Sized o = (h : Sizes) (l : List ℕ) → o ≡ Some (h, l) → Ranged h.cost

costed_sized : (r c : ℕ) (o : Option (ℤ × List ℕ)) → ((z : ℤ) (l : List ℕ) → o ≡ Some (z, l) → Small z) → Sized (costed r c o)
unfolding costed
costed_sized r c None s h l e = never e
costed_sized r c (Some (k, m)) s h l e = subst Ranged (ap (λ (q : Sizes × List ℕ). q.0.cost) (same_some _ (h, l) e)) (int_ranged k (s k m refl))

columned_sized : (r : ℕ) (o : Option (ℤ × List ℕ)) → Sized (columned r o)
unfolding columned
columned_sized r None h l e = never e
columned_sized r (Some (negsuc c, m)) h l e = never e
columned_sized r (Some (pos c, m)) h l e = costed_sized r c (argument_of m) (argument_small m) h l e

rowed_sized : (o : Option (ℤ × List ℕ)) → Sized (rowed o)
unfolding rowed
rowed_sized None h l e = never e
rowed_sized (Some (negsuc r, m)) h l e = never e
rowed_sized (Some (pos r, m)) h l e = columned_sized r (argument_of m) h l e

head_sized : (s : List ℕ) → Sized (head_of s)
unfolding head_of
head_sized s h l e = go (begins opening s) e
  where
    go : (b : Bool) → cond b (rowed (argument_of (drop 8 s))) None ≡ Some (h, l) → Ranged h.cost
    go true w = rowed_sized (argument_of (drop 8 s)) h l w
    go false w = never w

-- ---- the whole request
pub record Numbers (q : Request) : Type 0 where
  pub cost : Ranged q.sizes.cost
  pub table : Every (Every Fit) q.table

closed_numbers : (h : Sizes) (o : Option (List (List Float) × List ℕ)) (q : Request) → Ranged h.cost → ((t : List (List Float)) (r : List ℕ) → o ≡ Some (t, r) → Every (Every Fit) t) → closed h o ≡ Some q → Numbers q
unfolding closed
closed_numbers h None q c t e = never e
closed_numbers h (Some (x, l)) q c t e = go (closing l) e
  where
    go : (b : Bool) → cond b (Some (record { sizes = h; table = x })) None ≡ Some q → Numbers q
    go true w = subst Numbers (same_some _ q w) (record { cost = c; table = t x l refl })
    go false w = never w

pub request_numbers : (l : List ℕ) (q : Request) → request_of l ≡ Some q → Numbers q
unfolding request_of
request_numbers l q e = go (head_of l) (head_sized l) e
  where
    go : (o : Option (Sizes × List ℕ)) → Sized o → tabled o ≡ Some q → Numbers q
    go None s w = let v : None ≡ Some q = (unfold tabled in w) in never v
    go (Some (h, m)) s w = closed_numbers h (table_of m) q (s h m refl) (table_fit m) (unfold tabled in w)
