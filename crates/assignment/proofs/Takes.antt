-- One column more that takes its row, and columns that stand in the front of an array.
use mathlib.Core.Path.{◌≡◌, refl, sym, ap, ◌∙◌, subst}
use mathlib.Core.Bool.{Bool, true, false, cond}
use mathlib.Core.List.{List}
use Prim.Native.Nat.{ℕ, zero, suc, ◌+◌, ◌≤◌, ◌<◌}
use native.Mathlib.Decide.{ℕ_discrete, dec_lt}
use native.Mathlib.Omega.{arith}
use borrow.Author.Tests.{le-ltb}
use lib.Dec.{ltb}
use lib.ListN.{get_or, set, length, take, length-set}
use lib.Seq.{get_or-set_same, get_or-set_other, get_or-take, length-take-le}
use Rattle.groups.specs.Picks.{ticks}
use Rattle.groups.proofs.Picking.{ticks_on, ticks_off, ticks_same}
use Rattle.assignment.specs.Picks.{bears}
use Rattle.assignment.proofs.Picking.{bears_front}
use Rattle.assignment.specs.Taking.{taker_number, Taken}

-- the first r members give what the whole array gives
taker_front : (members : List ℕ) (r : ℕ) → r ≤ length members → (t : ℕ) → taker_number (take r members) (length (take r members)) t ≡ taker_number members r t
taker_front members r h zero = refl
taker_front members r h (suc i) = ap (λ (n : ℕ). cond (ltb i n) (get_or (take r members) i 0) 64) (length-take-le r members h) ∙ go (dec_lt i r)
  where
    go : Dec (i < r) → cond (ltb i r) (get_or (take r members) i 0) 64 ≡ cond (ltb i r) (get_or members i 0) 64
    go (yes l) = ap (λ (x : ℕ). cond (ltb i r) x 64) (get_or-take r members i 0 l)
    go (no n) = rw (le-ltb i r (omega arith))

module _ (names : List ℕ) (g : ℕ) (p : List ℕ) (r : ℕ) (members before : List ℕ) where
  abbrev given : ℕ → ℕ
  given j = taker_number members r (get_or p (ticks (bears names g) j + 1) 0)

  pub record Taking (j k : ℕ) (after : List ℕ) : Type 0 where
    pub long : length after ≡ 64
    pub count : k ≡ ticks (bears names g) j
    pub done : (x : ℕ) → x < j → get_or after x 0 ≡ cond (bears names g x) (given x) (get_or before x 0)
    pub rest : (x : ℕ) → j ≤ x → get_or after x 0 ≡ get_or before x 0

  pub taking_none : length before ≡ 64 → Taking 0 0 before
  unfolding ticks
  taking_none h = record { long = h; count = refl; done = λ x l. absurd (under x l); rest = λ x l. refl }
    where
      under : (x : ℕ) → x < 0 → ⊥
      under x l = omega arith

  module _ (j k : ℕ) (after : List ℕ) (h : j < 64) (t : Taking j k after) where
    pub taking_skip : bears names g j ≡ false → Taking (j + 1) k after
    taking_skip e = record { long = t.long; count = t.count ∙ sym (ticks_off (bears names g) j e); done = λ x l. at x l (ℕ_discrete x j); rest = λ x l. t.rest x (omega arith) }
      where
        at : (x : ℕ) → x < j + 1 → Dec (x ≡ j) → get_or after x 0 ≡ cond (bears names g x) (given x) (get_or before x 0)
        at x l (yes q) = t.rest x (omega arith) ∙ ap (λ (b : Bool). cond b (given x) (get_or before x 0)) (sym (ap (bears names g) q ∙ e))
        at x l (no n) = t.done x (omega arith)

    pub taking_take : bears names g j ≡ true → (v : ℕ) → v ≡ taker_number members r (get_or p (k + 1) 0) → Taking (j + 1) (k + 1) (set after j v)
    taking_take e v w =
        record {
          long = length-set after j v ∙ t.long;
          count = ap (λ (x : ℕ). x + 1) t.count ∙ sym (ticks_on (bears names g) j e);
          done = λ x l. at x l (ℕ_discrete x j);
          rest = λ x l. get_or-set_other after j x v 0 (λ q. off x l q) ∙ t.rest x (omega arith);
        }
      where
        off : (x : ℕ) → j + 1 ≤ x → x ≡ j → ⊥
        off x l q = omega arith

        v_is : v ≡ given j
        v_is = w ∙ ap (λ (x : ℕ). taker_number members r (get_or p (x + 1) 0)) t.count

        at : (x : ℕ) → x < j + 1 → Dec (x ≡ j) → get_or (set after j v) x 0 ≡ cond (bears names g x) (given x) (get_or before x 0)
        at x l (yes q) = subst (λ (y : ℕ). get_or (set after j v) y 0 ≡ cond (bears names g y) (given y) (get_or before y 0)) (sym q) (get_or-set_same after j v 0 (rw t.long h) ∙ v_is ∙ ap (λ (b : Bool). cond b (given j) (get_or before j 0)) (sym e))
        at x l (no n) = get_or-set_other after j x v 0 n ∙ t.done x (omega arith)

  pub taken : (m k : ℕ) (after : List ℕ) → Taking m k after → Taken names g m p r members before after
  taken m k after t = record { long = t.long; at = t.done }

-- the same of the whole arrays, where the names and the members are their front
pub taken_front : (names : List ℕ) (g m : ℕ) (p : List ℕ) (r : ℕ) (members before after : List ℕ) → m ≤ length names → r ≤ length members
    → Taken (take m names) g (length (take m names)) p (length (take r members)) (take r members) before after → Taken names g m p r members before after
taken_front names g m p r members before after hm hr t =
    record {
      long = t.long;
      at =
          λ j l.
          t.at j (rw (length-take-le m names hm) l)
          ∙ rw (bears_front m names g j l, ticks_same (bears (take m names) g) (bears names g) j (λ i h. bears_front m names g i (omega arith)))
          (ap (λ (x : ℕ). cond (bears names g j) x (get_or before j 0)) (taker_front members r hr (get_or p (ticks (bears names g) j + 1) 0)));
    }
