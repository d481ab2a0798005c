-- A map of the numbers below n into themselves that is one to one meets each of them, and a sum over it is the sum over all. So a pairing on
-- tight entries, under potentials that no entry is below, has the least total.
use mathlib.Core.Path.{◌≡◌, sym, ap, ◌∙◌, subst}
use mathlib.Core.Logic.{◌⊎◌, inl, inr}
use mathlib.Core.Bool.{cond}
use Prim.Native.Nat.{ℕ, zero, suc, ◌+◌, ◌≤◌, ◌<◌}
use native.Mathlib.Nat.{eq-or-lt_of_le}
use borrow.Author.Tests.{eq-eqb, ne_eqb}
use lib.Dec.{eqb}
use native.Mathlib.Decide.{ℕ_discrete}
use native.Mathlib.Omega.{arith}
use Rattle.whole.specs.OneOne.{Inj}
use Rattle.whole.specs.Integer.{Integer, ◌+Z◌, ◌≤Z◌, ◌≈◌, 0_z, sum}

-- is there a j below n with q j = i?
abbrev pub Hit : (ℕ → ℕ) → ℕ → ℕ → Type 0
Hit q n i = (j : ℕ) × (j < n) × (q j ≡ i)

pub hit? : (q : ℕ → ℕ) (n i : ℕ) → Hit q n i ⊎ ((j : ℕ) → j < n → q j ≡ i → ⊥)
hit? q zero i = inr (λ j h e. none j h)
  where
    none : (j : ℕ) → j < 0 → ⊥
    none j h = omega arith
hit? q (suc n) i = go (hit? q n i) (ℕ_discrete (q n) i)
  where
    go : Hit q n i ⊎ ((j : ℕ) → j < n → q j ≡ i → ⊥) → Dec (q n ≡ i) → Hit q (suc n) i ⊎ ((j : ℕ) → j < suc n → q j ≡ i → ⊥)
    go (inl h) d = let l = h.1 in inl (h.0, omega arith, h.2)
    go (inr f) (yes e) = inl (n, omega arith, e)
    go (inr f) (no g) = inr (λ j h e. elim (eq-or-lt_of_le h) [ inl z ↦ at_n j (omega arith) e | inr l ↦ f j (omega arith) e ])
      where
        at_n : (j : ℕ) → j ≡ n → q j ≡ i → ⊥
        at_n j z e = g (ap q (sym z) ∙ e)

-- q below n, with q n in the place of n
fold : (ℕ → ℕ) → ℕ → ℕ → ℕ
fold q n j = cond (eqb (q j) n) (q n) (q j)

fold_is : (q : ℕ → ℕ) (n j : ℕ) → ((q j ≡ n) × (fold q n j ≡ q n)) ⊎ ((q j ≡ n → ⊥) × (fold q n j ≡ q j))
unfolding fold
fold_is q n j = go (ℕ_discrete (q j) n)
  where
    go : Dec (q j ≡ n) → ((q j ≡ n) × (cond (eqb (q j) n) (q n) (q j) ≡ q n)) ⊎ ((q j ≡ n → ⊥) × (cond (eqb (q j) n) (q n) (q j) ≡ q j))
    go (yes e) = inl (e, rw (eq-eqb (q j) n e))
    go (no g) = inr (g, rw (ne_eqb (q j) n g))

module _ (n : ℕ) (q : ℕ → ℕ) (I : Inj (suc n) q) where
  -- no two places hold the same number
  apart : (j : ℕ) → j < n → q j ≡ q n → ⊥
  apart j h e = let z = I.one_one j n (omega arith) (omega arith) e in omega arith

  fold_inj : Inj n (fold q n)
  fold_inj = record { in_range = λ j h. low j h (fold_is q n j); one_one = λ j k h l e. same j k h l e (fold_is q n j) (fold_is q n k) }
    where
      low : (j : ℕ) → j < n → ((q j ≡ n) × (fold q n j ≡ q n)) ⊎ ((q j ≡ n → ⊥) × (fold q n j ≡ q j)) → fold q n j < n
      low j h (inl x) =
          let r = I.in_range n (omega arith) in
          let d : q n ≡ n → ⊥ = λ z. apart j h (x.0 ∙ sym z) in
          omega (arith, x.1)
      low j h (inr x) = let r = I.in_range j (omega arith) in omega (arith, x.0, x.1)

      same : (j k : ℕ) → j < n → k < n → fold q n j ≡ fold q n k → ((q j ≡ n) × (fold q n j ≡ q n)) ⊎ ((q j ≡ n → ⊥) × (fold q n j ≡ q j))
          → ((q k ≡ n) × (fold q n k ≡ q n)) ⊎ ((q k ≡ n → ⊥) × (fold q n k ≡ q k)) → j ≡ k
      same j k h l e (inl x) (inl y) = I.one_one j k (omega arith) (omega arith) (x.0 ∙ sym y.0)
      same j k h l e (inl x) (inr y) = absurd (apart k l (sym y.1 ∙ sym e ∙ x.1))
      same j k h l e (inr x) (inl y) = absurd (apart j h (sym x.1 ∙ e ∙ y.1))
      same j k h l e (inr x) (inr y) = I.one_one j k (omega arith) (omega arith) (sym x.1 ∙ e ∙ y.1)

-- ---- every number below n is met
pub onto : (n : ℕ) (q : ℕ → ℕ) → Inj n q → (i : ℕ) → i < n → Hit q n i
onto zero q I i h = absurd (none i h)
  where
    none : (i : ℕ) → i < 0 → ⊥
    none i h = omega arith
onto (suc n) q I i h = go (onto n (fold q n) (fold_inj n q I)) (ℕ_discrete i n) (hit? q n n) (ℕ_discrete (q n) n)
  where
    widen : (k : ℕ) → Hit q n k → Hit q (suc n) k
    widen k x = let l = x.1 in (x.0, omega arith, x.2)

    go : ((k : ℕ) → k < n → Hit (fold q n) n k) → Dec (i ≡ n) → Hit q n n ⊎ ((j : ℕ) → j < n → q j ≡ n → ⊥) → Dec (q n ≡ n) → Hit q (suc n) i
    go ih (yes e) (inl x) d = subst (λ (k : ℕ). Hit q (suc n) k) (sym e) (widen n x)
    go ih (yes e) (inr f) (yes z) = (n, omega arith, z ∙ sym e)
    go ih (yes e) (inr f) (no g) =
        let r = I.in_range n (omega arith) in
        let x = ih (q n) (omega arith) in
        elim (fold_is q n x.0) [ inl y ↦ absurd (f x.0 x.1 y.0) | inr y ↦ absurd (apart n q I x.0 x.1 (sym y.1 ∙ x.2)) ]
    go ih (no g) hit d =
        let x = ih i (omega arith) in
        elim (fold_is q n x.0) [ inl y ↦ (n, omega arith, sym y.1 ∙ x.2) | inr y ↦ widen i (x.0, x.1, sym y.1 ∙ x.2) ]

-- ---- sums
pub sum_le : (f g : ℕ → Integer) (n : ℕ) → ((j : ℕ) → j < n → f j ≤Z g j) → sum f n ≤Z sum g n
unfolding sum
sum_le f g zero h = omega arith
sum_le f g (suc n) h = let r = sum_le f g n (λ j l. h j (omega arith)) in omega (arith, h n (omega arith))

pub sum_same : (f g : ℕ → Integer) (n : ℕ) → ((j : ℕ) → j < n → f j ≈ g j) → sum f n ≈ sum g n
unfolding sum
sum_same f g zero h = omega arith
sum_same f g (suc n) h = let r = sum_same f g n (λ j l. h j (omega arith)) in omega (arith, h n (omega arith))

pub sum_add : (f g : ℕ → Integer) (n : ℕ) → sum (λ j. f j +Z g j) n ≈ sum f n +Z sum g n
unfolding sum
sum_add f g zero = omega arith
sum_add f g (suc n) = omega (arith, sum_add f g n)

-- f is g below a, and 0 from there on
pub sum_front : (f g : ℕ → Integer) (a n : ℕ) → a ≤ n → ((j : ℕ) → j < a → f j ≈ g j) → ((j : ℕ) → a ≤ j → f j ≈ 0_z) → sum f n ≈ sum g a
unfolding sum
sum_front f g a zero h front back = let e : a ≡ 0 = omega arith in rw e (omega arith)
sum_front f g a (suc n) h front back = go (ℕ_discrete a (suc n)) (λ l. sum_front f g a n l front back)
  where
    go : Dec (a ≡ suc n) → (a ≤ n → sum f n ≈ sum g a) → sum f (suc n) ≈ sum g a
    go (yes e) ih = rw e (sum_same f g (suc n) (λ j l. front j (omega arith)))
    go (no d) ih = let s = ih (omega arith) in let z = back n (omega arith) in unfold sum in omega arith

-- two that agree but at k
pub sum_but : (f g : ℕ → Integer) (n k : ℕ) → k < n → ((j : ℕ) → j < n → (j ≡ k → ⊥) → f j ≈ g j) → sum f n +Z g k ≈ sum g n +Z f k
unfolding sum
sum_but f g zero k h e = absurd (none k h)
  where
    none : (k : ℕ) → k < 0 → ⊥
    none k h = omega arith
sum_but f g (suc n) k h e = go (ℕ_discrete k n) (λ l. sum_but f g n k l (λ j m. e j (omega arith)))
  where
    go : Dec (k ≡ n) → (k < n → sum f n +Z g k ≈ sum g n +Z f k) → (sum f n +Z f n) +Z g k ≈ (sum g n +Z g n) +Z f k
    go (yes z) ih =
        let r = sum_same f g n (λ j l. e j (omega arith) (omega arith)) in
        subst (λ (m : ℕ). (sum f n +Z f n) +Z g m ≈ (sum g n +Z g n) +Z f m) (sym z) (omega arith)
    go (no z) ih = let d = e n (omega arith) (λ w. z (sym w)) in omega (arith, ih (omega arith))

pub sum_perm : (f : ℕ → Integer) (n : ℕ) (q : ℕ → ℕ) → Inj n q → sum (λ j. f (q j)) n ≈ sum f n
unfolding sum
sum_perm f zero q I = omega arith
sum_perm f (suc n) q I = go (sum_perm f n (fold q n) (fold_inj n q I)) (hit? q n n) (ℕ_discrete (q n) n)
  where
    like : (j : ℕ) → (q j ≡ n → ⊥) → f (q j) ≈ f (fold q n j)
    like j g = elim (fold_is q n j) [ inl y ↦ absurd (g y.0) | inr y ↦ rw y.1 (omega arith) ]

    go : sum (λ j. f (fold q n j)) n ≈ sum f n → Hit q n n ⊎ ((j : ℕ) → j < n → q j ≡ n → ⊥) → Dec (q n ≡ n) → sum (λ j. f (q j)) n +Z f (q n) ≈ sum f n +Z f n
    go ih (inl x) d =
        let k = x.0 in
        let r = sum_but (λ j. f (q j)) (λ j. f (fold q n j)) n k x.1 (λ j l m. like j (λ e. m (I.one_one j k (omega arith) (omega (arith, x.1)) (e ∙ sym x.2)))) in
        let at : fold q n k ≡ q n = elim (fold_is q n k) [ inl y ↦ y.1 | inr y ↦ absurd (y.0 x.2) ] in
        let r' : sum (λ j. f (q j)) n +Z f (q n) ≈ sum (λ j. f (fold q n j)) n +Z f n = subst (λ (m : ℕ). sum (λ j. f (q j)) n +Z f m ≈ sum (λ j. f (fold q n j)) n +Z f n) at (subst (λ (m : ℕ). sum (λ j. f (q j)) n +Z f (fold q n k) ≈ sum (λ j. f (fold q n j)) n +Z f m) x.2 r) in
        omega arith
    go ih (inr g) (yes z) = let r = sum_same (λ j. f (q j)) (λ j. f (fold q n j)) n (λ j l. like j (g j l)) in rw z (omega arith)
    go ih (inr g) (no z) = absurd (let y = onto (suc n) q I n (omega arith) in elim (eq-or-lt_of_le y.1) [ inl e ↦ z (ap q (sym (pre y.0 e)) ∙ y.2) | inr l ↦ g y.0 (pre' y.0 l) y.2 ])
      where
        pre : (j : ℕ) → suc j ≡ suc n → j ≡ n
        pre j e = omega arith

        pre' : (j : ℕ) → suc j < suc n → j < n
        pre' j e = omega arith

-- ---- tight entries under potentials have the least total. p and q give the row of each column.
pub least : (n : ℕ) (a : ℕ → ℕ → Integer) (u v : ℕ → Integer) (p q : ℕ → ℕ) → Inj n p → Inj n q → ((i j : ℕ) → i < n → j < n → u i +Z v j ≤Z a i j)
    → ((j : ℕ) → j < n → a (p j) j ≈ u (p j) +Z v j) → sum (λ j. a (p j) j) n ≤Z sum (λ j. a (q j) j) n
least n a u v p q P Q fine tight =
    let x = sum_same (λ j. a (p j) j) (λ j. u (p j) +Z v j) n tight in
    let y = sum_add (λ j. u (p j)) v n in
    let z = sum_add (λ j. u (q j)) v n in
    let s = sum_perm u n p P in
    let t = sum_perm u n q Q in
    let w = sum_le (λ j. u (q j) +Z v j) (λ j. a (q j) j) n (λ j l. fine (q j) j (Q.in_range j l) l) in
    omega arith
