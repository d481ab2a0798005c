-- The run on a square of whole entries ends with a pairing of least total.
use mathlib.Core.Path.{◌≡◌, refl, sym, ap, ◌∙◌, subst}
use Prim.Native.Nat.{ℕ, zero, suc, ◌≤◌, ◌<◌}
use native.Mathlib.Omega.{arith}
use lib.Ieee.{Float}
use Rattle.whole.specs.Integer.{Integer, ◌+Z◌, ◌≤Z◌, ◌≈◌, Within}
use Rattle.whole.specs.Whole.{WholeValue}
use Rattle.whole.specs.OneOne.{Inj}
use Rattle.whole.proofs.OneOne.{Hit, onto}
use Rattle.whole.proofs.OneOne
use Rattle.kuhn_munkres.specs.Binary64.{float}
use Rattle.kuhn_munkres.specs.Steps.{State, found, rows}
use Rattle.potentials.specs.Square.{largest, WholeSquare, LeastSquare}
use Rattle.potentials.proofs.Free.{free_none}
use Rattle.potentials.proofs.Numbers.{Entries, u_of, v_of, p_of}
use Rattle.potentials.proofs.Rows.{Dual, rows_dual}

-- the number before
abbrev before : ℕ → ℕ
before zero = zero
before (suc i) = i

-- the integers of the square, counted from 1 as the run counts
abbrev from1 : (ℕ → ℕ → Integer) → ℕ → ℕ → Integer
from1 A i j = A (before i) (before j)

-- what holds of the numbers below n, one more each, holds of 1 .. n
counted : (n : ℕ) (Q : ℕ → ℕ → Type 0) → ((i j : ℕ) → i < n → j < n → Q (suc i) (suc j)) → (i j : ℕ) → 0 < i → i ≤ n → 0 < j → j ≤ n → Q i j
counted n Q f zero j x h y l = absurd (omega arith)
counted n Q f (suc i) zero x h y l = absurd (omega arith)
counted n Q f (suc i) (suc j) x h y l = f i j (omega arith) (omega arith)

-- when all rows are in, every column has one
module _ (n B : ℕ) (a : ℕ → ℕ → Float) (A : ℕ → ℕ → Integer) (s : State Float) (D : Dual n B a (from1 A) n s) where
  row_of : ℕ → ℕ
  row_of j = before (p_of s (suc j))

  has : (j : ℕ) → j < n → 0 < p_of s (suc j)
  has j h = free_none (p_of s) n (let q = D.left in omega arith) (suc j) (omega arith) (omega arith)

  row_at_lem : (j : ℕ) → j < n → p_of s (suc j) ≡ suc (row_of j)
  row_at_lem j h = unfold row_of in after (p_of s (suc j)) (has j h)
    where
      after : (m : ℕ) → 0 < m → m ≡ suc (before m)
      after zero h = absurd (omega arith)
      after (suc m) h = refl

  rows_inj : Inj n row_of
  rows_inj = record {
    in_range = λ j h. (let e = row_at_lem j h in let q = D.matched.low (suc j) (omega arith) (omega arith) in omega arith);
    one_one = λ j k h l e. same j k (D.matched.one (suc j) (suc k) (omega arith) (omega arith) (omega arith) (omega arith) (some j h) (row_at_lem j h ∙ ap suc e ∙ sym (row_at_lem k l)));
  }
    where
      same : (j k : ℕ) → suc j ≡ suc k → j ≡ k
      same j k e = omega arith

      some : (j : ℕ) → j < n → p_of s (suc j) ≡ 0 → ⊥
      some j h e = let q = has j h in omega arith

  abbrev u : ℕ → Integer
  u i = u_of s (suc i)

  abbrev v : ℕ → Integer
  v j = v_of s (suc j)

  fine : (i j : ℕ) → i < n → j < n → u i +Z v j ≤Z A i j
  fine i j h l = go (onto n row_of rows_inj i h)
    where
      go : Hit row_of n i → u i +Z v j ≤Z A i j
      go x =
          let k = x.0 in
          let m = x.1 in
          let e : p_of s (suc k) ≡ suc i = row_at_lem k m ∙ ap suc x.2 in
          subst (λ (r : ℕ). u_of s r +Z v j ≤Z A (before r) j) e (D.fine (suc k) (suc j) (omega arith) (omega arith) (has k m) (omega arith) (omega arith))

  tight : (j : ℕ) → j < n → A (row_of j) j ≈ u (row_of j) +Z v j
  tight j h = subst (λ (r : ℕ). A (before r) j ≈ u_of s r +Z v j) (row_at_lem j h) (D.tight (suc j) (omega arith) (omega arith) (has j h))

  least_square : rows float a n n ≡ found s → LeastSquare n a A
  least_square e = record { last = s; row = row_of; ends = e; at = row_at_lem; inj = rows_inj; least = λ q I. OneOne.least n A u v row_of q rows_inj I fine tight }

pub square_least : (n : ℕ) → n < 129 → (a : ℕ → ℕ → Float) (A : ℕ → ℕ → Integer) → WholeSquare n a A → LeastSquare n a A
square_least n fits a A w = go (rows_dual n largest a (from1 A) fits entries n (omega arith))
  where
    entries : Entries n largest a (from1 A)
    entries = record {
      exact = omega arith;
      value = counted n (λ i j. WholeValue (a i j) (from1 A i j)) w.value;
      small = counted n (λ i j. Within largest (from1 A i j)) w.small;
    }

    go : (s : State Float) × (rows float a n n ≡ found s) × Dual n largest a (from1 A) n s → LeastSquare n a A
    go x = least_square n largest a A x.0 x.2 x.1
