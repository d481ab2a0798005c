-- A factor whose columns a loop lays into an array, one a turn. For any size. Assumes nothing.
use mathlib.Core.Path.{◌≡◌, refl, sym, ap, ◌∙◌, subst}
use mathlib.Core.Bool.{cond, true}
use mathlib.Core.List.{[], ◌∷◌, ◌++◌}
use Prim.Native.Nat.{ℕ, zero, suc, ◌+◌, ◌-◌, ◌<◌}
use native.Mathlib.Numerals.{add-one}
use native.Mathlib.Omega.{arith}
use lib.Dec.{ltb, eqb}
use lib.ListN.{length, take, set}
use lib.Seq.{take-suc-set, get_or-take}
use Rattle.std.proofs.lemmas.List.{take_all}
use lib.Ieee.{Float, binary64, sub, mul, div, lt}
use Rattle.number.specs.Reply.{refused, given}
use Rattle.matrix.specs.Matrix.{Vector, Matrix, item, entry, tabulate, nought}
use Rattle.cholesky.specs.Cholesky.{less_each, remainder, column_by, pivot_root, columns_from}
use Rattle.cholesky.specs.Definite.{whether_given, reply_of_found}
use Rattle.cholesky.proofs.Factors.{column_given, column_refused}
use Rattle.cholesky.proofs.Found.{last_column}

pub less_same : (k : ℕ) (f g : ℕ → Float) (x : Float) → ((i : ℕ) → i < k → f i ≡ g i) → less_each k f x ≡ less_each k g x
less_same zero f g x h = refl
less_same (suc k) f g x h =
    let e : less_each k f x ≡ less_each k g x = less_same k f g x (λ i l. h i (omega arith)) in
    let d : f k ≡ g k = h k (omega arith) in
    λ t. sub binary64 (e t) (d t)

remainder_take : (a l : Matrix) (i j : ℕ) → remainder a (take j l) i j ≡ remainder a l i j
remainder_take a l i j =
    less_same j (λ k. mul binary64 (entry (take j l) k i) (entry (take j l) k j)) (λ k. mul binary64 (entry l k i) (entry l k j)) (entry a i j)
    (λ k h. ap (λ (v : Vector). mul binary64 (item v i) (item v j)) (get_or-take j l k [] h))

column_take : (n : ℕ) (a l : Matrix) (j : ℕ) (d : Float) → column_by n a (take j l) j d ≡ column_by n a l j d
unfolding column_by
column_take n a l j d = λ t. tabulate n (λ i. cond (ltb i j) nought (cond (eqb i j) d (div binary64 (remainder_take a l i j t) d)))

module _ (n : ℕ) (a l : Matrix) (j : ℕ) (h : j < n) where
  left : n - j ≡ suc (n - (j + 1))
  left = omega arith

  pub column_more : {d : Float} {v : Vector} → length l ≡ n → given d ≡ pivot_root (remainder a l j j) → v ≡ column_by n a l j d → columns_from (n - j) n a j (take j l) ≡ columns_from (n - (j + 1)) n a (j + 1) (take (j + 1) (set l j v))
  column_more {d} {v} e p q =
      ap (λ k. columns_from k n a j (take j l)) left
      ∙ sym (column_given (n - (j + 1)) n a j (take j l) (p ∙ ap pivot_root (sym (remainder_take a l j j))) refl)
      ∙ ap (λ c. columns_from (n - (j + 1)) n a (j + 1) c) (ap (λ w. take j l ++ (w ∷ [])) (column_take n a l j d ∙ sym q) ∙ sym (take-suc-set l j v (omega arith)) ∙ ap (λ k. take k (set l j v)) (sym (add-one j)))

  pub column_stops : {m : ℕ} → refused m ≡ pivot_root (remainder a l j j) → refused m ≡ columns_from (n - j) n a j (take j l)
  column_stops p = column_refused (n - (j + 1)) n a j (take j l) (p ∙ ap pivot_root (sym (remainder_take a l j j))) ∙ ap (λ k. columns_from k n a j (take j l)) (sym left)

  -- the last column, whose root is not asked for
  pub column_last : j + 1 ≡ n → lt nought (remainder a l j j) ≡ true → (m : Matrix) → whether_given (columns_from (n - j) n a j (take j l)) ≡ whether_given (columns_from (n - (j + 1)) n a (j + 1) m)
  unfolding columns_from
  column_last e t m =
      let one : n - j ≡ 1 = omega (arith, e) in
      let none : n - (j + 1) ≡ 0 = omega (arith, e) in
      ap (λ k. whether_given (columns_from k n a j (take j l))) one
      ∙ sym (last_column n a j (take j l))
      ∙ ap reply_of_found (ap (lt nought) (remainder_take a l j j) ∙ t)
      ∙ ap (λ k. whether_given (columns_from k n a (j + 1) m)) (sym none)

-- ---- before the first column, and behind the last

pub no_column : (n : ℕ) (a : Matrix) → columns_from n n a 0 [] ≡ columns_from (n - 0) n a 0 []
no_column n a = let e : n ≡ n - 0 = omega arith in ap (λ k. columns_from k n a 0 []) e

at_end : (n : ℕ) (a l : Matrix) → length l ≡ n → columns_from (n - n) n a n (take n l) ≡ given l
unfolding columns_from
at_end n a l h =
    let none : n - n ≡ 0 = omega arith in
    ap (λ k. columns_from k n a n (take n l)) none ∙ ap given (take_all n l (omega (arith, h)))

pub all_columns : (n : ℕ) (a l : Matrix) (j : ℕ) → j ≡ n → length l ≡ n → columns_from (n - j) n a j (take j l) ≡ given l
all_columns n a l j e h = subst (λ k. columns_from (n - k) n a k (take k l) ≡ given l) (sym e) (at_end n a l h)
