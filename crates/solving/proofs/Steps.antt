-- One turn of each loop that solves, and what its first and last turn leave. For any size. Assumes nothing.
use mathlib.Core.Path.{◌≡◌, sym, ap, ◌∙◌, subst}
use mathlib.Core.List.{[], ◌∷◌, ◌++◌}
use Prim.Native.Nat.{ℕ, suc, ◌+◌, ◌-◌, ◌<◌, ◌≤◌}
use native.Mathlib.Numerals.{add-one}
use native.Mathlib.Omega.{arith}
use lib.ListN.{length, take, drop, set}
use lib.Seq.{take-suc-set, get_or-take}
use lib.Ieee.{Float, nan, binary64, add, sub, mul, div}
use Rattle.std.proofs.lemmas.List.{take_all, drop-set, get_or-drop}
use Rattle.matrix.specs.Matrix.{Vector, Matrix, item, entry, sum_to}
use Rattle.cholesky.proofs.Columns.{less_same}
use Rattle.solving.specs.Solving.{forward_item, forward_to, forward, backward_item, backward_from, backward}

-- ---- forward

module _ (l : Matrix) (b y : Vector) (i : ℕ) (r : take i y ≡ forward_to i l b) where
  same_item : forward_item l b i (λ k. item y k) ≡ forward_item l b i (λ k. item (forward_to i l b) k)
  same_item =
      ap (λ x. div binary64 x (entry l i i))
      (less_same i (λ k. mul binary64 (entry l k i) (item y k)) (λ k. mul binary64 (entry l k i) (item (forward_to i l b) k)) (item b i)
      (λ k h. ap (mul binary64 (entry l k i)) (sym (get_or-take i y k nan h) ∙ ap (λ z. item z k) r)))

  pub forward_more : {v : Float} → i < length y → v ≡ forward_item l b i (λ k. item y k) → take (i + 1) (set y i v) ≡ forward_to (i + 1) l b
  forward_more {v} h e =
      subst (λ m. take m (set y i v) ≡ forward_to m l b) (sym (add-one i))
      (take-suc-set y i v h ∙ (λ j. r j ++ ((e ∙ same_item) j ∷ [])))

  pub forward_all : (n : ℕ) → i ≡ n → length y ≡ n → y ≡ forward n l b
  unfolding forward
  forward_all n e h = sym (take_all i y (omega (arith, e, h))) ∙ r ∙ ap (λ m. forward_to m l b) e

-- ---- backward

abbrev pub term : Matrix → Vector → ℕ → ℕ → Float
term l x i t = mul binary64 (entry l i (i + 1 + t)) (item x (i + 1 + t))

pub behind_more : (l : Matrix) (x : Vector) (i k : ℕ) {s : Float} → i + 2 ≤ k → s ≡ sum_to (k - (i + 2)) (term l x i) → add binary64 s (mul binary64 (entry l i k) (item x k)) ≡ sum_to (k + 1 - (i + 2)) (term l x i)
behind_more l x i k h e =
    let at : k ≡ i + 1 + suc (k - (i + 2)) = omega (arith, h) in
    let more : suc (k - (i + 2)) ≡ k + 1 - (i + 2) = omega (arith, h) in
    (λ j. add binary64 (e j) (mul binary64 (entry l i (at j)) (item x (at j)))) ∙ ap (λ m. sum_to m (term l x i)) more

module _ (n : ℕ) (l : Matrix) (y : Vector) (i : ℕ) where
  pub item_before : (f : ℕ → Float) → i + 1 < n → div binary64 (sub binary64 (item y i) (sum_to (n - (i + 2)) (λ t. mul binary64 (entry l i (i + 1 + t)) (f t)))) (entry l i i) ≡ backward_item l y i (n - (i + 1)) f
  item_before f h =
      let e : suc (n - (i + 2)) ≡ n - (i + 1) = omega (arith, h) in
      ap (λ k. backward_item l y i k f) e

  pub item_last : (f : ℕ → Float) → n ≤ i + 1 → div binary64 (item y i) (entry l i i) ≡ backward_item l y i (n - (i + 1)) f
  item_last f h =
      let e : 0 ≡ n - (i + 1) = omega (arith, h) in
      ap (λ k. backward_item l y i k f) e

  module _ (x : Vector) (h : i < n) (long : length x ≡ n) (r : drop (i + 1) x ≡ backward_from (n - (i + 1)) n l y) where
    behind : (t : ℕ) → item x (i + 1 + t) ≡ item (backward_from (n - (i + 1)) n l y) t
    behind t = sym (get_or-drop (i + 1) x t nan) ∙ ap (λ z. item z t) r

    place : i ≡ n - suc (n - (i + 1))
    place = omega (arith, h)

    pub backward_more : {v : Float} → v ≡ backward_item l y i (n - (i + 1)) (λ t. item x (i + 1 + t)) → drop i (set x i v) ≡ backward_from (n - i) n l y
    backward_more {v} e =
        let more : suc (n - (i + 1)) ≡ n - i = omega (arith, h) in
        drop-set x i v (omega (arith, h, long))
        ∙ (λ j. (e ∙ (λ k. backward_item l y i (n - (i + 1)) (λ t. behind t k)) ∙ ap (λ m. backward_item l y m (n - (i + 1)) (λ t. item (backward_from (n - (i + 1)) n l y) t)) place) j ∷ r j)
        ∙ ap (λ k. backward_from k n l y) more

pub backward_all : (n : ℕ) (l : Matrix) (x y : Vector) (i : ℕ) → i ≡ 0 → drop i x ≡ backward_from (n - i) n l y → x ≡ backward n l y
unfolding backward
backward_all n l x y i e r =
    let all : n - 0 ≡ n = omega arith in
    subst (λ k. drop k x ≡ backward_from (n - k) n l y) e r ∙ ap (λ k. backward_from k n l y) all
