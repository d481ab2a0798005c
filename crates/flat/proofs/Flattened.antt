-- The rows of a matrix one after the other, as `as_flattened` gives them. Assumes nothing.
use Rattle.std.proofs.Common.{◌≡◌, ap, sym, ◌∙◌, ℕ, zero, suc, ◌+◌, ◌*◌, ◌/◌, ◌%◌, ◌<◌, [], ◌∷◌, length, get_or, arith}
use Rattle.std.proofs.Math.Nat.{div-lt_iff_lt-mul, mod-eq-sub-div-mul, div-mul-le_self, mod-lt}
use Rattle.std.proofs.lemmas.List.{get_or_append_left, get_or-append-add}
use Rattle.std.specs.List.{flat_map}
use Rattle.std.specs.Float.{nan}
use native.Mathlib.Nat.{zero-lt-suc}
use Rattle.matrix.specs.Matrix.{Matrix, Vector, row, entry}
use Rattle.matrix.specs.Flat.{flat_of}
use Rattle.matrix.proofs.Tabulated.{tabulated}

abbrev flattened : Matrix → Vector
flattened a = flat_map (λ x. x) a

next_row : (p i j : ℕ) → suc i * p + j ≡ p + (i * p + j)
next_row p i j = grind arith

at_entry : (p : ℕ) (a : Matrix) → ((i : ℕ) → i < length a → length (row a i) ≡ p) → (i j : ℕ) → i < length a → j < p → get_or (flattened a) (i * p + j) nan ≡ entry a i j
at_entry p [] long i j hi hj = absurd (omega (arith, hi))
at_entry p (r ∷ a) long zero j hi hj =
    ap (λ k. get_or (flattened (r ∷ a)) k nan) (omega arith)
    ∙ get_or_append_left r (flattened a) nan j (omega (arith, hj, long 0 (omega arith)))
at_entry p (r ∷ a) long (suc i) j hi hj =
    let first : length r ≡ p = long 0 (omega arith) in
    ap (λ k. get_or (flattened (r ∷ a)) k nan) (next_row p i j ∙ ap (λ m. m + (i * p + j)) (sym first))
    ∙ get_or-append-add r (flattened a) (i * p + j) nan
    ∙ at_entry p a (λ k b. long (suc k) (omega (arith, b))) i j (omega (arith, hi)) hj

positive : (n p k : ℕ) → k < n * p → 0 < p
positive n zero k h = absurd (omega (arith, h))
positive n (suc p) k h = zero-lt-suc p

-- n rows of p items
pub flattened_is : (n p : ℕ) (a : Matrix) → length a ≡ n → ((i : ℕ) → i < n → length (row a i) ≡ p) → length (flattened a) ≡ n * p → flattened a ≡ flat_of n p a
unfolding flat_of
flattened_is n p a rows long all =
    tabulated nan (n * p) (λ k. entry a (k / p) (k % p)) (flattened a) all
    (λ k b.
    let pos = positive n p k b in
    ap (λ m. get_or (flattened a) m nan) (omega (arith, mod-eq-sub-div-mul k p, div-mul-le_self k p))
    ∙ at_entry p a (λ i h. long i (omega (arith, h, rows))) (k / p) (k % p) (let q : k / p < n = (div-lt_iff_lt-mul pos).1 b in omega (arith, q, rows)) (mod-lt k pos))
