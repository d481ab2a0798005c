-- What the checks of a covariance say of a variance times the identity of two. Assumes nothing.
use mathlib.Core.Path.{◌≡◌, refl, sym, ap, ap₂, ◌∙◌}
use mathlib.Core.Bool.{Bool, true, false, ◌&&◌, cond}
use mathlib.Core.List.{[], ◌∷◌}
use Prim.Native.Nat.{ℕ, zero, suc, ◌*◌}
use native.Mathlib.Nat.{zero-mul, mul-one, mul-pos, zero-lt-suc}
use native.Mathlib.Omega.{arith}
use lib.Dec.{T}
use lib.IntN.{ℤ, pos}
use borrow.Author.Tests.{ltb-true, ne_eqb}
use lib.Ieee.{Float, nan, inf, fin, binary64, up, down, unlike, round, sub, neg, mul, div, lt, eq, fits, of_bits}
use lib.Ieee.Scale.{finite}
use lib.Ieee.Fits.{up_pos}
use Rattle.number.specs.Reply.{Reply, refused, given}
use Rattle.number.proofs.Zeros.{impossible, none, zero_side}
use Rattle.number.proofs.Held.{zero_of, zero_round, one_times, zero_times, add_zero_of}
use Rattle.square_root.proofs.Above.{Above, root_above}
use Rattle.matrix.specs.Matrix.{Matrix, nought}
use Rattle.models.specs.Models.{isotropic}
use Rattle.finite.specs.Finite.{finite_vector, finite_matrix}
use Rattle.symmetry.specs.Symmetry.{mirrored, is_symmetric}
use Rattle.symmetry.proofs.Mirrored.{mirrored_symmetric}
use Rattle.cholesky.specs.Cholesky.{column_by, columns_from, cholesky}
use Rattle.cholesky.proofs.Factors.{pivot_given, pivot_low, column_given, column_refused}
use Rattle.cholesky.specs.Definite.{whether_given, factorable, reply_of_found}
use Rattle.cholesky.proofs.Found.{last_column, no_factor}
use Rattle.math.specs.Linalg.{entries_checked, validated}

-- a variance and the zero beside it
abbrev plain : Float → Bool → Matrix
plain v s = (v ∷ zero_of s ∷ []) ∷ (zero_of s ∷ v ∷ []) ∷ []

abbrev minus : Float → Bool
minus nan = false
minus (inf s) = s
minus (fin s m e) = s

is_plain : (v : Float) → T (fits binary64 v) → finite v ≡ true → isotropic 2 v ≡ plain v (minus v)
unfolding isotropic of_bits
is_plain nan t f = impossible f
is_plain (inf s) t f = impossible f
is_plain (fin s m e) t f = λ i. (one_times (fin s m e) t i ∷ beside s i ∷ []) ∷ (beside s i ∷ one_times (fin s m e) t i ∷ []) ∷ []
  where
    beside : (s : Bool) → mul binary64 (zero_of false) (fin s m e) ≡ zero_of s
    beside true = zero_times false true m e
    beside false = zero_times false false m e

-- ---- the entries

plain_finite : (v : Float) (s : Bool) → finite v ≡ true → finite_matrix 2 2 (plain v s) ≡ true
unfolding finite_matrix finite_vector
plain_finite v s f = ap (λ (b : Bool). (b && true) && b) f

not_finite : (v : Float) → finite v ≡ false → finite_matrix 2 2 (isotropic 2 v) ≡ false
unfolding finite_matrix finite_vector isotropic of_bits mul
not_finite nan f = refl
not_finite (inf true) f = refl
not_finite (inf false) f = refl
not_finite (fin s m e) f = impossible (sym f)

plain_symmetric : (v : Float) (s : Bool) → is_symmetric 2 (plain v s) ≡ true
unfolding mirrored eq
plain_symmetric v true = sym (mirrored_symmetric 2 (plain v true) refl)
plain_symmetric v false = sym (mirrored_symmetric 2 (plain v false) refl)

-- ---- the factor

zero_over : (s : Bool) (n : ℕ) (d : ℤ) → div binary64 (zero_of s) (fin false (suc n) d) ≡ zero_of (unlike s false)
unfolding div
zero_over s n d =
    let r = round binary64 (unlike s false) (0 * down d) (suc n * up d * 1) in
    ap (λ (b : Bool). cond b (cond true nan (inf (unlike s false))) r) (ne_eqb (suc n) 0 (λ e. omega (arith, e)))
    ∙ ap₂ (round binary64 (unlike s false)) (zero-mul (down d)) (mul-one (suc n * up d))
    ∙ zero_round binary64 (unlike s false) (suc n * up d) (mul-pos (zero-lt-suc n) (up_pos d))

like_itself : (s : Bool) → unlike s s ≡ false
like_itself true = refl
like_itself false = refl

-- the second pivot is the variance itself
second : (v : Float) (s : Bool) (m : ℕ) (e : ℤ) → T (fits binary64 (fin false (suc m) e)) → (d : Float) → Above d → sub binary64 (fin false (suc m) e) (mul binary64 (div binary64 (zero_of s) d) (div binary64 (zero_of s) d)) ≡ fin false (suc m) e
unfolding sub neg
second v s m e t d h =
    let l : div binary64 (zero_of s) d ≡ zero_of (unlike s false) = ap (div binary64 (zero_of s)) h.is ∙ zero_over s h.digits h.power in
    let u = unlike s false in
    ap (λ (x : Float). sub binary64 (fin false (suc m) e) (mul binary64 x x)) l
    ∙ ap (sub binary64 (fin false (suc m) e)) (zero_times u u 0 (pos 0) ∙ ap zero_of (like_itself u))
    ∙ add_zero_of false true m e t

module _ (m : ℕ) (e : ℤ) (s : Bool) (t : T (fits binary64 (fin false (suc m) e))) (above : lt nought (fin false (suc m) e) ≡ true) where
  abbrev v : Float
  v = fin false (suc m) e

  factor : given tt ≡ factorable 2 (plain v s)
  unfolding factorable cholesky column_by
  factor =
      let d = root_above m e t in
      let columns : Matrix = (d.0 ∷ div binary64 (zero_of s) d.0 ∷ []) ∷ [] in
      let first : columns_from 1 2 (plain v s) 1 columns ≡ cholesky 2 (plain v s) = column_given 1 2 (plain v s) 0 [] (pivot_given v above d.1) refl in
      let found : lt nought (sub binary64 v (mul binary64 (div binary64 (zero_of s) d.0) (div binary64 (zero_of s) d.0))) ≡ true = ap (lt nought) (second v s m e t d.0 d.2) ∙ above in
      ap reply_of_found (sym found) ∙ last_column 2 (plain v s) 1 columns ∙ ap whether_given first

-- ---- the checks, in their order

pub infinite : (v : Float) → finite v ≡ false → refused 5 ≡ validated 2 (isotropic 2 v)
unfolding validated entries_checked
infinite v f = rw (not_finite v f)

entries : (v : Float) (s : Bool) → finite v ≡ true → (r : Reply (Unit {0})) → r ≡ factorable 2 (plain v s) → r ≡ validated 2 (plain v s)
unfolding validated entries_checked
entries v s f r e = rw (plain_finite v s f, plain_symmetric v s) e

low_factor : (v : Float) (s : Bool) → lt nought v ≡ false → refused 7 ≡ factorable 2 (plain v s)
unfolding cholesky
low_factor v s l = no_factor 2 (plain v s) (column_refused 1 2 (plain v s) 0 [] (pivot_low v l))

pub low : (v : Float) → T (fits binary64 v) → finite v ≡ true → lt nought v ≡ false → refused 7 ≡ validated 2 (isotropic 2 v)
low v t f l = entries v (minus v) f (refused 7) (low_factor v (minus v) l) ∙ ap (validated 2) (sym (is_plain v t f))

valid_of : (v : Float) → T (fits binary64 v) → finite v ≡ true → lt nought v ≡ true → (s : Bool) → given tt ≡ factorable 2 (plain v s)
unfolding lt of_bits
valid_of nan t f l s = impossible f
valid_of (inf b) t f l s = impossible f
valid_of (fin true m e) t f l s = impossible l
valid_of (fin false zero e) t f l s = absurd (omega (arith, ltb-true (0 * 1 * down e) (zero * up e * 1) l, none e, zero_side e))
valid_of (fin false (suc m) e) t f l s = factor m e s t l

pub valid : (v : Float) → T (fits binary64 v) → finite v ≡ true → lt nought v ≡ true → given tt ≡ validated 2 (isotropic 2 v)
valid v t f l = entries v (minus v) f (given tt) (valid_of v t f l (minus v)) ∙ ap (validated 2) (sym (is_plain v t f))
