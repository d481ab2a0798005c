-- The three columns of a factor of three rows, from the roots of its pivots, and what a pivot that is not above 0 says. Assumes nothing.
use mathlib.Core.Path.{◌≡◌, refl, sym, ap, ◌∙◌}
use mathlib.Core.Bool.{Bool, true, false, ◌&&◌}
use mathlib.Core.List.{[], ◌∷◌}
use lib.Ieee.{Float, binary64, sub, mul, div, lt}
use Rattle.number.specs.Reply.{refused, given}
use Rattle.number.proofs.Zeros.{impossible, both}
use Rattle.matrix.specs.Matrix.{Matrix, entry, nought}
use Rattle.cholesky.specs.Cholesky.{pivot_root, root_in, column_by, columns_from, cholesky}
use Rattle.cholesky.proofs.Factors.{pivot_found, pivot_low, column_given, column_refused}
use Rattle.cholesky.specs.Definite.{whether_given, factorable, reply_of_found}
use Rattle.cholesky.proofs.Found.{last_column}

-- of three tests the first that fails
split : {A : Type 0} (x y z : Bool) → (x ≡ false → A) → (x ≡ true → y ≡ false → A) → (x ≡ true → y ≡ true → z ≡ false → A) → (x ≡ true → y ≡ true → z ≡ true → A) → A
split false y z a b c d = a refl
split true false z a b c d = b refl refl
split true true false a b c d = c refl refl refl
split true true true a b c d = d refl refl refl

module _ (a : Matrix) (l00 l11 : Float) where
  abbrev pub l10 : Float
  l10 = div binary64 (entry a 1 0) l00

  abbrev pub l20 : Float
  l20 = div binary64 (entry a 2 0) l00

  abbrev pub second : Float
  second = sub binary64 (entry a 1 1) (mul binary64 l10 l10)

  abbrev pub l21 : Float
  l21 = div binary64 (sub binary64 (entry a 2 1) (mul binary64 l20 l10)) l11

  abbrev pub third : Float
  third = sub binary64 (sub binary64 (entry a 2 2) (mul binary64 l20 l20)) (mul binary64 l21 l21)

  abbrev columns1 : Matrix
  columns1 = (l00 ∷ l10 ∷ l20 ∷ []) ∷ []

  abbrev columns2 : Matrix
  columns2 = (l00 ∷ l10 ∷ l20 ∷ []) ∷ (nought ∷ l11 ∷ l21 ∷ []) ∷ []

  module _ (e0 : l00 ≡ root_in (pivot_root (entry a 0 0))) (e1 : l11 ≡ root_in (pivot_root second)) where
    first_fails : lt nought (entry a 0 0) ≡ false → refused 7 ≡ cholesky 3 a
    unfolding cholesky
    first_fails t = column_refused 2 3 a 0 [] (pivot_low (entry a 0 0) t)

    -- behind the first column
    behind_one : lt nought (entry a 0 0) ≡ true → columns_from 2 3 a 1 columns1 ≡ cholesky 3 a
    unfolding cholesky column_by
    behind_one t = column_given 2 3 a 0 [] (pivot_found (entry a 0 0) t e0) refl

    second_fails : lt nought (entry a 0 0) ≡ true → lt nought second ≡ false → refused 7 ≡ cholesky 3 a
    second_fails t u = column_refused 1 3 a 1 columns1 (pivot_low second u) ∙ behind_one t

    behind_two : lt nought (entry a 0 0) ≡ true → lt nought second ≡ true → columns_from 1 3 a 2 columns2 ≡ cholesky 3 a
    unfolding column_by
    behind_two t u = column_given 1 3 a 1 columns1 (pivot_found second u e1) refl ∙ behind_one t

    third_fails : lt nought (entry a 0 0) ≡ true → lt nought second ≡ true → lt nought third ≡ false → refused 7 ≡ cholesky 3 a
    third_fails t u v = column_refused 0 3 a 2 columns2 (pivot_low third v) ∙ behind_two t u

    pub all_fail : (lt nought (entry a 0 0) && lt nought second && lt nought third) ≡ false → refused 7 ≡ cholesky 3 a
    all_fail =
        split {A = (lt nought (entry a 0 0) && lt nought second && lt nought third) ≡ false → refused 7 ≡ cholesky 3 a} (lt nought (entry a 0 0)) (lt nought second) (lt nought third)
        (λ t h. first_fails t)
        (λ t u h. second_fails t u)
        (λ t u v h. third_fails t u v)
        (λ t u v h. impossible (sym h ∙ ap (λ (b : Bool). b && lt nought second && lt nought third) t ∙ ap (λ (b : Bool). b && lt nought third) u ∙ v))

    -- the whole factor
    module _ (l22 : Float) (e2 : l22 ≡ root_in (pivot_root third)) where
      pub all_given : (lt nought (entry a 0 0) && lt nought second && lt nought third) ≡ true → given ((l00 ∷ l10 ∷ l20 ∷ []) ∷ (nought ∷ l11 ∷ l21 ∷ []) ∷ (nought ∷ nought ∷ l22 ∷ []) ∷ []) ≡ cholesky 3 a
      unfolding columns_from column_by
      all_given h =
          let x = lt nought (entry a 0 0) in
          let y = lt nought second in
          let z = lt nought third in
          let w = both (x && y) z h in
          let t = (both x y w.0).0 in
          let u = (both x y w.0).1 in
          column_given 0 3 a 2 columns2 (pivot_found third w.1 e2) refl ∙ behind_two t u

    -- the test alone
    pub all_found : reply_of_found (lt nought (entry a 0 0) && lt nought second && lt nought third) ≡ factorable 3 a
    unfolding factorable
    all_found =
        split {A = reply_of_found (lt nought (entry a 0 0) && lt nought second && lt nought third) ≡ whether_given (cholesky 3 a)} (lt nought (entry a 0 0)) (lt nought second) (lt nought third)
        (λ t. ap (λ (b : Bool). reply_of_found (b && lt nought second && lt nought third)) t ∙ ap whether_given (first_fails t))
        (λ t u. ap (λ (b : Bool). reply_of_found (b && lt nought second && lt nought third)) t ∙ ap (λ (b : Bool). reply_of_found (b && lt nought third)) u ∙ ap whether_given (second_fails t u))
        (λ t u v. whole t u)
        (λ t u v. whole t u)
      where
        whole : lt nought (entry a 0 0) ≡ true → lt nought second ≡ true → reply_of_found (lt nought (entry a 0 0) && lt nought second && lt nought third) ≡ whether_given (cholesky 3 a)
        whole t u = ap (λ (b : Bool). reply_of_found (b && lt nought second && lt nought third)) t ∙ ap (λ (b : Bool). reply_of_found (b && lt nought third)) u ∙ last_column 3 a 2 columns2 ∙ ap whether_given (behind_two t u)
