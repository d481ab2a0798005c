-- What is left of a vector's items when each is added to those before it is their sum. Assumes nothing.
use Rattle.std.proofs.Common.{◌≡◌, refl, ap, ◌∙◌, sym, ℕ, zero, suc, ◌+◌, ◌<◌, List, [], ◌∷◌, length, get_or, Option, Some, None, unwrap_or, arith}
use Rattle.std.specs.Prelude.{MatchOption, Float}
use Rattle.std.specs.List.{fold}
use Rattle.std.specs.Float.{nan, binary64}
use Rattle.std.specs.Float.Ieee.{add}
use Rattle.matrix.specs.Matrix.{item, nought, sum_to, sum_of}

fold_is_sum : (i : ℕ) (f : ℕ → Float) (xs : List Float) → ((k : ℕ) → k < length xs → get_or xs k nan ≡ f (suc (i + k))) → fold (add binary64) (sum_to i f) xs ≡ sum_to (i + length xs) f
fold_is_sum i f [] h = ap (λ m. sum_to m f) (omega arith)
fold_is_sum i f (x ∷ xs) h =
    let first : x ≡ f (suc i) = h 0 (omega arith) ∙ ap f (omega arith) in
    ap (λ y. fold (add binary64) (add binary64 (sum_to i f) y) xs) first
    ∙ fold_is_sum (suc i) f xs (λ k b. h (suc k) (omega (arith, b)) ∙ ap f (omega arith))
    ∙ ap (λ m. sum_to m f) (omega arith)

-- `reduce` by an f that adds, over the items of xs
pub summed : (Acts : (Float → Float → Float) → Type 0) → Acts (add binary64) → (n len : ℕ) (xs items : List Float) (r : Option Float) → length xs ≡ n → len ≡ length items → items ≡ xs
    → MatchOption r (len ≡ 0) (λ y. (0 < len) × ((x : Float) × (rest : List Float) × (items ≡ x ∷ rest) × ((f : Float → Float → Float) → Acts f → y ≡ fold f x rest)))
    → unwrap_or r nought ≡ sum_of n (λ k. item xs k)
summed Acts adds zero len xs items None long all same m = refl
summed Acts adds (suc n) len xs items None long all same m = absurd (omega (arith, long, m, all, ap length same))
summed Acts adds zero len xs items (Some y) long all same m = absurd (omega (arith, long, m.0, all, ap length same))
summed Acts adds (suc n) len xs items (Some y) long all same (some, (x, rest, are, total)) =
    let f : ℕ → Float = λ k. item xs k in
    let is : xs ≡ x ∷ rest = sym same ∙ are in
    let first : x ≡ f 0 = sym (ap (λ zs. item zs 0) is) in
    total (add binary64) adds
    ∙ ap (λ z. fold (add binary64) z rest) first
    ∙ fold_is_sum 0 f rest (λ k b. sym (ap (λ zs. item zs (suc k)) is) ∙ ap f (omega arith))
    ∙ ap (λ m. sum_to m f) (omega (arith, long, ap length is))
