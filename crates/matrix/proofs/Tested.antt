-- `all` over the items of a list, each tested. Assumes nothing.
use Rattle.std.proofs.Common.{◌≡◌, refl, sym, ◌∙◌, ℕ, ◌<◌, List, length, get_or, Bool, true, false, arith}
use Rattle.std.specs.Bool.{MatchBool}
use Rattle.std.specs.List.{AllWithin, HoldsAt}
use borrow.Author.Tests.{clash}
use Rattle.matrix.specs.Matrix.{all_of}
use Rattle.matrix.proofs.All.{all_decided}

-- the answer r, where t is what was asked of each item
pub tested : {A : Type 0} (d : A) (t : A → Bool) (n : ℕ) (xs : List A) (r : Bool) → length xs ≡ n → MatchBool r (AllWithin (λ x. t x ≡ true) xs 0 (length xs)) ((k : ℕ) × (k < length xs) × HoldsAt (λ x. t x ≡ false) xs k) → r ≡ all_of n (λ k. t (get_or xs k d))
tested d t n xs true long h = all_decided n (λ k. t (get_or xs k d)) true (λ e k b. h k d (omega arith) (omega (arith, b, long))) (λ all. refl)
tested d t n xs false long (j, low, fails) =
    all_decided n (λ k. t (get_or xs k d)) false
    (λ e k b. absurd (clash e))
    (λ all. sym (fails d) ∙ all j (omega (arith, low, long)))
