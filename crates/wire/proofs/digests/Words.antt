-- The digest of one word more. Assumes nothing.
use mathlib.Core.Path.{◌≡◌, refl, ap, ◌∙◌}
use mathlib.Core.List.{List, [], ◌∷◌, ◌++◌}
use Prim.Native.Nat.{ℕ, ◌+◌, ◌<◌}
use native.Mathlib.Numerals.{add-one}
use lib.ListN.{length, take, get_or}
use lib.Seq.{take-suc}
use Rattle.wire.specs.Digest.{mixed_word, digest_from, digest_of}

digest_append : (digest : ℕ) (l : List ℕ) (word : ℕ) → digest_from digest (l ++ (word ∷ [])) ≡ mixed_word (digest_from digest l) word
unfolding digest_from
digest_append digest [] word = refl
digest_append digest (x ∷ l) word = digest_append (mixed_word digest x) l word

pub digest_more : (l : List ℕ) (i : ℕ) → i < length l → digest_of (take (i + 1) l) ≡ mixed_word (digest_of (take i l)) (get_or l i 0)
digest_more l i h = ap digest_of (ap (λ (n : ℕ). take n l) (add-one i) ∙ take-suc l i 0 h) ∙ digest_append 0 (take i l) (get_or l i 0)
