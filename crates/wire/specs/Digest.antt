-- The digest by which recorded states and reports are told apart: 0 at first, and each word's higher and then its lower 32 bits are mixed in.
use Rattle.std.specs.Prelude.{List, [], ◌∷◌, ℕ, ◌+◌, ◌*◌, ◌/◌, ◌%◌}

abbrev pub modulus : ℕ
modulus = 4294967291

abbrev pub mixed : ℕ → ℕ → ℕ
mixed digest half = (digest * 1000003 + half) % modulus

abbrev pub mixed_word : ℕ → ℕ → ℕ
mixed_word digest word = mixed (mixed digest (word / 4294967296)) (word % 4294967296)

unfoldable pub digest_from : ℕ → List ℕ → ℕ
digest_from digest [] = digest
digest_from digest (word ∷ words) = digest_from (mixed_word digest word) words

abbrev pub digest_of : List ℕ → ℕ
digest_of words = digest_from 0 words
