-- Lists in brackets, of anything that a reader `one` reads: single blanks between, brackets may be empty.
-- A reader gives what stands at the head of the bytes, and what is left behind it.
use Rattle.std.specs.Prelude.{cond, List, [], ◌∷◌, ℕ, zero, suc, ◌-◌, eqb, length, None, Option, Some}

abbrev pub Reader : Type 0 → Type 0
Reader X = List ℕ → Option (X × List ℕ)

module _ {X : Type 0} where
  unfoldable pub also : X → Option (List X × List ℕ) → Option (List X × List ℕ)
  also x None = None
  also x (Some (xs, l)) = Some (x ∷ xs, l)

  -- what follows a thing inside brackets: the closing bracket, or a blank and what `more` reads
  unfoldable pub behind : Reader (List X) → Option (X × List ℕ) → Option (List X × List ℕ)
  behind more None = None
  behind more (Some (x, [])) = None
  behind more (Some (x, c ∷ l)) = cond (eqb c 41) (Some (x ∷ [], l)) (cond (eqb c 32) (also x (more l)) None)

  -- one thing or more, and the closing bracket. k bounds their number
  unfoldable pub up_to : Reader X → ℕ → Reader (List X)
  up_to one zero l = None
  up_to one (suc k) l = behind (up_to one k) (one l)

  -- the same with a bound that never matters (proofs/Lists, `listed-is`)
  unfoldable pub listed : Reader X → Reader (List X)
  listed one l = up_to one (length l) l

  unfoldable pub inside : Reader X → Reader (List X)
  inside one [] = None
  inside one (c ∷ l) = cond (eqb c 41) (Some ([], l)) (listed one (c ∷ l))

  unfoldable pub bracketed : Reader X → Reader (List X)
  bracketed one [] = None
  bracketed one (b ∷ l) = cond (eqb b 40) (inside one l) None

-- what the things of a list make of a, one after the other, and the place behind the list
module _ {X A : Type 0} (step : A → X → A) where
  unfoldable pub after : A → List X → A
  after a [] = a
  after a (x ∷ xs) = after (step a x) xs

  unfoldable pub told : A → List ℕ → Option (List X × List ℕ) → Option (A × ℕ)
  told a s None = None
  told a s (Some (xs, l)) = Some (after a xs, length s - length l)
