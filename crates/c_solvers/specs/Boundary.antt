-- What a C caller sees of a reply: a code, and what stands behind the pointer that it lent.
use Rattle.std.specs.Prelude.{ℕ, ◌≡◌, T, Float}
use Rattle.std.specs.Float.Ieee.Positive.{positive}
use Rattle.number.specs.Reply.{code_of, left_in}
use Rattle.square_root.specs.Root.{NearestRoot, root_reply}

-- the root of x: what is left behind the pointer is the double nearest it
pub record RootCall (x : Float) (r : ℕ) (before after : Float) : Type 0 where
  pub code : r ≡ code_of (root_reply x)
  pub out : after ≡ left_in (root_reply x) before
  pub nearest : T (positive x) → NearestRoot x after
