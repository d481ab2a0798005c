-- The operations that the steps of the assignment use, over any type of numbers: at binary64 the steps are what the code does bit for bit, and where its
-- numbers are whole what is proved least.
use Rattle.std.specs.Prelude.{Bool}

-- `top` is above every cost, and `out` is what a place beyond a list reads as: no step looks at it.
pub record Ops (N : Type 0) : Type 0 where
  pub zer : N
  pub out : N
  pub top : N
  pub add : N → N → N
  pub sub : N → N → N
  pub lt : N → N → Bool
  pub finite : N → Bool
