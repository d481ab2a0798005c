-- A test on a value that may be missing.
use Rattle.std.specs.Prelude.{Bool, false, None, Option, Some}

-- a value is set, and the test holds of it
abbrev pub set_and : {A : Type 0} → (A → Bool) → Option A → Bool
set_and p None = false
set_and p (Some x) = p x
