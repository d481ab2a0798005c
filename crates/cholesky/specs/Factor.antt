-- The answers of `cholesky`, as replies.
use Rattle.std.specs.Prelude.{ℕ, Float, None, Option, Some}
use Rattle.number.specs.Reply.{Reply, refused, given, reply_or}
use Rattle.matrix.specs.Matrix.{Matrix}
use Rattle.cholesky.specs.declared.Lower.{Lower}

-- the root of a pivot; 01's number 7 where it fails, and so for a factor
abbrev pub reply_of_pivot : Option Float → Reply Float
reply_of_pivot o = reply_or 7 o

-- the columns of a factor
abbrev pub reply_of_factor : {N : ℕ} → Option (Lower N) → Reply Matrix
reply_of_factor (Some l) = given l.columns
reply_of_factor None = refused 7
