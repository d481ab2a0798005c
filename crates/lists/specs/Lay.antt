-- A list laid over the front of another: what an array holds when its first slots are written and the others are as they were.
use Rattle.std.specs.Prelude.{List, ◌++◌, length, drop}

unfoldable pub lay : {A : Type 0} → List A → List A → List A
lay l m = l ++ drop (length l) m
