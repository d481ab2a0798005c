-- A worked case: what a definition gives, beside what 01 says it gives.
use Rattle.std.specs.Prelude.{◌≡◌, List, [], ◌∷◌}

pub data Case : Type 1 where
  case : {A : Type 0} → A → A → Case

abbrev pub Holds : Case → Type 0
Holds (case found expected) = found ≡ expected

abbrev pub All : List Case → Type 0
All [] = Unit {0}
All (c ∷ cs) = Holds c × All cs
