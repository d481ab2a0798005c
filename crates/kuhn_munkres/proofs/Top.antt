-- At binary64 a finite step leaves the top where it is.
use mathlib.Core.Path.{◌≡◌, refl, sym}
use mathlib.Core.Bool.{true, false, true≢false}
use lib.Ieee.{Float, nan, inf, fin, binary64, sub, add}
use lib.Ieee.Scale.{finite}

pub top_stays : (d : Float) → finite d ≡ true → sub binary64 (inf false) d ≡ inf false
unfolding sub add
top_stays nan e = absurd (true≢false (sym e))
top_stays (inf s) e = absurd (true≢false (sym e))
top_stays (fin true m x) e = refl
top_stays (fin false m x) e = refl
