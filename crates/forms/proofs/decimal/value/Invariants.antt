use mathlib.Core.Path.{◌≡◌}
use Prim.Native.Nat.{◌≤◌}
use lib.ListN.{drop}
use Rattle.forms.specs.Decimal.{value_of, limited}
use Rattle.forms.proofs.decimal.value.Given as goal

abbrev pub invariant-loop-b : goal.invariant-loop-b
invariant-loop-b l = (l.v ≤ 1000000) × (limited (value_of l.v (drop l.b-index l.w)) ≡ limited (value_of 0 l.w))
