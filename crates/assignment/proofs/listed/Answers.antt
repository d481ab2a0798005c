use native.Mathlib.Omega.{arith}
use mathlib.Core.Path.{◌≡◌}
use Prim.Native.Nat.{◌-◌}
use lib.ListN.{length}
use Rattle.kuhn_munkres.specs.Assignment.{pairs_of, free_rows}
use Rattle.assignment.specs.Taking.{takers_of}
use Rattle.assignment.proofs.listed.Goals as goal

pub returns : goal.returns
unfolding pairs_of
returns c = let r = c.list_rows-pair_count.ensures in let q = c.list_columns-unmatched_column_count.ensures in let e : c.args.rows - c.list_rows-pair_count.result ≡ length (free_rows (takers_of c.args.columns c.args.takers.now) 0 c.args.rows) = omega (arith, r.all, r.count_is) in λ i. record { pair_rows = r.pairs_are i; pair_columns = r.columns_are i; pair_count = r.count_is i; unmatched_rows = r.free_are i; unmatched_row_count = e i; unmatched_columns = q.free_are i; unmatched_column_count = q.count_is i }
