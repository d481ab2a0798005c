-- The padded square of one group, as `solve_dense` makes it: each row has a dummy column that costs the row cost, each column a dummy row that costs the
-- column cost, dummies pair with each other at 0, and a forbidden pair costs the sentinel. Its entries are worked out from the group's own table.
use Rattle.std.specs.Prelude.{cond, List, ℕ, ◌+◌, ◌-◌, ◌*◌, get_or, eqb, leb}
use Rattle.kuhn_munkres.specs.Ops.{Ops}

-- a group's own table, row after row, with what it is padded with
pub record Square (N : Type 0) : Type 0 where
  pub costs : List N
  pub rows : ℕ
  pub cols : ℕ
  pub far : N
  pub row : N
  pub col : N

module _ {N : Type 0} (O : Ops N) where
  -- the entry of row i and column j, both counted from 1. 01, Assignment: "a cost not finite forbids the pair".
  unfoldable pub entry : Square N → ℕ → ℕ → N
  entry q i j =
      let c = get_or q.costs ((i - 1) * q.cols + (j - 1)) O.out in
      cond (leb i q.rows)
      (cond (leb j q.cols) (cond (O.finite c) c q.far) (cond (eqb j (q.cols + i)) q.row q.far))
      (cond (leb j q.cols) (cond (eqb i (q.rows + j)) q.col q.far) O.zer)
