use borrow.Author.Rules.{rules}
use native.Mathlib.Omega.{arith}
use Rattle.hungarian.proofs.Replies.{rows_over, columns_over, size_bad, run_failed, run_given}
use Rattle.hungarian.proofs.solve.Goals as goal
use Rattle.hungarian.proofs.solve.Goals.{then-q-gt64-via-then-q-gt64, then-q-gt64-via-else-q-gt64+then-q-gt64-2}

pub returns-then-q-gt64 : goal.returns-then-q-gt64
returns-then-q-gt64 c =
    elim c.then-q-gt64.branch [
      | then-q-gt64-via-then-q-gt64 w ↦ rows_over c.args.costs.now c.args.q _ w.if-q-gt64.true
      | then-q-gt64-via-else-q-gt64+then-q-gt64-2 w ↦ columns_over c.args.costs.now c.args.q (omega (arith, w.if-q-gt64.false)) _ w.if-q-gt64-2.true
    ]

pub returns-then-costs-q : goal.returns-then-costs-q
returns-then-costs-q c = let s = c in size_bad s.args.costs.now s.args.q (omega (arith, c.if-q-gt64.false)) (omega (arith, c.if-q-gt64-2.false)) _ c.if-costs-q.true

pub hungarian_square-requires : goal.hungarian_square-requires
hungarian_square-requires c = let s = c in (omega (arith, c.if-q-gt64.false), omega (arith, c.if-q-gt64-2.false), c.if-costs-q.false)

pub returns-in-Err : goal.returns-in-Err
returns-in-Err c = run_failed c.args.costs.now c.args.q (omega (arith, c.if-q-gt64.false)) (omega (arith, c.if-q-gt64-2.false)) c.if-costs-q.false _ _ _ _ (search rules) c.in-Err.ensures

pub returns-in-Ok : goal.returns-in-Ok
returns-in-Ok c = run_given c.args.costs.now c.args.q (omega (arith, c.if-q-gt64.false)) (omega (arith, c.if-q-gt64-2.false)) c.if-costs-q.false _ _ c.in-Ok.ensures
