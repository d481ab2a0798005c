-- Each outcome of the assignment is written as the definition has it.
use native.Mathlib.Omega.{arith}
use mathlib.Core.Path.{sym, ap, ◌∙◌}
use lib.Seq.{length-take-le}
use Rattle.text.proofs.Texts.{wrote_in}
use Rattle.text.specs.Text.{refused_text}
use Rattle.line.proofs.Lines.{mul_few, reply_given, reply_refused}
use Rattle.line.proofs.pair.Goals as goal

pub overflow_mul-n : goal.overflow_mul-n
overflow_mul-n c =
    let columns = c.args.columns in
    let rows = c.args.rows in
    omega (arith, mul_few rows columns c.requires.0 c.requires.1)

pub slice_bounds-linear_assignment-end : goal.slice_bounds-linear_assignment-end
slice_bounds-linear_assignment-end c =
    let columns = c.args.columns in
    let rows = c.args.rows in
    sym (length-take-le _ _ (omega (arith, mul_few rows columns c.requires.0 c.requires.1, c.requires.2)))

pub returns-in-Ok : goal.returns-in-Ok
returns-in-Ok c = wrote_in _ (reply_given _ _ c.in-Ok.ensures) c.write_answer.ensures

pub returns-in-Err : goal.returns-in-Err
returns-in-Err c = wrote_in _ (ap refused_text c.from.ensures ∙ reply_refused _ c.in-Err.why c.in-Err.ensures) c.write_refusal.ensures
