-- The form reader and the list reader meet their contracts, shown together.
use Rattle.std.proofs.Common.{rules, arith, ◌≡◌, ◌+◌, ◌≤◌, length, true, false, get_or, ◌∙◌}
use Rattle.forms.specs.Shape.{word_byte}
use Rattle.forms.proofs.Shapes as facts
use Rattle.forms.proofs.+form_list.Goals as goal

-- the line's end
pub form-returns-in_err-b : goal.form-returns-in_err-b
form-returns-in_err-b t c = rw c.from_residual.ensures (facts.form_ends c.args.s.now c.args.at c.args.depth (search rules))

-- a bracket, one too deep
pub form-returns-then-depth-eq0 : goal.form-returns-then-depth-eq0
form-returns-then-depth-eq0 t c = facts.form_deep c.args.s.now c.args.at c.args.depth (search rules) (search rules) c.if-depth-eq0.true

-- a bracket and the line's end
pub form-returns-in_err-get : goal.form-returns-in_err-get
form-returns-in_err-get t c =
    rw c.from_residual-in_err-get.ensures (facts.form_open c.args.s.now c.args.at c.args.depth (search rules) (search rules) c.if-depth-eq0.false (search rules))

-- empty brackets
pub form-returns-then-branch-eq41 : goal.form-returns-then-branch-eq41
form-returns-then-branch-eq41 t c = facts.form_empty c.args.s.now c.args.at c.args.depth (search rules) (search rules) c.if-depth-eq0.false (search rules) (search rules)

-- brackets round forms
pub form-returns-else-branch-eq41 : goal.form-returns-else-branch-eq41
form-returns-else-branch-eq41 t c =
    c.list.ensures
    ∙ facts.form_list c.args.s.now c.args.at c.args.depth (search rules) (search rules) c.if-depth-eq0.false (search rules) (search rules)

-- a word
pub form-returns-then-word_byte : goal.form-returns-then-word_byte
form-returns-then-word_byte t c =
    let n : c.args.at + 1 ≤ length c.args.s.now = search rules in
    let passed = facts.passed c.args.s.now _ c.past_word.result n c.past_word.ensures in
    let h : word_byte (get_or c.args.s.now c.args.at 0) ≡ true = search rules in
    facts.form_word c.args.s.now c.args.at c.args.depth (search rules) (search rules) h c.past_word.result passed.within passed.left

-- another byte
pub form-returns-else-word_byte : goal.form-returns-else-word_byte
form-returns-else-word_byte t c =
    let h : word_byte (get_or c.args.s.now c.args.at 0) ≡ false = search rules in
    facts.form_other c.args.s.now c.args.at c.args.depth (search rules) (search rules) h

-- no form stands there
pub list-returns-in_err-end : goal.list-returns-in_err-end
list-returns-in_err-end t c =
    let e = c.in_err-end.ensures in
    rw c.from_residual.ensures
    (facts.list_refused c.args.s.now c.loop-end.i c.args.depth (facts.read_refused c.args.s.now c.loop-end.i c.args.depth e)
    ∙ facts.listed_on c.args.s.now c.loop-end.invariant)

-- a form and the line's end
pub list-returns-in_err-get : goal.list-returns-in_err-get
list-returns-in_err-get t c =
    let found = facts.read_next c.args.s.now c.loop-end.i c.args.depth c.in_ok-end.end c.in_ok-end.ensures in
    rw c.from_residual-in_err-get.ensures (facts.list_ends c.args.s.now c.loop-end.i c.args.depth c.in_ok-end.end found (search rules) ∙ facts.listed_on c.args.s.now c.loop-end.invariant)

-- the closing bracket
pub list-returns-in-41 : goal.list-returns-in-41
list-returns-in-41 t c =
    let found = facts.read_next c.args.s.now c.loop-end.i c.args.depth c.in_ok-end.end c.in_ok-end.ensures in
    facts.list_closed c.args.s.now c.loop-end.i c.args.depth c.in_ok-end.end found (search rules) (search rules)
    ∙ facts.listed_on c.args.s.now c.loop-end.invariant

-- another byte
pub list-returns-in_default : goal.list-returns-in_default
list-returns-in_default t c =
    let found = facts.read_next c.args.s.now c.loop-end.i c.args.depth c.in_ok-end.end c.in_ok-end.ensures in
    facts.list_other c.args.s.now c.loop-end.i c.args.depth c.in_ok-end.end found (search rules) (search rules) (search rules)
    ∙ facts.listed_on c.args.s.now c.loop-end.invariant

-- a blank: the turn ends further on, and what is listed from there is what was listed before
pub list-loop-end-smaller : goal.list-loop-end-smaller
list-loop-end-smaller t c =
    let found = facts.read_next c.args.s.now c.loop-end.i c.args.depth c.in_ok-end.end c.in_ok-end.ensures in
    omega arith

pub list-loop-end-preserved : goal.list-loop-end-preserved
list-loop-end-preserved t c =
    let found = facts.read_next c.args.s.now c.loop-end.i c.args.depth c.in_ok-end.end c.in_ok-end.ensures in
    facts.list_more c.args.s.now c.loop-end.i c.args.depth c.in_ok-end.end found (search rules) (search rules) ∙ c.loop-end.invariant
