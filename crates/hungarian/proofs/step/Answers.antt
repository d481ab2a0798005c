use Rattle.hungarian.proofs.step.Goals as goal

pub returns-then-x-b : goal.returns-then-x-b
returns-then-x-b c = simp c.if-x-b.true

pub returns-else-x-b : goal.returns-else-x-b
returns-else-x-b c = simp c.if-x-b.false
