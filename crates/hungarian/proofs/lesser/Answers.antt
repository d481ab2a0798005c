use Rattle.hungarian.proofs.lesser.Goals as goal

pub returns-then-cur-old : goal.returns-then-cur-old
returns-then-cur-old c = simp c.if-cur-old.true

pub returns-else-cur-old : goal.returns-else-cur-old
returns-else-cur-old c = simp c.if-cur-old.false
