use borrow.Author.Tests.{lt-ltb, le-ltb}
use Rattle.owner.proofs.batch.place_of.Goals as goal

pub returns-then-j-lt-MAX_OBSERVATIONS : goal.returns-then-j-lt-MAX_OBSERVATIONS
returns-then-j-lt-MAX_OBSERVATIONS c = rw (lt-ltb _ _ c.if-j-lt-MAX_OBSERVATIONS.true)

pub returns-else-j-lt-MAX_OBSERVATIONS : goal.returns-else-j-lt-MAX_OBSERVATIONS
returns-else-j-lt-MAX_OBSERVATIONS c = rw (le-ltb _ _ c.if-j-lt-MAX_OBSERVATIONS.false)
