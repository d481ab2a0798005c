use Rattle.batches.proofs.Checks.{Passed}
use Rattle.batches.proofs.validate_detections.Given as goal

abbrev pub invariant-loop-d : goal.invariant-loop-d
invariant-loop-d l = Passed l.observations l.d-index
