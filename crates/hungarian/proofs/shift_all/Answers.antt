use Rattle.std.proofs.Common.{rules, ◌≤◌, ◌+◌, ◌++◌, List, length, ap, ◌∙◌}
use lib.ListN.{drop}
use lib.Ieee.{Float}
use Rattle.kuhn_munkres.specs.Binary64.{float}
use Rattle.hungarian.proofs.LoopTurns.{lowered_front}
use Rattle.hungarian.proofs.shift_all.Goals as goal

pub returns : goal.returns
returns c =
    let m = c.args.minv.now in
    let n = c.args.n + 1 in
    let inside : n ≤ length m = search rules in
    (c.pay.ensures, ap (λ (t : List Float). t ++ drop n m) c.lower.ensures ∙ lowered_front float c.args.delta m n inside)
