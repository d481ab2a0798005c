use Rattle.std.proofs.Common.{rules, to_z-of_z, w64, SFits}
use Rattle.lifecycle.specs.Lifecycle.{credited_of}
use Rattle.lifecycle.proofs.credited.Goals as goal

pub returns : goal.returns
unfolding credited_of
returns c =
    let f : SFits w64 c.args.l.created_at = search rules in
    rw (to_z-of_z f, c.mature.ensures, c.max-times.ensures)
