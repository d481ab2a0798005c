use Rattle.std.proofs.Common.{rules, to_z-of_z, w64, SFits}
use Rattle.lifecycle.specs.Lifecycle.{registered_of}
use Rattle.lifecycle.proofs.registered.Goals as goal

pub returns : goal.returns
unfolding registered_of
returns c =
    let f : SFits w64 c.args.l.created_at = search rules in
    rw (to_z-of_z f, to_z-of_z c.ranges.time, c.observe.ensures, c.counted-count.ensures, to_z-of_z c.ranges.time)
