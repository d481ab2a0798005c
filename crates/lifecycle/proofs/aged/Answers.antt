use Rattle.std.proofs.Common.{rules, to_z-of_z, w64, SFits}
use Rattle.lifecycle.specs.Lifecycle.{aged_of}
use Rattle.lifecycle.proofs.aged.Goals as goal

pub returns : goal.returns
unfolding aged_of
returns c =
    let created : SFits w64 c.args.l.created_at = search rules in
    let age : SFits w64 c.age.result = search rules in
    let reference : SFits w64 c.reference.result = search rules in
    rw (to_z-of_z created, c.verdict_of.ensures, c.settle-state.ensures, to_z-of_z age, c.age.ensures, to_z-of_z c.ranges.now, to_z-of_z reference, c.reference.ensures)
