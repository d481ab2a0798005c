-- The births' contract is stated of the tracker at the batch's time; each end is then one law of Ending.
use Rattle.std.proofs.lemmas.Result.{err_from_is_err_and}
use mathlib.Core.Path.{◌≡◌}
use lib.ListN.{length}
use mir.Syntax.{w64}
use mir.Val.{SFits}
use mir.Facts.{to_z-of_z}
use borrow.Author.Rules.{rules}
use Rattle.lists.proofs.Laying.{length_mapped}
use Rattle.moving.specs.Steps.{with_time}
use Rattle.stages.proofs.Ending.{finish_refused, finish_done}
use Rattle.stages.proofs.finish.Goals as goal

pub returns-in_err-walked : goal.returns-in_err-walked
returns-in_err-walked c =
    let a = c.args in
    let p = a.m.paired in
    let f : SFits w64 a.batch.timestamp = search rules in
    let e : c.with_time-timed.result ≡ with_time a.batch.timestamp a.m.tracker = rw (to_z-of_z f) at c.with_time-timed.ensures in
    let q = err_from_is_err_and c.from_residual.result c.from_residual.ensures.1 in
    rw (q.1, q.2) (finish_refused a.m.tracker a.batch p.pairs p.unmatched p.unmatched_count _ (rw (to_z-of_z f, e) at c.in_err-walked.ensures))

pub returns : goal.returns
returns c =
    let a = c.args in
    let p = a.m.paired in
    let f : SFits w64 a.batch.timestamp = search rules in
    let e : c.with_time-timed.result ≡ with_time a.batch.timestamp a.m.tracker = rw (to_z-of_z f) at c.with_time-timed.ensures in
    let pair_places : length p.pairs ≡ 64 = search (rules, length_mapped) in
    let observation_places : length a.batch.observations ≡ 64 = search (rules, length_mapped) in
    let number_places : length p.unmatched ≡ 64 = search (rules, length_mapped) in
    let r = c.requires in
    rw (to_z-of_z f)
    (finish_done a.m.tracker a.batch p.pairs p.unmatched p.unmatched_count c.in_ok-walked.walked (rw (to_z-of_z f, e) at c.in_ok-walked.ensures) c.note_sequence.result r.0 r.1 r.2 r.3 pair_places observation_places number_places c.note_sequence.ensures)
