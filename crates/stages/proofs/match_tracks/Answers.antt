-- The pairing's contract and the updates' are joined by the laws of Taking.
use Rattle.std.proofs.lemmas.Result.{err_from_is_err_and}
use mathlib.Core.Path.{◌≡◌}
use lib.ListN.{length}
use mir.Syntax.{w64}
use mir.Val.{SFits}
use mir.Facts.{to_z-of_z}
use borrow.Author.Rules.{rules}
use Rattle.lists.proofs.Laying.{length_mapped}
use Rattle.updating.specs.Updates.{update_of}
use Rattle.stages.proofs.Taking.{pairing_refused, update_refused, pairing_updated}
use Rattle.stages.proofs.match_tracks.Goals as goal

pub returns-in_err-paired : goal.returns-in_err-paired
returns-in_err-paired c =
    let a = c.args in
    let track_places : length a.u.tracks ≡ 64 = search (rules, length_mapped) in
    let observation_places : length a.batch.observations ≡ 64 = search (rules, length_mapped) in
    let q = err_from_is_err_and c.from_residual.result c.from_residual.ensures.1 in
    rw (q.1, q.2) (pairing_refused a.u a.batch track_places observation_places _ c.in_err-paired.ensures)

pub returns-in_err-tracker : goal.returns-in_err-tracker
returns-in_err-tracker c =
    let a = c.args in
    let track_places : length a.u.tracks ≡ 64 = search (rules, length_mapped) in
    let observation_places : length a.batch.observations ≡ 64 = search (rules, length_mapped) in
    let f : SFits w64 a.batch.timestamp = search rules in
    let e : c.update_of-update.result ≡ update_of a.u.config a.batch.sensor_id a.batch.timestamp = rw (to_z-of_z f) at c.update_of-update.ensures in
    let q = err_from_is_err_and c.from_residual-in_err-tracker.result c.from_residual-in_err-tracker.ensures.1 in
    rw (q.1, q.2) (update_refused a.u a.batch track_places observation_places _ c.in_ok-paired.ensures c.requires _ (rw e at c.in_err-tracker.ensures))

pub returns : goal.returns
returns c =
    let a = c.args in
    let track_places : length a.u.tracks ≡ 64 = search (rules, length_mapped) in
    let observation_places : length a.batch.observations ≡ 64 = search (rules, length_mapped) in
    let f : SFits w64 a.batch.timestamp = search rules in
    let e : c.update_of-update.result ≡ update_of a.u.config a.batch.sensor_id a.batch.timestamp = rw (to_z-of_z f) at c.update_of-update.ensures in
    pairing_updated a.u a.batch track_places observation_places _ c.in_ok-paired.ensures c.requires _ (rw e at c.in_ok-tracker.ensures)
