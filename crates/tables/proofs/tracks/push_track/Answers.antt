use mathlib.Core.Path.{◌≡◌}
use lib.ListN.{length}
use native.Mathlib.Omega.{arith}
use borrow.Author.Rules.{rules}
use Rattle.lists.specs.Table.{pushed}
use Rattle.lists.proofs.Laying.{length_mapped}
use Rattle.lists.proofs.Tables.{pushed_room, pushed_full}
use Rattle.tables.proofs.Stores.{tracks_are}
use Rattle.tables.proofs.tracks.push_track.Goals as goal

pub returns-then-n-lt-MAX_TRACKS : goal.returns-then-n-lt-MAX_TRACKS
returns-then-n-lt-MAX_TRACKS c =
    let s = c.args.s in
    let x = c.args.track in
    let n = c.taken-n in
    let l : length s.tracks ≡ 64 = search (rules, length_mapped) in
    tracks_are s (pushed 64 x) _ (pushed_room s.tracks 64 s.track_count n.result l n.ensures x c.if-n-lt-MAX_TRACKS.true)

pub returns-else-n-lt-MAX_TRACKS : goal.returns-else-n-lt-MAX_TRACKS
returns-else-n-lt-MAX_TRACKS c =
    let s = c.args.s in
    let x = c.args.track in
    let n = c.taken-n in
    let l : length s.tracks ≡ 64 = search (rules, length_mapped) in
    tracks_are s (pushed 64 x) _ (pushed_full s.tracks 64 s.track_count n.result l n.ensures x (omega (arith, c.if-n-lt-MAX_TRACKS.false)))
