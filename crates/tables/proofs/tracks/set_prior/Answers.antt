use mathlib.Core.Path.{◌≡◌}
use lib.ListN.{length}
use native.Mathlib.Omega.{arith}
use borrow.Author.Rules.{rules}
use Rattle.lists.specs.First.{change_first}
use Rattle.lists.proofs.Laying.{length_mapped}
use Rattle.types.specs.Track.{with_prior}
use Rattle.types.specs.States.{tracks_of}
use Rattle.tables.specs.Operations.{numbered}
use Rattle.tables.proofs.Stores.{no_track, tracks_are}
use Rattle.tables.proofs.Places.{inside, changed, same}
use Rattle.tables.proofs.tracks.set_prior.Goals as goal

pub returns-in-None : goal.returns-in-None
unfolding tracks_of
returns-in-None c =
    let n = c.taken-n in
    let a = c.args in
    let l : length a.s.tracks ≡ 64 = search (rules, length_mapped) in
    tracks_are a.s (change_first (numbered a.id) (with_prior a.prior)) _
    (same a.s.tracks 64 a.s.track_count n.result l n.ensures (numbered a.id) no_track c.find_track.result c.find_track.ensures (with_prior a.prior) c.in-None.is)

pub returns-in-Some : goal.returns-in-Some
unfolding tracks_of
returns-in-Some c =
    let i = c.in-Some in
    let n = c.taken-n in
    let a = c.args in
    let l : length a.s.tracks ≡ 64 = search (rules, length_mapped) in
    tracks_are a.s (change_first (numbered a.id) (with_prior a.prior)) _
    (changed a.s.tracks 64 a.s.track_count n.result l n.ensures (numbered a.id) no_track c.find_track.result c.find_track.ensures (with_prior a.prior) i.i c.with_class_prior.result i.is c.with_class_prior.ensures)

pub bounds-s-i : goal.bounds-s-i
unfolding tracks_of
bounds-s-i c =
    let i = c.in-Some in
    let n = c.taken-n in
    let a = c.args in
    let l : length a.s.tracks ≡ 64 = search (rules, length_mapped) in
    omega (arith, n.ensures, inside a.s.tracks 64 a.s.track_count n.result l n.ensures (numbered a.id) no_track c.find_track.result c.find_track.ensures i.i i.is)

pub offset_bounds-s-i : goal.offset_bounds-s-i
unfolding tracks_of
offset_bounds-s-i c =
    let i = c.in-Some in
    let n = c.taken-n in
    let a = c.args in
    let l : length a.s.tracks ≡ 64 = search (rules, length_mapped) in
    omega (arith, n.ensures, inside a.s.tracks 64 a.s.track_count n.result l n.ensures (numbered a.id) no_track c.find_track.result c.find_track.ensures i.i i.is)
