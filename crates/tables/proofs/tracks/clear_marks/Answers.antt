use mathlib.Core.Path.{refl, ap, ◌∙◌}
use mathlib.Core.Bool.{false}
use mathlib.Core.List.{map}
use lib.ListN.{get_or, set}
use native.Mathlib.Omega.{arith}
use borrow.Author.Rules.{rules}
use Rattle.lists.specs.Table.{table}
use Rattle.lists.proofs.Laying.{length_mapped}
use Rattle.lists.proofs.Loops.{mapped_start, mapped_more}
use Rattle.lists.proofs.Tables.{mapped}
use Rattle.types.specs.Track.{with_mark}
use Rattle.types.specs.States.{with_tables, sequence_table, candidate_table}
use Rattle.types.specs.declared.tracker.Cartesian3DTracker.{Cartesian3DTracker}
use Rattle.tables.proofs.Stores.{no_track, tracks_are}
use Rattle.tables.proofs.tracks.clear_marks.Goals as goal

pub loop-i-init : goal.loop-i-init
loop-i-init c = (search rules, omega (arith, c.taken-n.ensures), search (rules, length_mapped), mapped_start (with_mark false) _, refl)

pub loop-i-preserved : goal.loop-i-preserved
loop-i-preserved c =
    let l = c.loop-i in
    let v = l.invariant in
    (search rules, v.1, v.2, mapped_more (with_mark false) _ _ _ no_track v.3 (omega arith), ap (λ (u : Cartesian3DTracker). with_tables (table (set l.s.tracks l.i (with_mark false (get_or l.s.tracks l.i no_track))) u.track_count) (sequence_table u) (candidate_table u) u) v.4)

pub returns : goal.returns
returns c =
    let n = c.taken-n in
    let s = c.args.s in
    let v = c.loop-i.invariant in
    ap (λ (u : Cartesian3DTracker). with_tables (table c.loop-i.s.tracks n.result) (sequence_table u) (candidate_table u) u) v.4
    ∙ tracks_are s (map (with_mark false)) _ (mapped s.tracks 64 s.track_count n.result v.2 n.ensures (with_mark false) _ c.loop-i.i v.3 (omega arith))
