use mathlib.Core.Path.{◌≡◌, sym, ap, ◌∙◌}
use mathlib.Core.List.{map}
use lib.ListN.{length, take, replicate, length-map, length-replicate}
use mir.Syntax.{w64}
use mir.Val.{SFits}
use mir.Facts.{to_z-of_z}
use borrow.Author.Rules.{rules}
use Rattle.lists.proofs.Laying.{length_mapped}
use Rattle.types.specs.States.{tracks_of}
use Rattle.pairing.specs.declared.Row.{Row}
use Rattle.pairing.specs.Rows.{row_of, blank_row}
use Rattle.pairing.proofs.Rows.{lay_read, map_take}
use Rattle.matching.proofs.Ties.{rows_matched}
use Rattle.stages.proofs.pair.Goals as goal

pub returns : goal.returns
unfolding tracks_of
returns c =
    let u = c.args.u in
    let track_places : length u.tracks ≡ 64 = search (rules, length_mapped) in
    let f : SFits w64 c.args.batch.timestamp = search rules in
    let sized : length (map row_of u.tracks) ≡ length (replicate 64 blank_row) = length-map u.tracks row_of ∙ track_places ∙ sym (length-replicate {A = Row} 64 blank_row) in
    let rows = ap (take u.track_count) c.rows_of-rows.ensures ∙ lay_read u.track_count (map row_of u.tracks) (replicate 64 blank_row) sized ∙ map_take row_of u.track_count u.tracks in
    rows_matched _ _ _ (take u.track_count u.tracks) _ _ _ rows (rw (to_z-of_z f) at c.pair_rows.ensures)
