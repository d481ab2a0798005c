-- `matching::pair_tracks` meets its contract: the table, the takers and what is told of them are those of the definitions. Assumes nothing.
use Rattle.std.proofs.lemmas.Result.{err_from_is_err_and}
use mathlib.Core.Path.{◌≡◌, sym, ap, ◌∙◌}
use mathlib.Core.List.{List}
use Prim.Native.Nat.{ℕ, ◌*◌, ◌≤◌, min}
use lib.Seq.{length-take-le}
use lib.Ieee.{Float}
use lib.ListN.{length, take, replicate, length-map, length-take, length-replicate}
use mir.Facts.{to_z-of_z}
use native.Mathlib.Nat.{mul-le-mul_right}
use native.Mathlib.Omega.{arith}
use borrow.Author.Rules.{rules}
use Rattle.lists.proofs.Laying.{length_mapped, length_lay}
use Rattle.lists.specs.Lay.{lay}
use Rattle.matrix.specs.Matrix.{nought}
use Rattle.pairing.specs.declared.Row.{Row}
use Rattle.pairing.specs.Rows.{ids_of}
use Rattle.pairing.proofs.Rows.{lay_read, map_take}
use Rattle.matching.proofs.Stage.{stage_unpriced, stage_unpaired, stage_told}
use Rattle.matching.proofs.pair_tracks.Goals as goal

fresh : length (replicate 4096 nought) ≡ 4096
fresh = length-replicate {A = Float} 4096 nought

-- both counts are at most 64, so that the table is in front of the array
module _ (rows wanted_rows columns wanted : ℕ) (costs : List Float) (en : rows ≡ min wanted_rows 64) (em : columns ≡ min wanted 64) (size : length costs ≡ 4096) where
  few : rows ≤ 64
  few = omega (arith, en)

  wide : columns ≤ 64
  wide = omega (arith, em)

  in_front : rows * columns ≤ length costs
  in_front = omega (arith, wide, mul-le-mul_right columns few, size)

  whole : (rows ≤ 64) × (columns ≤ 64) × (length (take (rows * columns) costs) ≡ rows * columns)
  whole = (few, wide, length-take-le (rows * columns) costs in_front)

pub slice_bounds-costs-end : goal.slice_bounds-costs-end
slice_bounds-costs-end c = in_front _ _ _ _ c.price_table.new.costs c.taken-count.ensures c.taken-columns.ensures c.price_table.array_long

pub assign_columns-requires : goal.assign_columns-requires
assign_columns-requires c =
    let long : length c.args.rows ≡ 64 = search (rules, length_mapped) in (
      whole _ _ _ _ c.price_table.new.costs c.taken-count.ensures c.taken-columns.ensures c.price_table.array_long,
      length-take-le c.taken-count.result c.args.rows (omega (arith, long, c.taken-count.ensures)),
      search rules,
    )

pub returns-in_err-price_table : goal.returns-in_err-price_table
returns-in_err-price_table c =
    let long : length c.args.rows ≡ 64 = search (rules, length_mapped) in
    let seen : length c.args.seen ≡ 64 = search (rules, length_mapped) in
    let q = err_from_is_err_and c.from_residual.result c.from_residual.ensures.1 in
    rw (q.1, q.2) (stage_unpriced c.args.rule c.args.rows c.args.seen c.args.n c.args.m _ _ long seen c.taken-count.ensures c.taken-columns.ensures c.args.window c.args.time (replicate 4096 nought) fresh c.price_table.result _ c.price_table.ensures _ c.in_err-price_table.was)

pub returns-in-Err : goal.returns-in-Err
returns-in-Err c =
    let long : length c.args.rows ≡ 64 = search (rules, length_mapped) in
    let seen : length c.args.seen ≡ 64 = search (rules, length_mapped) in
    stage_unpaired c.args.rule c.args.rows c.args.seen c.args.n c.args.m _ _ long seen c.taken-count.ensures c.taken-columns.ensures c.args.window c.args.time (replicate 4096 nought) fresh c.price_table.result _ c.price_table.ensures c.in_ok-price_table.was _ c.assign_columns.result (rw (to_z-of_z c.ranges.time) at c.assign_columns.ensures) _ c.in-Err.is

-- the numbers of the rows
module _ (n : ℕ) (all : List Row) (ids : List ℕ) (long : length all ≡ 64) (h : n ≤ 64) (is : ids ≡ lay (ids_of (take n all)) (replicate 64 0)) where
  laid : ids ≡ lay (take n (ids_of all)) (replicate 64 0)
  laid = is ∙ ap (λ (l : List ℕ). lay l (replicate 64 0)) (sym (map_take (λ (r : Row). r.id) n all))

  numbered : length (ids_of all) ≡ length (replicate {A = ℕ} 64 0)
  numbered = length-map all (λ (r : Row). r.id) ∙ long ∙ sym (length-replicate {A = ℕ} 64 0)

  ids_long : n ≤ length ids
  ids_long = omega (arith, h, ap length laid ∙ length_lay (take n (ids_of all)) (replicate 64 0) (omega (arith, length-take n (ids_of all), numbered)) ∙ length-replicate {A = ℕ} 64 0)

  ids_read : take n ids ≡ take n (ids_of all)
  ids_read = ap (take n) laid ∙ lay_read n (ids_of all) (replicate 64 0) numbered

pub returns-in-Ok : goal.returns-in-Ok
returns-in-Ok c =
    let long : length c.args.rows ≡ 64 = search (rules, length_mapped) in
    let seen : length c.args.seen ≡ 64 = search (rules, length_mapped) in
    stage_told c.args.rule c.args.rows c.args.seen c.args.n c.args.m _ _ long seen c.taken-count.ensures c.taken-columns.ensures c.args.window c.args.time (replicate 4096 nought) fresh c.price_table.result _ c.price_table.ensures
    c.in_ok-price_table.was _ c.assign_columns.result (rw (to_z-of_z c.ranges.time) at c.assign_columns.ensures) c.in-Ok.is c.ids_of-ids.result
    (ids_read c.taken-count.result c.args.rows c.ids_of-ids.result long (omega (arith, c.taken-count.ensures)) c.ids_of-ids.ensures)
    (ids_long c.taken-count.result c.args.rows c.ids_of-ids.result long (omega (arith, c.taken-count.ensures)) c.ids_of-ids.ensures) _ c.tell.ensures
