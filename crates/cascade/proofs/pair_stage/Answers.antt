-- `cascade::pair_stage` meets its contract: the names, the table of the names' rows and columns, its pairing and what is put back are those of the definition's stage.
-- Assumes nothing.
use Rattle.std.proofs.lemmas.Result.{err_from_is_err_and}
use Rattle.std.proofs.Common.{rules, arith, ◌≡◌, ◌∙◌, sym, false, ℕ, ◌<◌, ◌≤◌, length, get_or}
use lib.Seq.{length-take-le}
use Rattle.cascade.specs.Stages.{row_name, column_name}
use Rattle.assignment.proofs.Picking.{ticks_front, gathered_few}
use Rattle.cascade.proofs.Places.{scattered_front}
use Rattle.cascade.proofs.Stage.{stage_fits, stage_refused, stage_done}
use Rattle.cascade.proofs.pair_stage.Goals as goal

pub solve_front-requires : goal.solve_front-requires
solve_front-requires c =
    let p = c.requires in
    let t = c.args.table in
    let parts : (i : ℕ) → i < t.rows → get_or c.map-rows.result i 0 ≡ row_name (get_or c.args.part.now i false) = λ i h. let a = c.map-rows.ensures.items.at i false 0 (omega (arith, h, p.0)) in search rules in
    let names : (j : ℕ) → j < t.columns → get_or c.map-columns.result j 0 ≡ column_name (get_or c.args.takers.now j 0) = λ j h. let a = c.map-columns.ensures.items.at j 0 0 (omega (arith, h, p.1)) in search rules in
    let long : length c.map-columns.result ≡ 64 = c.map-columns.ensures.items.long in
    let wide : t.columns ≤ length c.map-columns.result = rw long p.1 in
    let count = c.count_named-c.ensures ∙ ticks_front t.columns c.map-columns.result 0 wide in
    let f = stage_fits _ _ _ _ _ _ c.args.takers.now p.0 p.1 p.2 c.told-part c.told-takers parts names c.args.gate _ _ _ _ c.gather-r.ensures count in
    (f.0, f.1, rw c.gather-r.ensures.long f.2, search rules)

pub returns : goal.returns
returns c =
    let p = c.requires in
    let t = c.args.table in
    let parts : (i : ℕ) → i < t.rows → get_or c.map-rows.result i 0 ≡ row_name (get_or c.args.part.now i false) = λ i h. let a = c.map-rows.ensures.items.at i false 0 (omega (arith, h, p.0)) in search rules in
    let names : (j : ℕ) → j < t.columns → get_or c.map-columns.result j 0 ≡ column_name (get_or c.args.takers.now j 0) = λ j h. let a = c.map-columns.ensures.items.at j 0 0 (omega (arith, h, p.1)) in search rules in
    let long : length c.map-columns.result ≡ 64 = c.map-columns.ensures.items.long in
    let wide : t.columns ≤ length c.map-columns.result = rw long p.1 in
    let count = c.count_named-c.ensures ∙ ticks_front t.columns c.map-columns.result 0 wide in
    let f = stage_fits _ _ _ _ _ _ c.args.takers.now p.0 p.1 p.2 c.told-part c.told-takers parts names c.args.gate _ _ _ _ c.gather-r.ensures count in
    let tall : c.gather-r.result ≤ length c.gather-r.new.members = rw c.gather-r.ensures.members_long f.0 in
    let s = scattered_front _ _ _ c.gather-r.result _ _ _ wide tall c.scatter.ensures in
    stage_done _ _ _ _ _ _ c.args.takers.now p.0 p.1 p.2 c.told-part c.told-takers parts names c.args.gate _ _ _ _ c.gather-r.ensures count _ _ (search rules) s c.solve_front.result c.in_ok-solve_front.was c.solve_front.ensures

pub returns-in_err-solve_front : goal.returns-in_err-solve_front
returns-in_err-solve_front c =
    let p = c.requires in
    let t = c.args.table in
    let parts : (i : ℕ) → i < t.rows → get_or c.map-rows.result i 0 ≡ row_name (get_or c.args.part.now i false) = λ i h. let a = c.map-rows.ensures.items.at i false 0 (omega (arith, h, p.0)) in search rules in
    let names : (j : ℕ) → j < t.columns → get_or c.map-columns.result j 0 ≡ column_name (get_or c.args.takers.now j 0) = λ j h. let a = c.map-columns.ensures.items.at j 0 0 (omega (arith, h, p.1)) in search rules in
    let long : length c.map-columns.result ≡ 64 = c.map-columns.ensures.items.long in
    let wide : t.columns ≤ length c.map-columns.result = rw long p.1 in
    let count = c.count_named-c.ensures ∙ ticks_front t.columns c.map-columns.result 0 wide in
    let q = err_from_is_err_and c.from_residual.result c.from_residual.ensures.1 in
    rw (q.1, q.2) (stage_refused _ _ _ _ _ _ c.args.takers.now p.0 p.1 p.2 c.told-part c.told-takers parts names c.args.gate _ _ _ _ c.gather-r.ensures count c.solve_front.result _ _ c.in_err-solve_front.was c.solve_front.ensures)

-- the rows of the stage are no more than the members' array holds
pub slice_bounds-members-end : goal.slice_bounds-members-end
slice_bounds-members-end c =
    let G = c.gather-r.ensures in
    omega (arith, gathered_few _ _ _ _ _ _ _ _ _ _ G, c.requires.0, G.members_long)

pub slice_bounds-scatter-end-2 : goal.slice_bounds-scatter-end-2
slice_bounds-scatter-end-2 c =
    let G = c.gather-r.ensures in
    sym (length-take-le _ _ (omega (arith, gathered_few _ _ _ _ _ _ _ _ _ _ G, c.requires.0, G.members_long)))
