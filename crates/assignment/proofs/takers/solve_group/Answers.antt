use Rattle.std.proofs.lemmas.Result.{err_from_is_err_and}
use native.Mathlib.Omega.{arith}
use mathlib.Core.Path.{refl, ◌∙◌}
use lib.Seq.{length-take-le}
use Rattle.std.proofs.Common.{rules, ◌≤◌, length}
use Rattle.assignment.proofs.Solving.{group_unborne, group_empty, group_fits, group_failed, group_solved}
use Rattle.assignment.proofs.Picking.{ticks_front}
use Rattle.assignment.proofs.Takes.{taken_front}
use Rattle.assignment.proofs.takers.solve_group.Goals as goal

pub returns-then-names-g : goal.returns-then-names-g
returns-then-names-g c = (refl, group_unborne _ _ _ _ _ _ _ _ c.requires.0 _ c.requires.1 _ (search rules) c.if-names-g.true)

pub returns-then-c-eq0 : goal.returns-then-c-eq0
returns-then-c-eq0 c =
    let few = c.requires.0.columns_few in
    let wide : c.args.columns ≤ length c.args.names.now.of_columns = search rules in
    let count = c.count_named-c.ensures ∙ ticks_front c.args.columns c.args.names.now.of_columns c.args.g wide in
    (refl, group_empty _ _ _ _ _ _ _ _ c.requires.0 _ c.requires.1 _ _ (search rules) count c.if-c-eq0.true)

pub gather_in-r-requires : goal.gather_in-r-requires
gather_in-r-requires c = let q = c.requires.0 in let room = c.requires.2 in (q.rows_few, q.columns_few, q.size, room.enough, room.few)

pub solve_front-requires : goal.solve_front-requires
solve_front-requires c =
    let q = c.requires.0 in
    let G = c.gather_in-r.ensures in
    let few = c.requires.0.columns_few in
    let wide : c.args.columns ≤ length c.args.names.now.of_columns = search rules in
    let count = c.count_named-c.ensures ∙ ticks_front c.args.columns c.args.names.now.of_columns c.args.g wide in
    let f = group_fits _ _ _ _ _ _ _ _ _ _ _ q.rows_few q.columns_few c.requires.2.enough G count in
    (f.0, f.1, f.2, omega (arith, G.long, c.requires.2.some))

pub returns-in_err-solve_front : goal.returns-in_err-solve_front
returns-in_err-solve_front c =
    let G = c.gather_in-r.ensures in
    let few = c.requires.0.columns_few in
    let wide : c.args.columns ≤ length c.args.names.now.of_columns = search rules in
    let count = c.count_named-c.ensures ∙ ticks_front c.args.columns c.args.names.now.of_columns c.args.g wide in
    let p = err_from_is_err_and c.from_residual.result c.from_residual.ensures.1 in (
      G.long,
      rw (p.1, p.2) (group_failed _ _ _ _ _ _ _ _ c.requires.0 _ c.requires.1 c.if-names-g.false _ count c.if-c-eq0.false _ _ _ _ G _ _ (search rules) c.in_err-solve_front.ensures),
    )

pub take_columns-requires : goal.take_columns-requires
take_columns-requires c =
    let few = c.requires.0.columns_few in
    let wide : c.args.columns ≤ length c.args.names.now.of_columns = search rules in
    rw (length-take-le c.args.columns c.args.names.now.of_columns wide) few

pub returns : goal.returns
returns c =
    let G = c.gather_in-r.ensures in
    let few = c.requires.0.columns_few in
    let wide : c.args.columns ≤ length c.args.names.now.of_columns = search rules in
    let count = c.count_named-c.ensures ∙ ticks_front c.args.columns c.args.names.now.of_columns c.args.g wide in
    let f = group_fits _ _ _ _ _ _ _ _ _ _ _ c.requires.0.rows_few few c.requires.2.enough G count in
    let r = c.gather_in-r.result in
    let tall : r ≤ length c.gather_in-r.new.members = omega (arith, f.0, G.members_long) in (
      G.long,
      group_solved _ _ _ _ _ _ _ _ c.requires.0 _ c.requires.1 c.if-names-g.false _ count c.if-c-eq0.false _ _ _ _ G _ _ _ (search rules) c.in_ok-solve_front.ensures (taken_front _ _ _ _ r _ _ _ wide tall c.take_columns.ensures),
    )
