use Rattle.std.proofs.Common.{◌≡◌, ◌+◌, ◌-◌, drop, length-set, subst, arith}
use Rattle.solving.specs.Solving.{backward_from}
use Rattle.solving.proofs.Steps.{backward_more, backward_all}
use Rattle.solving.proofs.backward.Goals as goal

pub loop-i-preserved : goal.loop-i-preserved
loop-i-preserved g c =
    let n = g.row.N in
    let l = c.args.columns.now in
    let y = c.args.y.now in
    let x = c.loop-i.x in
    let i = c.loop-i.invariant in
    let at = c.loop-i.i - 1 in
    let t = c.loop-i-test.true in
    let e : c.loop-i.i ≡ at + 1 = omega (arith, t) in (
      omega (arith, i.0),
      simp length-set i.1,
      backward_more n l y at x (omega (arith, t, i.0)) i.1 (subst (λ k. drop k x ≡ backward_from (n - k) n l y) e i.2) c.backward_item.ensures,
    )

pub returns : goal.returns
returns g c = backward_all g.row.N c.args.columns.now c.loop-i.x c.args.y.now c.loop-i.i (omega arith) c.loop-i.invariant.2
