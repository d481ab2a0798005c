use Rattle.std.proofs.Common.{◌*◌, ◌+◌, ◌/◌, ◌%◌, arith, ltb-true}
use Rattle.square_root.proofs.Squares.{hh_lt, hl_lt, ll_lt, right_by, less, wraps_back}
use Rattle.square_root.proofs.is_nearest.Goals as goal

pub returns-then-u-lt1073741824 : goal.returns-then-u-lt1073741824
returns-then-u-lt1073741824 c =
    λ e.
    let a = c.args.a in
    let q = c.args.q in
    let high = q / 67108864 in
    let low = q % 67108864 in
    let t = less a (high * high) in
    let moved = t * 67108864 + 268435456 in
    let u = less moved (2 * (high * low)) in
    let rest = u * 67108864 + q in
    let taken = 18014398509481985 + low * low in
    right_by a q t u (less rest taken) (omega arith) (omega arith) c.if-t-lt1073741824.true
    (wraps_back a (high * high) (omega arith) (omega (arith, hh_lt q (omega arith))))
    c.if-u-lt1073741824.true
    (wraps_back moved (2 * (high * low)) (omega (arith, c.if-t-lt1073741824.true)) (omega (arith, hl_lt q (omega arith))))
    (ltb-true _ _ e)
    (wraps_back rest taken (omega (arith, c.if-u-lt1073741824.true)) (omega (arith, ll_lt q)))
