use Rattle.std.proofs.Common.{◌≡◌, ◌+◌, ◌-◌, ◌*◌, ◌%◌, ◌^◌, arith}
use Rattle.square_root.proofs.Squares.{moved, less, wraps_back}
use Rattle.square_root.proofs.settle.Goals as goal

pub returns-then-d-q : goal.returns-then-d-q
returns-then-d-q c =
    let a = c.args.a in
    let q = c.args.q in
    let s = c.square-s in
    let t = less (a + 4) s.result.whole in
    let d = t * 2 ^ 52 + 3 * q - s.result.rest in
    let first : (t + s.result.whole) % 2 ^ 64 ≡ a + 4 = wraps_back (a + 4) s.result.whole (omega arith) (omega (arith, s.ensures.fits)) in
    let second : (less d 18014398509481987 + 18014398509481987) % 2 ^ 64 ≡ d = wraps_back d 18014398509481987 (omega (arith, c.if-t-lt16.true)) (omega arith) in
    rw (c.past.ensures.is, c.past-then-d-q.ensures.is)
    (moved (a * 2 ^ 52) q d
    (omega (arith, s.ensures.is, s.ensures.small, s.ensures.fits, first, c.if-t-lt16.true))
    (omega arith)
    (omega (arith, second, c.if-d-q.true))
    (omega (arith, second, c.if-d-q.true)))
