use Rattle.std.proofs.Common.{◌≡◌, length, take, ◌∙◌, rules, arith}
use Rattle.lists.proofs.Sames.{pointwise_is}
use Rattle.settings.proofs.Frames.{too_long_lem, one_length, two_lengths}
use Rattle.settings.proofs.frame.same_frame.Goals as goal
use Rattle.settings.proofs.frame.same_frame.Goals.{then-n-gt32-via-then-n-gt32, then-n-gt32-via-else-n-gt32+then-n-b}

pub returns-then-n-gt32 : goal.returns-then-n-gt32
returns-then-n-gt32 c =
    let a = c.args.a in
    let b = c.args.b in
    let la : length a.bytes ≡ 32 = search rules in
    let lb : length b.bytes ≡ 32 = search rules in
    elim c.then-n-gt32.branch [
      | then-n-gt32-via-then-n-gt32 w ↦ too_long_lem a b w.if-n-gt32.true
      | then-n-gt32-via-else-n-gt32+then-n-b w ↦ two_lengths a b la lb w.if-n-gt32.false w.if-n-b.true
    ]

pub returns : goal.returns
returns c =
    let a = c.args.a in
    let b = c.args.b in
    c.eq.ensures ∙ pointwise_is (take a.length a.bytes) (take a.length b.bytes) ∙ one_length a b (omega arith) c.if-n-b.false
