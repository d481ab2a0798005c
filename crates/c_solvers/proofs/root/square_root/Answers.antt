use mathlib.Core.Path.{◌≡◌, sym, ap, ◌∙◌}
use lib.Ieee.{Float}
use Rattle.number.specs.Reply.{Reply, refused, given, code_of, left_in}
use Rattle.square_root.specs.Root.{root_reply, reply_of_root}
use Rattle.square_root.proofs.Cases.{positive_given}
use Rattle.c_solvers.proofs.root.square_root.Goals as goal

pub returns-in-Some : goal.returns-in-Some
returns-in-Some c =
    let at = c in
    let e : given c.in-Some.v ≡ root_reply at.args.x = ap reply_of_root (sym c.in-Some.is) ∙ at.root.ensures.is in
    record { code = ap code_of e; out = ap (λ (r : Reply Float). left_in r at.args.out.now) e; nearest = λ p. at.root.ensures.nearest _ p (sym e) }

pub returns-in-None : goal.returns-in-None
returns-in-None c =
    let at = c in
    let e : refused 9 ≡ root_reply at.args.x = ap reply_of_root (sym c.in-None.is) ∙ at.root.ensures.is in
    record { code = ap code_of e; out = ap (λ (r : Reply Float). left_in r at.args.out.now) e; nearest = λ p. absurd (positive_given _ 9 p (sym e)) }
