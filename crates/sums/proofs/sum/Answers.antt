use Rattle.std.proofs.Common.{rules, ap, ◌∙◌, ◌≡◌}
use Rattle.sums.proofs.Summed.{summed}
use Rattle.sums.proofs.sum.Goals as goal

pub returns : goal.returns
returns g c =
    let run = c.reduce.ensures.runs in
    let source = c.copied.ensures.runs run.0 run.0.seen run.1 in
    let read = c.iter.ensures.runs source.0 source.0.seen in
    let items : run.0.items ≡ c.args.terms = source.2.2 ∙ read.4 (source.2.0 ∙ run.2) ∙ ap (λ s. s.rest.now) source.1 ∙ c.iter.ensures.rest in
    c.unwrap_or.ensures ∙ summed _ (λ x y r f called. (search rules, search rules)) g.row.N _ _ _ _ (search rules) run.0.long items run.3
