use Rattle.std.proofs.Common.{rules, ◌≡◌, ◌∙◌, ℕ}
use Rattle.std.specs.Prelude.{count_by, ◌==◌}
use Rattle.assignment.proofs.Picking.{counted}
use Rattle.assignment.proofs.table.count_named.Goals as goal

pub returns : goal.returns
returns c =
    let count : c.count.result ≡ count_by (λ (x : ℕ). x == c.args.g) c.args.names.now = search rules in
    count ∙ counted c.args.names.now c.args.g
