use Rattle.cost_table.proofs.Pricing.{tabled_sights}
use Rattle.cost_table.proofs.price_table.Goals as goal

pub returns : goal.returns
returns c = tabled_sights c.args.rule c.args.seen.now _ _ _ _ _ c.lay_detections.ensures.1 c.price_rows.ensures
