use Rattle.std.proofs.Common.{◌∙◌}
use Rattle.text.proofs.Texts.{no_room, room, wrote_none, wrote_same}
use Rattle.text.proofs.write_refusal.Goals as goal

pub returns-then-out-lt1024 : goal.returns-then-out-lt1024
returns-then-out-lt1024 c = wrote_same (no_room _ _ c.if-out-lt1024.true) (wrote_none c.args.out.now)

pub returns : goal.returns
returns c = wrote_same (c.refusal.ensures.holds ∙ room _ _ c.if-out-lt1024.false) c.write.ensures
