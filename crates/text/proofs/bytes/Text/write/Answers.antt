use Rattle.std.proofs.Common.{rules}
use Rattle.text.proofs.Texts.{copied}
use Rattle.text.proofs.bytes.Text.write.Goals as goal

pub returns : goal.returns
returns c = copied c.args.self.now c.args.out.now _ (search rules) c.copy_from_slice.ensures.after
