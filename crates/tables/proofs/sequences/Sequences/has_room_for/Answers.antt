use mathlib.Core.Path.{◌≡◌, ap, ◌∙◌}
use lib.ListN.{length}
use borrow.Author.Rules.{rules}
use Rattle.std.specs.Prelude.{is_some}
use Rattle.lists.proofs.Laying.{length_mapped}
use Rattle.tables.proofs.Ascending.{room_new, room_known}
use Rattle.tables.proofs.sequences.Sequences.has_room_for.Goals as goal

pub returns-then-is_some : goal.returns-then-is_some
returns-then-is_some c = c.if-is_some.true ∙ room_known _ c.args.sensor (c.if-is_some.ensures ∙ ap is_some c.last.ensures)

pub returns-else-is_some : goal.returns-else-is_some
returns-else-is_some c =
    let s = c.args.self.now in
    let l : length s.entries ≡ 32 = search (rules, length_mapped) in
    room_new s.entries s.count c.args.sensor l (c.if-is_some.ensures ∙ ap is_some c.last.ensures)
