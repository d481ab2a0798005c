use mathlib.Core.Path.{ap}
use Rattle.lists.specs.Table.{table}
use Rattle.tables.specs.declared.sequences.Sequences.{Sequences}
use Rattle.tables.specs.Sequences.{noted_in}
use Rattle.tables.proofs.Stores.{sequences_are}
use Rattle.tables.proofs.sequences.note_sequence.Goals as goal

pub returns : goal.returns
returns c =
    let a = c.args in
    sequences_are a.s (noted_in 32 a.sensor a.sequence) _ (ap (λ (u : Sequences). table u.entries u.count) c.note-noted.ensures)
