use Rattle.std.proofs.Common.{◌≤◌, ◌+◌, ◌*◌, take}
use Rattle.text.specs.Text.{Puts, list_text}
use Rattle.text.proofs.put_list.Given as goal

abbrev pub invariant-loop-n : goal.invariant-loop-n
invariant-loop-n l = Puts (list_text (take l.n-index l.list)) l.initial.text l.text × (l.text.len ≤ l.initial.text.len + 3 * l.n-index)
