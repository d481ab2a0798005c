use Rattle.std.proofs.Common.{◌≤◌, ◌+◌, ◌*◌, take, length}
use Rattle.lists.specs.Masks.{zipped}
use Rattle.assignment.specs.Listing.{pair_of}
use Rattle.text.specs.Text.{Puts, pairs_text}
use Rattle.text.proofs.put_pairs.Given as goal

abbrev pub invariant-loop-row : goal.invariant-loop-row
invariant-loop-row l =
    Puts (pairs_text (zipped pair_of (take (length l.yielded) l.rows) (take (length l.yielded) l.columns))) l.initial.text l.text
    × (l.text.len ≤ l.initial.text.len + 8 * length l.yielded) × (length l.yielded ≤ length l.rows)
