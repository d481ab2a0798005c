-- What falls from call to call is the depth, doubled, a list counting one more than a form; so calls nest no deeper than brackets may. Within one list the loop
-- takes form after form: what is listed from `i` on stays what is listed from `at` on.
use Rattle.std.proofs.Common.{◌≡◌, drop, ◌+◌, ◌-◌, length}
use Rattle.forms.specs.Shape.{list_of}
use Rattle.forms.proofs.+form_list.Given as goal

abbrev pub decreases-form : goal.decreases-form
decreases-form l = l.depth + l.depth

abbrev pub decreases-list : goal.decreases-list
decreases-list l = l.depth + l.depth + 1

abbrev pub invariant-list-loop-end : goal.invariant-list-loop-end
invariant-list-loop-end l = list_of l.depth (drop l.i l.s) ≡ list_of l.depth (drop l.fn.at l.s)

abbrev pub decreases-list-loop-end : goal.decreases-list-loop-end
decreases-list-loop-end l = length l.s - l.i
