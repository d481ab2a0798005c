-- The loop keeps that the first pairs are put, eight bytes each at most.
use Rattle.std.proofs.Common.{arith, ◌≡◌, ap, ◌∙◌, ◌++◌, ℕ, take, get_or, length}
use Rattle.std.proofs.lemmas.List.{length_push}
use Rattle.std.proofs.lemmas.Slice.Zip.{zip_turn}
use Rattle.lists.specs.Masks.{zipped}
use Rattle.kuhn_munkres.specs.Assignment.{Pair}
use Rattle.assignment.specs.Listing.{pair_of}
use Rattle.text.specs.Text.{pair_text, pairs_text}
use Rattle.text.proofs.Texts.{puts_none, puts_same, puts_then, pairs_more}
use Rattle.text.proofs.put_pairs.Goals as goal

pub loop-row-init : goal.loop-row-init
unfolding pairs_text zipped
loop-row-init c = (puts_none c.args.text.now, omega arith, omega arith)

pub loop-row-preserved : goal.loop-row-preserved
loop-row-preserved c =
    let rows = c.args.rows.now in
    let columns = c.args.columns.now in
    let t = zip_turn rows columns c.loop-row.yielded c.into_iter-row-iterator.result c.loop-row.row-iterator c.next.new.self c.next.result (cc) (cc) c.loop-row.yielded_by (c.in-Some.row, c.in-Some.column) c.in-Some.is c.next.ensures.steps in
    let n = length_push c.loop-row.yielded (c.in-Some.row, c.in-Some.column) in
    let k = length c.loop-row.yielded in
    let e : pair_of c.in-Some.row.now c.in-Some.column.now ≡ pair_of (get_or rows k 0) (get_or columns k 0) =
    ap (λ (i : ℕ). pair_of i c.in-Some.column.now) (t.2 0) ∙ ap (λ (j : ℕ). pair_of (get_or rows k 0) j) (t.3 0) in (
      rw n
          (puts_same
          (ap (λ (p : Pair). pairs_text (zipped pair_of (take k rows) (take k columns)) ++ pair_text p) e ∙ pairs_more rows columns k t.0 t.1)
          (puts_then c.loop-row.invariant.0 c.put_pair.ensures.0)),
      omega arith,
      omega arith,
    )
