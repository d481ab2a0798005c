-- The answer to a line is, of all pairings of the line's table, one of least total.
use Rattle.std.specs.Prelude.{Some}
use mathlib.Core.Path.{◌≡◌, refl, sym, ap, ◌∙◌, subst}
use mathlib.Core.Bool.{true, false, ◌&&◌}
use mathlib.Core.List.{List, [], ◌∷◌}
use Prim.Native.Nat.{ℕ, zero, suc, ◌*◌, ◌≤◌, ◌<◌}
use native.Mathlib.Omega.{arith}
use borrow.Author.Tests.{leb-true, le-leb, eqb-true}
use lib.Dec.{eqb, leb}
use lib.ListN.{get_or, length}
use lib.Ieee.{Float, nan, binary64, of_bits}
use Rattle.number.specs.Reply.{given}
use Rattle.number.proofs.Replies.{past_test}
use Rattle.number.proofs.Zeros.{both}
use Rattle.whole.specs.Integer.{0_z, Within}
use Rattle.whole.specs.Whole.{WholeValue, whole_of}
use Rattle.whole.proofs.Values.{is_whole, whole_same}
use Rattle.lists.specs.Masks.{Every}
use Rattle.kuhn_munkres.specs.Assignment.{Pairs, assignment_reply}
use Rattle.least.specs.Least.{cost_at, WholeCosts}
use Rattle.least.proofs.Sentinel.{Ranged}
use Rattle.least.proofs.Dense.{one_at}
use Rattle.least.proofs.Answer.{assignment_least}
use Rattle.request.specs.Request.{Request, request_of, even, shaped}
use Rattle.line.specs.Line.{formed, decided, reply_to}
use Rattle.line.proofs.Lines.{even_size}
use Rattle.line_least.specs.LeastLine.{costs_in, number_at, LeastLine}
use Rattle.line_least.proofs.Ranges.{Fit, Numbers, request_numbers}

-- ---- the table's shape
even_wide : (w : ℕ) (t : List (List Float)) → even w t ≡ true → (i : ℕ) → i < length t → length (get_or t i []) ≡ w
unfolding even
even_wide w [] e i h = absurd (no i h)
  where
    no : (i : ℕ) → i < 0 → ⊥
    no i h = omega arith
even_wide w (r ∷ t) e zero h = eqb-true (length r) w (both (eqb (length r) w) (even w t) e).0
even_wide w (r ∷ t) e (suc i) h = even_wide w t (both (eqb (length r) w) (even w t) e).1 i (omega arith)

every_at : {A : Type 0} (P : A → Type 0) (l : List A) (d : A) (i : ℕ) → Every P l → i < length l → P (get_or l i d)
unfolding Every
every_at P [] d i h l = absurd (no i l)
  where
    no : (i : ℕ) → i < 0 → ⊥
    no i h = omega arith
every_at P (x ∷ k) d zero h l = h.0
every_at P (x ∷ k) d (suc i) h l = every_at P k d i h.1 (omega arith)

-- a number in range is the one that `whole_of` gives
settled : (x : Float) → Ranged x → WholeValue x (whole_of x) × Within 1_000_000 (whole_of x)
settled x (d, v, w) = let e = whole_same x d v in (is_whole x d v, (omega arith, omega arith))

zero_whole : WholeValue (of_bits binary64 0) 0_z
unfolding of_bits
zero_whole = record { minus = false; mag = 0; val = (refl, refl); is = omega arith }

module _ (q : Request) (N : Numbers q) (few_rows : q.sizes.rows ≤ 64) (few_columns : q.sizes.columns ≤ 64) (has : shaped q ≡ true) where
  abbrev n : ℕ
  n = q.sizes.rows

  abbrev m : ℕ
  m = q.sizes.columns

  shape : (length q.table ≡ n) × (even m q.table ≡ true)
  shape = let p = both (eqb (length q.table) n) (even m q.table) has in (eqb-true (length q.table) n p.0, p.1)

  place : (i j : ℕ) → i < n → j < m → cost_at (costs_in q) m i j ≡ get_or (get_or q.table i []) j nan
  place i j h l = one_at q.table m i j (even_wide m q.table shape.1) (rw shape.0 h) l

  entry_fit : (i j : ℕ) → i < n → j < m → Fit (cost_at (costs_in q) m i j)
  entry_fit i j h l =
      let r = every_at (Every Fit) q.table [] i N.table (rw shape.0 h) in
      subst Fit (sym (place i j h l)) (every_at Fit (get_or q.table i []) nan j r (rw (even_wide m q.table shape.1 i (rw shape.0 h)) l))

  wholes : WholeCosts (costs_in q) n m q.sizes.cost (of_bits binary64 0) (number_at q) (whole_of q.sizes.cost) 0_z
  wholes = record {
    rows_few = few_rows;
    columns_few = few_columns;
    size = even_size m q.table shape.1 ∙ ap (λ (k : ℕ). k * m) shape.0;
    costs_are = λ i j h l e. settled (cost_at (costs_in q) m i j) (entry_fit i j h l e);
    row_is = settled q.sizes.cost N.cost;
    column_is = (zero_whole, (omega arith, omega arith));
  }

  least_of_lem : (a : Pairs) → assignment_reply (costs_in q) n m q.sizes.cost (of_bits binary64 0) ≡ given a → LeastLine q a
  least_of_lem a e =
      let T = assignment_least (costs_in q) n m q.sizes.cost (of_bits binary64 0) (number_at q) (whole_of q.sizes.cost) 0_z wholes in
      let w : given T.answer ≡ given a = sym T.given_it ∙ e in
      let z : T.answer ≡ a = cc in
      subst (LeastLine q) z (record { pairing = T.pairing; least = T.least })

pub line_least : (l : List ℕ) (q : Request) (a : Pairs) → request_of l ≡ Some q → reply_to l ≡ given a → LeastLine q a
unfolding reply_to decided
line_least l q a r e =
    let x = past_test (formed l) 13 (decided (request_of l)) a e in
    let y = past_test (leb q.sizes.rows 64 && leb q.sizes.columns 64) 11 _ a (rw r at x.1) in
    let z = past_test (shaped q) 10 _ a y.1 in
    let f = both (leb q.sizes.rows 64) (leb q.sizes.columns 64) y.0 in
    least_of_lem q (request_numbers l q r) (leb-true q.sizes.rows 64 f.0) (leb-true q.sizes.columns 64 f.1) z.0 a z.1

-- Of lines that ask for something within the limits, only those with a table of another shape are refused: no step on a line's numbers fails.
pub line-answered :
    (l : List ℕ) (q : Request) → formed l ≡ true → request_of l ≡ Some q → q.sizes.rows ≤ 64 → q.sizes.columns ≤ 64 → shaped q ≡ true
    → (a : Pairs) × (reply_to l ≡ given a) × LeastLine q a
unfolding reply_to decided
line-answered l q f r few_rows few_columns has =
    let whole-costs = wholes q (request_numbers l q r) few_rows few_columns has in
    let T = assignment_least (costs_in q) q.sizes.rows q.sizes.columns q.sizes.cost (of_bits binary64 0) (number_at q) (whole_of q.sizes.cost) 0_z whole-costs in
    let e : reply_to l ≡ given T.answer = rw (f, r, le-leb q.sizes.rows 64 few_rows, le-leb q.sizes.columns 64 few_columns, has) T.given_it in
    (T.answer, e, record { pairing = T.pairing; least = T.least })
