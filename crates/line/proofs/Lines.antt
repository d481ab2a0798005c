-- The whole line: its shape, what is decided, and what is written.
use mathlib.Core.Path.{◌≡◌, refl, ap, sym, ◌∙◌}
use mathlib.Core.Bool.{Bool, true, false, ◌&&◌}
use mathlib.Core.List.{List, [], ◌∷◌}
use Prim.Native.Nat.{ℕ, ◌*◌, ◌<◌, ◌≤◌}
use native.Mathlib.Omega.{arith}
use native.Mathlib.Nat.{mul-le-mul_right}
use borrow.Author.Tests.{lt-ltb, le-ltb, lt-leb, le-leb, eqb-true}
use lib.Dec.{eqb, leb}
use lib.ListN.{length, take, drop, length-append}
use lib.Ieee.{Float, binary64, of_bits}
use Rattle.number.specs.Reply.{refused, given}
use Rattle.number.proofs.Zeros.{both}
use Rattle.kuhn_munkres.specs.Assignment.{in_one, assignment_reply}
use Rattle.assignment.specs.Listing.{AssignmentAnswer, pairs_in}
use Rattle.assignment.specs.Replies.{number_of}
use Rattle.assignment.specs.declared.Assignment.{Assignment}
use Rattle.assignment.specs.declared.AssignmentError.{AssignmentError}
use Rattle.std.specs.Prelude.{Ok, Err, None, Option, Some}
use Rattle.forms.specs.Shape.{form_of, place_reply}
use Rattle.forms.proofs.Shapes.{read_next, read_refused}
use Rattle.request.specs.Request.{Request, request_of, shaped, even}
use Rattle.std.specs.Cmp.Lexicographic.{pointwise}
use Rattle.request.specs.Asking.{Stated, asked_reply, no_costs, costs_of}
use Rattle.request.proofs.Asks.{over_front}
use Rattle.text.specs.Text.{refused_text, answer_text, text_of}
use Rattle.line.specs.Line.{whole, formed, decided, reply_to, answer_of}

-- ---- the shape
module _ (s : List ℕ) where
  pub formed_long : 16384 < length s → false ≡ formed s
  unfolding formed
  formed_long h = rw (lt-ltb 16384 (length s) h)

  module _ (h : length s ≤ 16384) where
    formed_is : formed s ≡ whole (form_of 4 s)
    unfolding formed
    formed_is = rw (le-ltb 16384 (length s) h)

    pub formed_none : refused 13 ≡ place_reply s (form_of 4 (drop 0 s)) → false ≡ formed s
    unfolding whole
    formed_none g = rw (formed_is, read_refused s 0 4 g)

    module _ (e : ℕ) (g : given e ≡ place_reply s (form_of 4 (drop 0 s))) where
      found : form_of 4 s ≡ Some (drop e s)
      found = (read_next s 0 4 e g).left

      pub formed_within : e ≤ length s
      formed_within = (read_next s 0 4 e g).within

      pub formed_end : pointwise eqb (drop e s) (10 ∷ []) ≡ formed s
      unfolding whole
      formed_end = rw (formed_is, found) (go (drop e s))
        where
          go : (l : List ℕ) → pointwise eqb l (10 ∷ []) ≡ whole (Some l)
          go [] = refl
          go (b ∷ []) = last (eqb b 10)
            where
              last : (t : Bool) → t && true ≡ t
              last true = refl
              last false = refl
          go (b ∷ c ∷ l) = more (eqb b 10)
            where
              more : (t : Bool) → t && false ≡ false
              more true = refl
              more false = refl

-- ---- the pairing
pub mul_few : (r c : ℕ) → r ≤ 64 → c ≤ 64 → r * c ≤ 4096
mul_few r c h g = let a : r * c ≤ 64 * c = mul-le-mul_right c h in omega arith

module _ (costs : List Float) {n m : ℕ} {rowCost columnCost : Float} where
  pub reply_given : (a : Assignment) → AssignmentAnswer costs n m rowCost columnCost (Ok a) → answer_text (pairs_in a) ≡ text_of (assignment_reply costs n m rowCost columnCost)
  unfolding text_of
  reply_given a h = rw (← h.is)

  pub reply_refused : (why : AssignmentError) → AssignmentAnswer costs n m rowCost columnCost (Err why) → refused_text (number_of why) ≡ text_of (assignment_reply costs n m rowCost columnCost)
  unfolding text_of
  reply_refused why h = rw (← h.is)

-- ---- what is asked
pub record AskedGot (read : Option Request) (r c : ℕ) (k : Float) (b : Bool) : Type 0 where
  pub asked : Request
  pub is : read ≡ Some asked
  pub rows_are : r ≡ asked.sizes.rows
  pub columns_are : c ≡ asked.sizes.columns
  pub cost_is : k ≡ asked.sizes.cost
  pub shaped_is : b ≡ shaped asked

pub asked_got : (read : Option Request) (r c : ℕ) (k : Float) (b : Bool) → given (record { sizes = record { rows = r; columns = c; cost = k }; shaped_table = b }) ≡ asked_reply read → AskedGot read r c k b
asked_got None r c k b h = absurd (let z : ◌≡◌ {A = ℕ} 0 1 = cc in omega arith)
asked_got (Some q) r c k b h =
    let x : Stated = record { sizes = record { rows = r; columns = c; cost = k }; shaped_table = b } in
    let e : x ≡ record { sizes = q.sizes; shaped_table = shaped q } = cc in
    record {
      asked = q;
      is = refl;
      rows_are = ap (λ (y : Stated). y.sizes.rows) e;
      columns_are = ap (λ (y : Stated). y.sizes.columns) e;
      cost_is = ap (λ (y : Stated). y.sizes.cost) e;
      shaped_is = ap (λ (y : Stated). y.shaped_table) e;
    }

pub nothing_asked : (read : Option Request) → refused 13 ≡ asked_reply read → refused_text 13 ≡ text_of (decided read)
unfolding decided text_of
nothing_asked None h = refl
nothing_asked (Some q) h = absurd (let z : ◌≡◌ {A = ℕ} 0 1 = cc in omega arith)

-- rows of w make so many costs
pub even_size : (w : ℕ) (t : List (List Float)) → even w t ≡ true → length (in_one t) ≡ length t * w
unfolding even in_one
even_size w [] h = omega arith
even_size w (r ∷ t) h =
    let p = both (eqb (length r) w) (even w t) h in
    let a : length r ≡ w = eqb-true (length r) w p.0 in
    let b = even_size w t p.1 in
    length-append r (in_one t) ∙ omega arith

module _ (read : Option Request) (r c : ℕ) (k : Float) (b : Bool) (g : AskedGot read r c k b) where
  pub decided_rows : 64 < r → refused_text 11 ≡ text_of (decided read)
  unfolding decided text_of
  decided_rows h = rw (g.is, lt-leb g.asked.sizes.rows 64 (rw g.rows_are at h))

  module _ (h : r ≤ 64) where
    few_rows : leb g.asked.sizes.rows 64 ≡ true
    few_rows = le-leb g.asked.sizes.rows 64 (rw g.rows_are at h)

    pub decided_columns : 64 < c → refused_text 11 ≡ text_of (decided read)
    unfolding decided text_of
    decided_columns e = rw (g.is, few_rows, lt-leb g.asked.sizes.columns 64 (rw g.columns_are at e))

    module _ (e : c ≤ 64) where
      few_columns : leb g.asked.sizes.columns 64 ≡ true
      few_columns = le-leb g.asked.sizes.columns 64 (rw g.columns_are at e)

      pub decided_shape : b ≡ false → refused_text 10 ≡ text_of (decided read)
      unfolding decided text_of
      decided_shape q = let u : shaped g.asked ≡ false = sym g.shaped_is ∙ q in rw (g.is, few_rows, few_columns, u)

      module _ (q : b ≡ true) (o : List Float) (m : r * c ≤ 4096) (a : o ≡ costs_of read) where
        shape : shaped g.asked ≡ true
        shape = sym g.shaped_is ∙ q

        size : length (in_one g.asked.table) ≡ r * c
        size = go (eqb (length g.asked.table) g.asked.sizes.rows) refl shape
          where
            go : (x : Bool) → eqb (length g.asked.table) g.asked.sizes.rows ≡ x → x && even g.asked.sizes.columns g.asked.table ≡ true → length (in_one g.asked.table) ≡ r * c
            go true u v =
                even_size g.asked.sizes.columns g.asked.table v
                ∙ ap (λ (n : ℕ). n * g.asked.sizes.columns) (eqb-true _ _ u ∙ sym g.rows_are)
                ∙ ap (λ (n : ℕ). r * n) (sym g.columns_are)
            go false u v = absurd (let z : ◌≡◌ {A = ℕ} 0 1 = cc in omega arith)

        costs_are : take (r * c) o ≡ in_one g.asked.table
        costs_are = rw (a, g.is, ← size) (over_front (in_one g.asked.table) no_costs (rw size m))

        pub decided_all : text_of (assignment_reply (take (r * c) o) r c k (of_bits binary64 0)) ≡ text_of (decided read)
        unfolding decided
        decided_all = rw (g.is, few_rows, few_columns, shape, costs_are, g.rows_are, g.columns_are, g.cost_is)

-- ---- the answer
module _ (l : List ℕ) where
  pub not_formed : formed l ≡ false → refused_text 13 ≡ answer_of l
  unfolding answer_of reply_to text_of
  not_formed e = rw e

  pub by_request : formed l ≡ true → text_of (decided (request_of l)) ≡ answer_of l
  unfolding answer_of reply_to
  by_request e = rw e
