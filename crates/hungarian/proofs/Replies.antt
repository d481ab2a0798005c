-- The checks of the call, and what the run ends with, as its reply.
use mathlib.Core.Path.{◌≡◌, refl, sym, ap, ◌∙◌}
use mathlib.Core.Bool.{Bool, true, false, ◌&&◌}
use mathlib.Core.List.{List}
use Prim.Native.Nat.{ℕ, ◌+◌, ◌*◌, ◌≤◌, ◌<◌}
use native.Mathlib.Omega.{arith}
use borrow.Author.Tests.{lt-leb, le-leb, eq-eqb, ne_eqb}
use lib.Dec.{eqb, leb}
use lib.ListN.{length}
use lib.Ieee.{Float}
use Rattle.std.specs.Prelude.{Result, Ok, Err}
use Rattle.number.specs.Reply.{Reply, refused, given, refuse_unless, left_in}
use Rattle.kuhn_munkres.specs.Binary64.{float}
use Rattle.kuhn_munkres.specs.Square.{entry}
use Rattle.kuhn_munkres.specs.Steps.{Search, found, stopped, spent, rows}
use Rattle.hungarian.specs.Structs.{square_from}
use Rattle.hungarian.specs.Ends.{end_of, pick_end, end_reply, run_reply, number_of, reply_of_run, RunAnswer}
use Rattle.hungarian.specs.declared.Shape.{Shape}
use Rattle.hungarian.specs.declared.RunError.{RunError}
use Rattle.hungarian.specs.declared.RunError.TheVariants.{TooMany, Failed}
use Rattle.hungarian.specs.declared.SearchError.{SearchError}
use Rattle.hungarian.specs.declared.SearchError.TheVariants.{NotFinite, Spent}

end_given : (x : Search Float) (p : List ℕ) → pick_end (Ok tt) p ≡ end_of x → given p ≡ end_reply x
unfolding end_reply
end_given (found s) p e = cc
end_given stopped p e = absurd (let w : ◌≡◌ {A = ℕ} 0 1 = cc in omega arith)
end_given spent p e = absurd (let w : ◌≡◌ {A = ℕ} 0 1 = cc in omega arith)

end_refused : (x : Search Float) (why : SearchError) (p : List ℕ) → pick_end (Err why) p ≡ end_of x → refused 10 ≡ end_reply x
unfolding end_reply
end_refused (found s) NotFinite p e = absurd (let w : ◌≡◌ {A = ℕ} 0 1 = cc in omega arith)
end_refused (found s) Spent p e = absurd (let w : ◌≡◌ {A = ℕ} 0 1 = cc in omega arith)
end_refused stopped why p e = refl
end_refused spent why p e = refl

module _ (costs : List Float) (q : Shape) where
  abbrev X : Search Float
  X = rows float (entry float (square_from costs q)) (q.rows + q.cols) (q.rows + q.cols)

  by : (a b c : Bool) → leb q.rows 64 ≡ a → leb q.cols 64 ≡ b → eqb (length costs) (q.rows * q.cols) ≡ c → run_reply costs q ≡ refuse_unless (a && b) 11 (refuse_unless c 10 (end_reply X))
  unfolding run_reply
  by a b c p r s = rw (p, r, s)

  declined : (k : ℕ) (r : Result (Unit {0}) RunError) (p : List ℕ) → ((t : List ℕ) → reply_of_run r t ≡ refused k) → refused k ≡ run_reply costs q → RunAnswer costs q r p p
  declined k r p f e = record { is = f p ∙ e; left = ap (λ (x : Reply (List ℕ)). left_in x p) e }

  pub rows_over : (p : List ℕ) → 64 < q.rows → RunAnswer costs q (Err TooMany) p p
  rows_over p h = declined 11 (Err TooMany) p (λ t. refl) (sym (by false (leb q.cols 64) (eqb (length costs) (q.rows * q.cols)) (lt-leb q.rows 64 h) refl refl))

  module _ (hr : q.rows ≤ 64) where
    pub columns_over : (p : List ℕ) → 64 < q.cols → RunAnswer costs q (Err TooMany) p p
    columns_over p h = declined 11 (Err TooMany) p (λ t. refl) (sym (by true false (eqb (length costs) (q.rows * q.cols)) (le-leb q.rows 64 hr) (lt-leb q.cols 64 h) refl))

    module _ (hc : q.cols ≤ 64) where
      pub size_bad : (p : List ℕ) → (length costs ≡ q.rows * q.cols → ⊥) → RunAnswer costs q (Err Failed) p p
      size_bad p h = declined 10 (Err Failed) p (λ t. refl) (sym (by true true false (le-leb q.rows 64 hr) (le-leb q.cols 64 hc) (ne_eqb (length costs) (q.rows * q.cols) h)))

      module _ (size : length costs ≡ q.rows * q.cols) where
        pub checked : run_reply costs q ≡ end_reply X
        checked = by true true true (le-leb q.rows 64 hr) (le-leb q.cols 64 hc) (eq-eqb (length costs) (q.rows * q.cols) size)

        pub run_failed : (p t : List ℕ) (why : SearchError) (e : RunError) → number_of e ≡ 10 → pick_end (Err why) t ≡ end_of X → RunAnswer costs q (Err e) p p
        run_failed p t why e n h = declined 10 (Err e) p (λ t. ap refused n) (end_refused X why t h ∙ sym checked)

        pub run_given : (p t : List ℕ) → pick_end (Ok tt) t ≡ end_of X → RunAnswer costs q (Ok tt) p t
        run_given p t e = let w : given t ≡ run_reply costs q = end_given X t e ∙ sym checked in record { is = w; left = ap (λ (x : Reply (List ℕ)). left_in x p) w }
