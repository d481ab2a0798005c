-- Rows and tables: what an entry and a row leave, and what their readers' answers say.
use Rattle.std.specs.Prelude.{Option}
use mathlib.Core.Path.{◌≡◌, refl, ap, sym, ◌∙◌}
use mathlib.Core.Bool.{◌&&◌}
use mathlib.Core.List.{List, [], ◌∷◌}
use Prim.Native.Nat.{ℕ, ◌+◌, ◌-◌, ◌≤◌}
use native.Mathlib.Omega.{arith}
use lib.Dec.{eqb}
use lib.ListN.{length, drop}
use lib.Ieee.{Float}
use Rattle.std.proofs.Common.{Option, Some, None}
use Rattle.forms.specs.Shape.{past_word}
use Rattle.forms.proofs.Shapes.{never, Tail, one, more, past_tail}
use Rattle.forms.specs.Decimal.{decimal_of}
use Rattle.request.specs.Listed.{after, told}
use Rattle.request.specs.Request.{word_of, dash, leaving, cost_of, cost_in, entry_of, row_of, Stored, store_one, row_answer, RowRead, row_told, Filled, fill_from, fill_row, rows_answer, TableRead}
use Rattle.request.specs.declared.words.Found.{Found}
use Rattle.request.specs.declared.table.Rows.{Rows}
use Rattle.request.proofs.Lists.{rest_of, Leaves, Got, got, bracketed_leaves}

-- ---- an entry leaves what stands behind its word
leaving_rest : {X : Type 0} (m r : List ℕ) (x : X) (o : Option X) → leaving m o ≡ Some (x, r) → m ≡ r
unfolding leaving rest_of
leaving_rest m r x None h = never h
leaving_rest m r x (Some y) h = ap rest_of h

no_word : (l : List ℕ) → past_word l ≡ l → entry_of l ≡ None
unfolding entry_of word_of leaving cost_in cost_of dash decimal_of
no_word l e = let k : length l - length l ≡ 0 = omega arith in rw (e, k)

later : (l m : List ℕ) → Tail (0 ∷ l) m → (m ≡ l → ⊥) → Tail l m
later l m one f = absurd (f refl)
later l m (more t) f = t

pub entry_leaves : Leaves entry_of
unfolding entry_of
entry_leaves l r x h =
    let e : past_word l ≡ r = leaving_rest (past_word l) r x (cost_in (word_of l)) h in
    rw e at (later l (past_word l) (past_tail 0 l) (λ g. never (sym (no_word l g) ∙ h)))

pub row_leaves : Leaves row_of
unfolding row_of
row_leaves = bracketed_leaves entry_of entry_leaves

-- ---- a row's answer
pub row_refused : (read : Option (Stored × ℕ)) (at : ℕ) (o : List Float) → read ≡ None → length o ≡ 4096 → RowRead read at None o
row_refused read at o q h =
    record {
      is = rw q;
      long = h;
      short = λ f g. absurd (let z : ◌≡◌ {A = ℕ} 0 1 = cc in omega arith);
      holds = λ a e g. never (sym q ∙ g);
    }

costs_of : Option (Stored × ℕ) → List Float
costs_of None = []
costs_of (Some (a, e)) = a.costs

pub row_read : (read : Option (Stored × ℕ)) (at : ℕ) (o : List Float) (a : Stored) (e : ℕ) → read ≡ Some (a, e) → o ≡ a.costs → length o ≡ 4096 → at + a.count ≤ e → RowRead read at (Some (record { value = a.count; end = e })) o
unfolding costs_of
row_read read at o a e q w h k =
    record {
      is = rw q;
      long = h;
      short = λ f g. let u : record { value = a.count; end = e } ≡ f = cc in let n = ap (λ (x : Found ℕ). x.value) u in let v = ap (λ (x : Found ℕ). x.end) u in omega arith;
      holds = λ b f g. w ∙ ap costs_of (sym q ∙ g);
    }

pub row_same : (read read' : Option (Stored × ℕ)) (at at' : ℕ) (r : Option (Found ℕ)) (o : List Float) → read ≡ read' → at' ≤ at → RowRead read at r o → RowRead read' at' r o
row_same read read' at at' r o q k w =
    record {
      is = w.is ∙ ap row_answer q;
      long = w.long;
      short = λ f g. let u = w.short f g in omega arith;
      holds = λ a e g. w.holds a e (q ∙ g);
    }

-- a row that was read: its costs stand in o', m of them
pub record RowGot (s : List ℕ) (at k : ℕ) (o : List Float) (m e : ℕ) (o' : List Float) : Type 0 where
  pub row : List Float
  pub stands : Got row_of s at row e
  pub made : after (store_one k) (record { count = 0; costs = o }) row ≡ record { count = m; costs = o' }

pub no_row : (s : List ℕ) (at k : ℕ) (o : List Float) → None ≡ row_answer (row_told k o s (row_of (drop at s))) → row_of (drop at s) ≡ None
unfolding told
no_row s at k o h = go (row_of (drop at s)) h
  where
    go : (x : Option (List Float × List ℕ)) → None ≡ row_answer (row_told k o s x) → x ≡ None
    go None g = refl
    go (Some (xs, l)) g = absurd (let z : ◌≡◌ {A = ℕ} 0 1 = cc in omega arith)

stored : (a : Stored) (m : ℕ) (o : List Float) → m ≡ a.count → o ≡ a.costs → a ≡ record { count = m; costs = o }
stored a m o p q = λ i. record { count = sym p i; costs = sym q i }

pub row_got : (s : List ℕ) (at k : ℕ) (o : List Float) (f : Found ℕ) (o' : List Float) → RowRead (row_told k o s (row_of (drop at s))) at (Some f) o' → RowGot s at k o f.value f.end o'
unfolding told
row_got s at k o f o' w = go (row_of (drop at s)) refl w.is w.holds
  where
    go : (x : Option (List Float × List ℕ)) → row_of (drop at s) ≡ x → Some f ≡ row_answer (row_told k o s x) → ((a : Stored) (e : ℕ) → row_told k o s x ≡ Some (a, e) → o' ≡ a.costs) → RowGot s at k o f.value f.end o'
    go None q g h = absurd (let z : ◌≡◌ {A = ℕ} 0 1 = cc in omega arith)
    go (Some (xs, l)) q g h =
        let a : Stored = after (store_one k) (record { count = 0; costs = o }) xs in
        let u : f ≡ record { value = a.count; end = length s - length l } = cc in
        record {
          row = xs;
          stands = got row_of row_leaves s at xs l f.end q (ap (λ (x : Found ℕ). x.end) u);
          made = stored a f.value o' (ap (λ (x : Found ℕ). x.value) u) (h a (length s - length l) refl);
        }

-- ---- a table's answer
filled_of : Option (Filled × ℕ) → List Float
filled_of None = []
filled_of (Some (a, e)) = a.costs

pub table_refused : (read : Option (Filled × ℕ)) (o : List Float) → read ≡ None → length o ≡ 4096 → TableRead read None o
table_refused read o q h = record { is = rw q; long = h; holds = λ a e g. never (sym q ∙ g) }

pub table_read : (read : Option (Filled × ℕ)) (o : List Float) (a : Filled) (e : ℕ) → read ≡ Some (a, e) → o ≡ a.costs → length o ≡ 4096 → TableRead read (Some (record { value = record { count = a.rows; even = a.same }; end = e })) o
unfolding filled_of
table_read read o a e q w h = record { is = rw q; long = h; holds = λ b f g. w ∙ ap filled_of (sym q ∙ g) }

pub fill_is : (s : List ℕ) (at w : ℕ) (a : Filled) (m e : ℕ) (o' : List Float) (g : RowGot s at a.next a.costs m e o')
    → fill_row w a g.row ≡ record { rows = a.rows + 1; same = a.same && eqb m w; next = a.next + m; costs = o' }
fill_is s at w a m e o' g = ap (fill_from w a) g.made

pub table_same : (read read' : Option (Filled × ℕ)) (r : Option (Found Rows)) (o : List Float) → read ≡ read' → TableRead read r o → TableRead read' r o
table_same read read' r o q w = record { is = w.is ∙ ap rows_answer q; long = w.long; holds = λ a e g. w.holds a e (q ∙ g) }
