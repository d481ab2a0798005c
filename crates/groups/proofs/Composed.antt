-- Groups compose: where each group's own takers have the least weight on its own table, all of them have the least weight on the whole table.
use Rattle.std.specs.Prelude.{None, Option, Some}
use mathlib.Core.Path.{◌≡◌, refl, sym, ap, ap₂, ◌∙◌, subst}
use mathlib.Core.Logic.{◌⊎◌, inl, inr}
use mathlib.Core.Bool.{Bool, true, false, cond, true≢false}
use mathlib.Core.List.{List, [], ◌∷◌}
use Prim.Native.Nat.{ℕ, zero, ◌+◌, ◌*◌, ◌≤◌, ◌<◌}
use native.Mathlib.Decide.{ℕ_discrete}
use native.Mathlib.Omega.{arith}
use borrow.Author.Tests.{ne_eqb}
use lib.Dec.{eqb}
use lib.ListN.{get_or, length, replicate}
use lib.Ieee.{Float, nan}
use lib.Ieee.Scale.{finite}
use Rattle.number.specs.Reply.{Reply, given, and_then}
use Rattle.whole.specs.Integer.{Integer, 0_z, ◌-Z◌, ◌≤Z◌, ◌≈◌, Within, sum}
use Rattle.whole.specs.Whole.{WholeValue}
use Rattle.whole.specs.Takers.{weight_of, Takes, LeastTakes}
use Rattle.whole.proofs.OneOne.{sum_same}
use Rattle.lists.specs.First.{any}
use Rattle.lists.specs.Masks.{up_from}
use Rattle.lists.proofs.Masks.{any_off, any_up}
use Rattle.kuhn_munkres.specs.Groups.{labels}
use Rattle.kuhn_munkres.specs.Assignment.{rows_of, named, group_in, groups, same}
use Rattle.kuhn_munkres.proofs.Rows.{rows_count}
use Rattle.kuhn_munkres.proofs.Labels.{none_some, some_same, some_in, nones_at}
use Rattle.groups.specs.Picks.{ticks}
use Rattle.groups.specs.Group.{table_of, labels_of, column_mask, row_mask, column_in, row_in, width, height, column_at, row_at, own_table, own_rows}
use Rattle.groups.specs.Solvers.{allows, Solves}
use Rattle.groups.proofs.Picking.{picked_place, picked_ticks, ticks_le, ticks_below, ticks_inj}
use Rattle.groups.proofs.Masks.{not_true}
use Rattle.groups.proofs.Group.{labelled, column_label, label_column, label_row, some_row, rows_are, table_long, table_wide, table_at}
use Rattle.groups.proofs.Once.{Good, Sound, put, put_at, In, from, group_sound, none_sound}
use Rattle.groups.proofs.Joined.{joined_all}
use Rattle.groups.proofs.Parts.{part, sum_part, Alone, Nowhere, parts_le}

-- a row's place among those that the mask names
abbrev placed : (ℕ → Bool) → Option ℕ → Option ℕ
placed m None = None
placed m (Some i) = Some (ticks m i)

placed_some : (m : ℕ → Bool) (o : Option ℕ) (x : ℕ) → placed m o ≡ Some x → (i : ℕ) × (o ≡ Some i) × (ticks m i ≡ x)
placed_some m None x e = none_some e
placed_some m (Some i) x e = (i, refl, some_same e)

module _ (costs : List Float) (n m : ℕ) (size : length costs ≡ n * m) (cost : ℕ → ℕ → Integer) (row column : Integer) where
  abbrev allowed : ℕ → ℕ → Bool
  allowed i j = finite (get_or costs (i * m + j) nan)

  abbrev pub weighs : (ℕ → Option ℕ) → ℕ → Integer
  weighs t j = weight_of cost row column j (t j)

  abbrev pub takers : List (Option ℕ) → ℕ → Option ℕ
  takers t j = get_or t j None

  -- on the columns of group g the takers t weigh no more than any others
  abbrev pub LeastOn : ℕ → List (Option ℕ) → Type 0
  LeastOn g t = (other : ℕ → Option ℕ) → Takes allowed n m other → sum (part (column_in costs n m g) (weighs (takers t))) m ≤Z sum (part (column_in costs n m g) (weighs other)) m

  abbrev pub May : List (Option ℕ) → Type 0
  May t = (j i : ℕ) → j < m → get_or t j None ≡ Some i → allowed i j ≡ true

  joined : (i j : ℕ) → i < n → j < m → allowed i j ≡ true → get_or (labels_of costs n m).of_columns j None ≡ Some (get_or (labels_of costs n m).of_rows i 0)
  joined = joined_all finite nan refl n m costs (rw size (omega arith))

  module _ (g : ℕ) where
    abbrev C : ℕ → Bool
    C = column_in costs n m g

    abbrev B : ℕ → Bool
    B = row_in costs n m g

    abbrev T : List (List Float)
    T = own_table costs n m g

    abbrev r : ℕ
    r = height costs n m g

    abbrev c : ℕ
    c = width costs n m g

    -- the costs of its own table
    abbrev own_cost : ℕ → ℕ → Integer
    own_cost x k = cost (row_at costs n m g x) (column_at costs n m g k)

    -- ---- others, cut to the group
    module _ (other : ℕ → Option ℕ) (O : Takes allowed n m other) where
      abbrev cut : ℕ → Option ℕ
      cut k = placed B (other (column_at costs n m g k))

      row_too : (j i : ℕ) → j < m → C j ≡ true → other j ≡ Some i → B i ≡ true
      row_too j i h e q =
          let l = O.row_in_lem j i h q in
          label_row costs n m size g i l (some_same (sym (joined i j l h (O.may j i h q)) ∙ column_label costs n m size g j h e))

      -- who takes the k-th column of the group, in the whole table and in its own
      record Cut (k x : ℕ) : Type 0 where
        i : ℕ
        taker : other (column_at costs n m g k) ≡ Some i
        row_in_lem : i < n
        on : B i ≡ true
        place : ticks B i ≡ x

      cut_at : (k x : ℕ) → k < c → cut k ≡ Some x → Cut k x
      cut_at k x h e =
          let p = picked_place C m k h in
          let s = placed_some B (other (column_at costs n m g k)) x e in
          record { i = s.0; taker = s.1; row_in_lem = O.row_in_lem (column_at costs n m g k) s.0 p.below s.1; on = row_too (column_at costs n m g k) s.0 p.below p.on s.1; place = s.2 }

      cut_takes : Takes (allows T) r c cut
      cut_takes = record { row_in_lem = λ k x h e. low k x (cut_at k x h e); may = λ k x h e. may k x h (cut_at k x h e); once = λ j k x h l e f. once j k x h l (cut_at j x h e) (cut_at k x l f) }
        where
          low : (k x : ℕ) → Cut k x → x < r
          low k x s = subst (λ (y : ℕ). y < r) s.place (ticks_below B s.i n s.row_in_lem s.on)

          may : (k x : ℕ) → k < c → Cut k x → allows T x k ≡ true
          may k x h s =
              let p = picked_place C m k h in
              let e : row_at costs n m g x ≡ s.i = ap (row_at costs n m g) (sym s.place) ∙ picked_ticks B s.i n s.row_in_lem s.on in
              ap finite (table_at costs n m size g x k (low k x s) h ∙ ap (λ (i : ℕ). get_or costs (i * m + column_at costs n m g k) nan) e) ∙ O.may (column_at costs n m g k) s.i p.below s.taker

          once : (j k x : ℕ) → j < c → k < c → Cut j x → Cut k x → j ≡ k
          once j k x h l s t =
              let p = picked_place C m j h in
              let q = picked_place C m k l in
              let e : s.i ≡ t.i = ticks_inj B s.i t.i s.on t.on (s.place ∙ sym t.place) in
              let f = O.once (column_at costs n m g j) (column_at costs n m g k) s.i p.below q.below s.taker (t.taker ∙ ap Some (sym e)) in
              sym p.at ∙ ap (ticks C) f ∙ q.at

      cut_weighs : (j : ℕ) → j < m → C j ≡ true → weight_of own_cost row column (ticks C j) (cut (ticks C j)) ≡ weighs other j
      cut_weighs j h e = ap (λ (k : ℕ). weight_of own_cost row column (ticks C j) (placed B (other k))) z ∙ go (other j) refl
        where
          z : column_at costs n m g (ticks C j) ≡ j
          z = picked_ticks C j m h e

          go : (o : Option ℕ) → other j ≡ o → weight_of own_cost row column (ticks C j) (placed B o) ≡ weight_of cost row column j o
          go None q = refl
          go (Some i) q = ap₂ (λ (x y : ℕ). cost x y -Z row) (picked_ticks B i n (O.row_in_lem j i h q) (row_too j i h e q)) z

    -- ---- the group's own takers
    module _ (t own : List (Option ℕ)) (S : Sound costs n m t) (long : length own ≡ c) (K : LeastTakes (allows T) own_cost row column r c (takers own)) where
      own_in : (k x : ℕ) → get_or own k None ≡ Some x → k < c
      own_in k x e = rw long at (some_in own k x e)

      own_good : Good r c own
      own_good = record { long = long; low = λ k x e. K.takes.row_in_lem k x (own_in k x e) e; inj = λ j k x e f. K.takes.once j k x (own_in j x e) (own_in k x f) e f }

      abbrev t' : List (Option ℕ)
      t' = put costs n m g t own

      at : (j : ℕ) → j < m → get_or t' j None ≡ cond (C j) (named (own_rows costs n m g) (get_or own (ticks C j) None)) (get_or t j None)
      at = put_at costs n m size g t own S own_good

      put_sound : Sound costs n m t'
      put_sound = group_sound costs n m size g t own S own_good

      put_may : May t → May t'
      put_may M j i h e = go (from costs n m size g t own S own_good j i h e)
        where
          go : In costs n m size g t own S own_good j i ⊎ ((C j ≡ false) × (get_or t j None ≡ Some i)) → allowed i j ≡ true
          go (inl p) =
              let k : ticks C j < c = ticks_below C j m h p.on in
              let x = K.takes.row_in_lem (ticks C j) p.x k p.taker in
              ap finite (ap₂ (λ (a b : ℕ). get_or costs (a * m + b) nan) (sym p.is) (sym (picked_ticks C j m h p.on)) ∙ sym (table_at costs n m size g p.x (ticks C j) x k)) ∙ K.takes.may (ticks C j) p.x k p.taker
          go (inr p) = M j i h p.1

      own_weighs : (j : ℕ) → j < m → C j ≡ true → weight_of own_cost row column (ticks C j) (get_or own (ticks C j) None) ≡ weighs (takers t') j
      unfolding named
      own_weighs j h e = go (get_or own (ticks C j) None) ∙ ap (weight_of cost row column j) (sym (at j h ∙ ap (λ (b : Bool). cond b (named (own_rows costs n m g) (get_or own (ticks C j) None)) (get_or t j None)) e))
        where
          go : (o : Option ℕ) → weight_of own_cost row column (ticks C j) o ≡ weight_of cost row column j (named (own_rows costs n m g) o)
          go None = refl
          go (Some x) = ap₂ (λ (a b : ℕ). cost a b -Z row) (ap (λ (l : List ℕ). get_or l x 0) (sym (rows_are costs n m size g))) (picked_ticks C j m h e)

      put_least : LeastOn g t'
      put_least other O =
          let a = sum_part C (weighs (takers t')) (λ k. weight_of own_cost row column k (takers own k)) m (λ j h e. rw (own_weighs j h e) (omega arith)) in
          let b = sum_part C (weighs other) (λ k. weight_of own_cost row column k (cut other O k)) m (λ j h e. rw (cut_weighs other O j h e) (omega arith)) in
          omega (arith, K.least (cut other O) (cut_takes other O))

      -- another group's columns keep their takers
      put_kept : (k : ℕ) → (k ≡ g → ⊥) → LeastOn k t → LeastOn k t'
      put_kept k d L other O =
          let a = sum_same (part (column_in costs n m k) (weighs (takers t'))) (part (column_in costs n m k) (weighs (takers t))) m (λ j h. go j h (column_in costs n m k j) refl) in
          omega (arith, L other O)
        where
          off : (j : ℕ) → j < m → column_in costs n m k j ≡ true → C j ≡ false
          off j h e = not_true (C j) (λ q. d (some_same (sym (column_label costs n m size k j h e) ∙ column_label costs n m size g j h q)))

          go : (j : ℕ) → j < m → (b : Bool) → column_in costs n m k j ≡ b → cond b (weighs (takers t') j) 0_z ≈ cond b (weighs (takers t) j) 0_z
          go j h false e = omega arith
          go j h true e = rw (at j h ∙ ap (λ (b : Bool). cond b (named (own_rows costs n m g) (get_or own (ticks C j) None)) (get_or t j None)) (off j h e)) (omega arith)

    -- a group with no column has nothing to weigh
    empty_least : (t : List (Option ℕ)) → any same (column_mask costs n m g) ≡ false → LeastOn g t
    empty_least t e other O = let a = sum_same (part C (weighs (takers t))) (part C (weighs other)) m (λ j h. rw (any_off (column_mask costs n m g) e j) (omega arith)) in omega arith

  -- ---- group after group
  module _ (hn : n ≤ 64) (hm : m ≤ 64) (dense : List (List Float) → Reply (List (Option ℕ))) (solves : Solves dense row column)
      (whole : (i j : ℕ) → i < n → j < m → allowed i j ≡ true → WholeValue (get_or costs (i * m + j) nan) (cost i j) × Within 1_000_000 (cost i j)) where
    abbrev R : List (List Float)
    R = table_of costs n m

    abbrev group_reply : ℕ → List (Option ℕ) → Reply (List (Option ℕ))
    group_reply g t = group_in dense (any same (column_mask costs n m g)) R (up_from zero R) (row_mask costs n m g) (column_mask costs n m g) t

    -- one group's own table, solved
    abbrev Solved : ℕ → Type 0
    Solved g = (own : List (Option ℕ)) × (dense (T g) ≡ given own) × (length own ≡ c g) × LeastTakes (allows (T g)) (own_cost g) row column (r g) (c g) (takers own)

    solved_own : (g : ℕ) → any same (column_mask costs n m g) ≡ true → Solved g
    solved_own g e =
        solves (T g) (r g) (c g) (own_cost g) (some_row costs n m size g e) (let b = ticks_le (B g) n in omega arith) (let b = ticks_le (C g) m in omega arith) (table_long costs n m size g) (table_wide costs n m size g)
        (λ x k h l q. entries x k h l q)
      where
        entries : (x k : ℕ) → x < r g → k < c g → allows (T g) x k ≡ true → WholeValue (get_or (get_or (T g) x []) k nan) (own_cost g x k) × Within 1_000_000 (own_cost g x k)
        entries x k h l q =
            let e = table_at costs n m size g x k h l in
            rw e (whole (row_at costs n m g x) (column_at costs n m g k) (picked_place (B g) n x h).below (picked_place (C g) m k l).below (ap finite (sym e) ∙ q))

    -- what a group's turn leaves
    record Stepped (g : ℕ) (t : List (Option ℕ)) : Type 0 where
      u : List (Option ℕ)
      is : group_reply g t ≡ given u
      sound : Sound costs n m u
      may : May u
      least : LeastOn g u
      kept : (k : ℕ) → LeastOn k t → LeastOn k u

    stepped : (g : ℕ) (t : List (Option ℕ)) → Sound costs n m t → May t → Stepped g t
    unfolding group_in
    stepped g t S M = go (any same (column_mask costs n m g)) refl
      where
        solved : any same (column_mask costs n m g) ≡ true → Solved g → Stepped g t
        solved e s = record {
          u = put costs n m g t s.0;
          is = rw (e, s.1);
          sound = put_sound g t s.0 S s.2 s.3;
          may = put_may g t s.0 S s.2 s.3 M;
          least = put_least g t s.0 S s.2 s.3;
          kept = λ k L. by k L (ℕ_discrete k g);
        }
          where
            by : (k : ℕ) → LeastOn k t → Dec (k ≡ g) → LeastOn k (put costs n m g t s.0)
            by k L (yes z) = subst (λ (x : ℕ). LeastOn x (put costs n m g t s.0)) (sym z) (put_least g t s.0 S s.2 s.3)
            by k L (no z) = put_kept g t s.0 S s.2 s.3 k z L

        go : (b : Bool) → any same (column_mask costs n m g) ≡ b → Stepped g t
        go false e = record { u = t; is = rw e; sound = S; may = M; least = empty_least g t e; kept = λ k L. L }
        go true e = solved e (solved_own g e)

    -- what the groups gs leave
    record Composed (gs : List ℕ) (t : List (Option ℕ)) : Type 0 where
      u : List (Option ℕ)
      is : groups dense R (labels_of costs n m) gs t ≡ given u
      sound : Sound costs n m u
      may : May u
      kept : (k : ℕ) → LeastOn k t → LeastOn k u
      least : (k : ℕ) → any (eqb k) gs ≡ true → LeastOn k u

    composed : (gs : List ℕ) (t : List (Option ℕ)) → Sound costs n m t → May t → Composed gs t
    unfolding groups any
    composed [] t S M = record { u = t; is = refl; sound = S; may = M; kept = λ k L. L; least = λ k e. absurd (true≢false (sym e)) }
    composed (g ∷ gs) t S M = let s = stepped g t S M in go s (composed gs s.u s.sound s.may)
      where
        go : (s : Stepped g t) → Composed gs s.u → Composed (g ∷ gs) t
        go s q = record {
          u = q.u;
          is = ap (λ (y : Reply (List (Option ℕ))). and_then y (groups dense R (labels_of costs n m) gs)) s.is ∙ q.is;
          sound = q.sound;
          may = q.may;
          kept = λ k L. q.kept k (s.kept k L);
          least = λ k e. by k e (ℕ_discrete k g);
        }
          where
            by : (k : ℕ) → cond (eqb k g) true (any (eqb k) gs) ≡ true → Dec (k ≡ g) → LeastOn k q.u
            by k e (yes z) = q.kept k (subst (λ (x : ℕ). LeastOn x s.u) (sym z) s.least)
            by k e (no z) = q.least k (rw (ne_eqb k g z) at e)

    -- ---- all groups
    abbrev Cs : ℕ → ℕ → Bool
    Cs g = column_in costs n m g

    none_off : (j : ℕ) → j < m → get_or (labels_of costs n m).of_columns j None ≡ None → (k : ℕ) → k < n → Cs k j ≡ false
    none_off j h e k l = not_true (Cs k j) (λ q. none_some (sym e ∙ column_label costs n m size k j h q))

    module _ (q : Composed (up_from zero R) (replicate m None)) where
      all_takes : Takes allowed n m (takers q.u)
      all_takes = record { row_in_lem = λ j i h e. q.sound.low j i e; may = q.may; once = λ j k i h l e f. q.sound.inj j k i e f }

      -- each column is in one group, or no row may take it
      place : (other : ℕ → Option ℕ) → Takes allowed n m other → (j : ℕ) → j < m → Alone Cs n j ⊎ (Nowhere Cs n j × (weighs (takers q.u) j ≤Z weighs other j))
      place other O j h = go (get_or (labels_of costs n m).of_columns j None) refl
        where
          untaken : (t : ℕ → Option ℕ) → ((i : ℕ) → t j ≡ Some i → get_or (labels_of costs n m).of_columns j None ≡ Some (get_or (labels_of costs n m).of_rows i 0)) → get_or (labels_of costs n m).of_columns j None ≡ None → (o : Option ℕ) → t j ≡ o → t j ≡ None
          untaken t f e None z = z
          untaken t f e (Some i) z = none_some (sym e ∙ f i z)

          go : (o : Option ℕ) → get_or (labels_of costs n m).of_columns j None ≡ o → Alone Cs n j ⊎ (Nowhere Cs n j × (weighs (takers q.u) j ≤Z weighs other j))
          go (Some g) e = inl (g, (labelled costs n m size).col_low j g e, label_column costs n m size g j h e, λ k l d. not_true (Cs k j) (λ z. d (some_same (sym (column_label costs n m size k j h z) ∙ e))))
          go None e =
              let a = untaken (takers q.u) (λ i z. q.sound.own j i z) e (get_or q.u j None) refl in
              let b = untaken other (λ i z. joined i j (O.row_in_lem j i h z) h (O.may j i h z)) e (other j) refl in
              inr (none_off j h e, rw (a, b) (omega arith))

      all_least : LeastTakes allowed cost row column n m (takers q.u)
      all_least = record { takes = all_takes; least = λ other O. parts_le Cs n (weighs (takers q.u)) (weighs other) m (place other O) (λ g h. q.least g (any_up zero R g (omega arith) (rw (rows_count n m costs) (omega arith))) other O) }

-- the groups of a table of whole costs, each solved right: all takers together have the least weight
pub groups_least : (costs : List Float) (n m : ℕ) → n ≤ 64 → m ≤ 64 → length costs ≡ n * m → (dense : List (List Float) → Reply (List (Option ℕ))) (cost : ℕ → ℕ → Integer) (row column : Integer) → Solves dense row column
    → ((i j : ℕ) → i < n → j < m → finite (get_or costs (i * m + j) nan) ≡ true → WholeValue (get_or costs (i * m + j) nan) (cost i j) × Within 1_000_000 (cost i j))
    → (t : List (Option ℕ)) × (groups dense (rows_of n m costs) (labels finite (rows_of n m costs) m) (up_from zero (rows_of n m costs)) (replicate m None) ≡ given t) × (length t ≡ m)
    × LeastTakes (λ i j. finite (get_or costs (i * m + j) nan)) cost row column n m (λ j. get_or t j None)
groups_least costs n m hn hm size dense cost row column solves whole =
    let q = composed costs n m size cost row column hn hm dense solves whole (up_from zero (rows_of n m costs)) (replicate m None) (none_sound costs n m) (λ j i h e. none_some (sym (nones_at m j) ∙ e)) in
    (q.u, q.is, q.sound.long, all_least costs n m size cost row column hn hm dense solves whole q)
