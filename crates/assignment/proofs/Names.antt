-- The last row of each tree, and the names that rows and columns take from it.
use Rattle.std.specs.Prelude.{None, Option, Some}
use mathlib.Core.Path.{◌≡◌, refl, sym, ap, ◌∙◌}
use mathlib.Core.Bool.{Bool, cond}
use mathlib.Core.List.{List, map}
use Prim.Native.Nat.{ℕ, zero, suc, ◌+◌, ◌-◌, ◌*◌, ◌≤◌, ◌<◌}
use native.Mathlib.Decide.{ℕ_discrete, dec_lt}
use native.Mathlib.Omega.{arith}
use borrow.Author.Tests.{lt-ltb, le-ltb}
use lib.ListN.{get_or, set, length, take, replicate, length-set, length-map, get_or-replicate}
use lib.Seq.{get_or-set_same, get_or-set_other, get_or-take, ext_get_or, length-take-le}
use lib.Ieee.{Float, nan}
use lib.Ieee.Scale.{finite}
use Rattle.kuhn_munkres.specs.Groups.{Labels, labels}
use Rattle.kuhn_munkres.specs.Assignment.{rows_of}
use Rattle.kuhn_munkres.proofs.Labels.{Named, named_all, map_at}
use Rattle.assignment.specs.Forest.{Labelled, Ranked, Found}
use Rattle.assignment.specs.Labelling.{or_item, item_label, LastRows, Passed, AtRoot, ReadOff, row_or, NamedBy}
use Rattle.assignment.proofs.Items.{item_row, item_col}

pub last_none : (label : ℕ → ℕ) (par : List ℕ) → LastRows label 0 par (replicate 128 64)
last_none label par =
    record {
      long = refl;
      least = λ r k h e l q. absurd (under k l);
      from = λ r h e l. absurd (full r h l);
      most = λ r. at r (dec_lt r 128);
    }
  where
    under : (k : ℕ) → k < 0 → ⊥
    under k l = omega arith

    is : (r : ℕ) → r < 128 → ◌≡◌ {A = ℕ} (get_or (replicate 128 64) r 0) 64
    is r h = get_or-replicate 128 r 64 0 h

    full : (r : ℕ) → r < 128 → get_or (replicate 128 64) r 0 < 64 → ⊥
    full r h l = omega (arith, is r h)

    small : (n x r : ℕ) → x ≤ 64 → get_or (replicate n x) r 0 ≤ 64
    small zero x r h = omega arith
    small (suc n) x zero h = h
    small (suc n) x (suc r) h = small n x r h

    at : (r : ℕ) → Dec (r < 128) → get_or (replicate 128 64) r 0 ≤ 64
    at r d = small 128 64 r (omega arith)

-- row i stored at its root
module _ (label : ℕ → ℕ) (i : ℕ) (par rank par' last : List ℕ) (r : ℕ) (hi : i < 64) (L : Labelled label par) (f : Found par rank par' i r) (t : LastRows label i par last) where
  K : Labelled label par'
  K = (f.kept label L).0

  is_i : label r ≡ label i
  is_i = (f.kept label L).1

  same : get_or (set last r i) r 0 ≡ i
  same = get_or-set_same last r i 0 (rw t.long f.inside)

  pub last_next : LastRows label (i + 1) par' (set last r i)
  last_next = record {
    long = length-set last r i ∙ t.long;
    least = λ q k h e l w. least q k h e l w (ℕ_discrete q r);
    from = λ q h e l. from q h e l (ℕ_discrete q r);
    most = λ q. most q (ℕ_discrete q r);
  }
    where
      least : (q k : ℕ) → q < 128 → get_or par' q 0 ≡ q → k < i + 1 → label k ≡ label q → Dec (q ≡ r) → (k ≤ get_or (set last r i) q 0) × (get_or (set last r i) q 0 < i + 1)
      least q k h e l w (yes z) = rw (z, same) (omega arith, omega arith)
      least q k h e l w (no z) = let d = get_or-set_other last r q i 0 z in old (ℕ_discrete k i)
        where
          old : Dec (k ≡ i) → (k ≤ get_or (set last r i) q 0) × (get_or (set last r i) q 0 < i + 1)
          old (yes y) = absurd (z (K.one q r h f.inside e f.root (sym w ∙ ap label y ∙ sym is_i)))
          old (no y) = let p = t.least q k h (f.roots q h e) (omega arith) w in rw (get_or-set_other last r q i 0 z) (p.0, let b = p.1 in omega arith)

      from : (q : ℕ) → q < 128 → get_or par' q 0 ≡ q → get_or (set last r i) q 0 < 64 → Dec (q ≡ r) → (get_or (set last r i) q 0 < i + 1) × (label (get_or (set last r i) q 0) ≡ label q)
      from q h e l (yes z) = rw (z, same) (omega arith, sym is_i)
      from q h e l (no z) = let d = get_or-set_other last r q i 0 z in let p = t.from q h (f.roots q h e) (rw d at l) in rw d (let b = p.0 in omega arith, p.1)

      most : (q : ℕ) → Dec (q ≡ r) → get_or (set last r i) q 0 ≤ 64
      most q (yes z) = rw (z, same) (omega arith)
      most q (no z) = rw (get_or-set_other last r q i 0 z) (t.most q)

-- the last rows at roots that were roots before
pub last_roots : (label : ℕ → ℕ) (i : ℕ) (par par' last : List ℕ) → ((y : ℕ) → y < 128 → get_or par' y 0 ≡ y → get_or par y 0 ≡ y) → LastRows label i par last → LastRows label i par' last
last_roots label i par par' last f t = record { long = t.long; least = λ q k h e l w. t.least q k h (f q h e) l w; from = λ q h e l. t.from q h (f q h e) l; most = t.most }

found_ranked : (par rank par' : List ℕ) (x r : ℕ) → Ranked par rank → Found par rank par' x r → Ranked par' rank
found_ranked par rank par' x r R f = record { k = R.k; forest = f.forest R.k R.forest; room = R.room }

pub passed_none : (par rank : List ℕ) → Ranked par rank → Passed 0 par rank par (replicate 128 64)
passed_none par rank R = record { ranked = R; kept = λ label L. (L, last_none label par) }

pub passed_next : (i : ℕ) (par₀ rank par par' last : List ℕ) (r : ℕ) → i < 64 → Passed i par₀ rank par last → Found par rank par' i r → Passed (i + 1) par₀ rank par' (set last r i)
passed_next i par₀ rank par par' last r h p f =
    record { ranked = found_ranked par rank par' i r p.ranked f; kept = λ label L. let q = p.kept label L in ((f.kept label q.0).0, last_next label i par rank par' last r h q.0 f q.1) }

pub read_none : (base : ℕ) (par rank last : List ℕ) → Ranked par rank → ReadOff base 0 par rank last par (replicate 64 0)
read_none base par rank last R = record { ranked = R; long = refl; roots = λ y h e. e; kept = λ label L. L; at = λ label L x h. absurd (under x h) }
  where
    under : (x : ℕ) → x < 0 → ⊥
    under x h = omega arith

pub read_next : (base i : ℕ) (par₀ rank last par par' names : List ℕ) (r : ℕ) → i < 64 → ReadOff base i par₀ rank last par names → Found par rank par' (base + i) r → ReadOff base (i + 1) par₀ rank last par' (set names i (get_or last r 0))
read_next base i par₀ rank last par par' names r h p f =
    record {
      ranked = found_ranked par rank par' (base + i) r p.ranked f;
      long = length-set names i (get_or last r 0) ∙ p.long;
      roots = λ y l e. p.roots y l (f.roots y l e);
      kept = λ label L. (f.kept label (p.kept label L)).0;
      at = λ label L x l. by label L x l (ℕ_discrete x i);
    }
  where
    by : (label : ℕ → ℕ) → Labelled label par₀ → (x : ℕ) → x < i + 1 → Dec (x ≡ i) → AtRoot last par₀ label (base + x) (get_or (set names i (get_or last r 0)) x 0)
    by label L x l (yes e) =
        record {
          r = r;
          inside = f.inside;
          root = p.roots r f.inside (f.roots r f.inside f.root);
          same = (f.kept label (p.kept label L)).1 ∙ ap (λ (k : ℕ). label (base + k)) (sym e);
          is = rw e (get_or-set_same names i (get_or last r 0) 0 (rw p.long h));
        }
    by label L x l (no n) = let q = p.at label L x (omega arith) in record { r = q.r; inside = q.inside; root = q.root; same = q.same; is = get_or-set_other names i x (get_or last r 0) 0 n ∙ q.is }

-- ---- what stands at the root of x's tree is the name of x's group
module _ (costs : List Float) (n m : ℕ) (hn : n ≤ 64) (size : length costs ≡ n * m) where
  abbrev s : Labels
  s = labels finite (rows_of n m costs) m

  abbrev Λ : ℕ → ℕ
  Λ x = item_label n s x

  N : Named finite nan refl n m s
  N = named_all finite nan refl n m costs (rw size (omega arith))

  row_label : (x : ℕ) → x < n → Λ x ≡ get_or s.of_rows x 0
  row_label x h = item_row n s x (rw N.rows_long h)

  col_label : (j : ℕ) → Λ (n + j) ≡ or_item (n + j) (get_or s.of_columns j None)
  col_label j = let e : n + j - n ≡ j = omega arith in item_col n s (n + j) (rw N.rows_long (omega arith)) (omega arith) ∙ ap (λ (k : ℕ). or_item (n + j) (get_or s.of_columns k None)) e

  module _ (par last : List ℕ) (r : ℕ) (hr : r < 128) (root : get_or par r 0 ≡ r) (t : LastRows Λ n par last) where
    -- where the group has a row l that bears its own name
    named : (l : ℕ) → l < n → get_or s.of_rows l 0 ≡ l → Λ r ≡ l → get_or last r 0 ≡ l
    named l h e w =
        let p = t.least r l hr root h (row_label l h ∙ e ∙ sym w) in
        let q = t.from r hr root (let b = p.1 in omega arith) in
        let u : get_or last r 0 ≤ l = omega (arith, N.row_up (get_or last r 0) q.0, sym (row_label (get_or last r 0) q.0) ∙ q.1 ∙ w) in
        let v = p.0 in
        omega arith

    pub name_row : (x : ℕ) → x < n → Λ r ≡ Λ x → get_or last r 0 ≡ get_or s.of_rows x 0
    name_row x h e = named (get_or s.of_rows x 0) (N.row_low x h) (N.row_own x h) (e ∙ row_label x h)

    pub name_col : (j : ℕ) → Λ r ≡ Λ (n + j) → row_or (get_or last r 0) ≡ get_or s.of_columns j None
    name_col j e = go (get_or s.of_columns j None) refl
      where
        above : get_or s.of_columns j None ≡ None → get_or last r 0 < 64 → ⊥
        above q l = let p = t.from r hr root l in omega (arith, N.row_low (get_or last r 0) p.0, p.0, sym (row_label (get_or last r 0) p.0) ∙ p.1 ∙ e ∙ col_label j ∙ ap (or_item (n + j)) q)

        go : (o : Option ℕ) → get_or s.of_columns j None ≡ o → row_or (get_or last r 0) ≡ get_or s.of_columns j None
        go None q = rw q (ap (λ (b : Bool). cond b (Some (get_or last r 0)) None) (le-ltb (get_or last r 0) 64 (out (dec_lt (get_or last r 0) 64))))
          where
            out : Dec (get_or last r 0 < 64) → 64 ≤ get_or last r 0
            out (yes l) = absurd (above q l)
            out (no l) = omega arith
        go (Some l) q =
            let z : get_or last r 0 ≡ l = named l (N.col_low j l q) (N.col_own j l q) (e ∙ col_label j ∙ ap (or_item (n + j)) q) in
            ap row_or z ∙ ap (λ (b : Bool). cond b (Some l) None) (lt-ltb l 64 (let b = N.col_low j l q in omega arith)) ∙ sym q

  -- ---- the whole lists
  pub all_rows : (names : List ℕ) → length names ≡ 64 → ((x : ℕ) → x < n → get_or names x 0 ≡ get_or s.of_rows x 0) → take n names ≡ s.of_rows
  all_rows names l h =
      let e : length (take n names) ≡ n = length-take-le n names (rw l hn) in
      ext_get_or 0 (take n names) s.of_rows (e ∙ sym N.rows_long) (λ i q. let b : i < n = rw e at q in get_or-take n names i 0 b ∙ h i b)

  pub all_cols : (names : List ℕ) → length names ≡ 64 → m ≤ 64 → ((j : ℕ) → j < m → row_or (get_or names j 0) ≡ get_or s.of_columns j None) → map row_or (take m names) ≡ s.of_columns
  all_cols names l hm h =
      let e : length (take m names) ≡ m = length-take-le m names (rw l hm) in
      ext_get_or None (map row_or (take m names)) s.of_columns (length-map (take m names) row_or ∙ e ∙ sym N.cols_long)
      (λ i q. let b : i < m = rw (length-map (take m names) row_or, e) at q in map_at row_or (take m names) i 0 None (rw e b) ∙ ap row_or (get_or-take m names i 0 b) ∙ h i b)

  -- the names as they are read off
  pub names_are : (par par1 rank last par2 rowNames par3 colNames : List ℕ) → m ≤ 64 → Labelled Λ par → Passed n par rank par1 last → ReadOff 0 n par1 rank last par2 rowNames → ReadOff n m par2 rank last par3 colNames → NamedBy s n m rowNames colNames
  names_are par par1 rank last par2 rowNames par3 colNames hm L p a b =
      let q = p.kept Λ L in
      let t = last_roots Λ n par1 par2 last a.roots q.1 in
      let K = a.kept Λ q.0 in
      record {
        of_rows_lem = all_rows rowNames a.long (λ x h. let w = a.at Λ q.0 x h in let z : 0 + x ≡ x = omega arith in w.is ∙ name_row par1 last w.r w.inside w.root q.1 x h (w.same ∙ ap Λ z));
        of_columns_lem = all_cols colNames b.long hm (λ j h. let w = b.at Λ K j h in ap row_or w.is ∙ name_col par2 last w.r w.inside w.root t j w.same);
      }
