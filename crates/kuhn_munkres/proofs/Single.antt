-- The run on the square of one row and one column: it pairs them, unless the row's own cost is less. First for any numbers, from what the comparisons of the searches say; then for those of binary64. Assumes nothing.
use mathlib.Core.Path.{◌≡◌, refl, sym, ap, ap₂, ◌∙◌, subst}
use mathlib.Core.Bool.{Bool, true, false, ◌&&◌, cond}
use mathlib.Core.List.{List, ◌∷◌}
use Prim.Native.Nat.{ℕ, zero, suc, ◌+◌, ◌*◌}
use native.Mathlib.Nat.{zero-mul}
use native.Mathlib.Omega.{arith}
use borrow.Author.Tests.{eqb-true, ltb-false}
use lib.Dec.{T, eqb, ltb}
use lib.IntN.{ℤ}
use lib.ListN.{get_or, set, replicate}
use lib.Ieee.{Float, nan, inf, fin, binary64, up, down, round, sum, add, sub, neg, lt, eq, fits, of_bits}
use lib.Ieee.Fits.{sub-fits}
use lib.Ieee.Scale.{finite}
use Rattle.number.proofs.Zeros.{impossible, both, some}
use Rattle.number.proofs.Held.{zero_of, zero_exponent, zeros_add, zero_of_add}
use Rattle.number.proofs.Differences.{less_zero, plus_not_below, sub_not_below, zero_of_lem}
use Rattle.number.proofs.Finite.{add_finite}
use Rattle.kuhn_munkres.specs.Ops.{Ops}
use Rattle.kuhn_munkres.specs.Steps.{State, Search, found, relax, scan, shift_at, shift, mark, look, go_on, step, turned, search, back, start, with_p, settle, fresh, enter, leave, rows, size}
use Rattle.kuhn_munkres.specs.Square.{Square, entry}
use Rattle.kuhn_munkres.specs.Binary64.{float}
use Rattle.kuhn_munkres.specs.Single.{is_single, single_rows}

module _ {N : Type 0} (O : Ops N) where
  -- ---- a column that is taken up, one that is not, and a turn

  abbrev taken : ℕ → N → Bool → State N → State N
  taken j cur x s = record { u = s.u; v = s.v; minv = set s.minv j cur; p = s.p; way = set s.way j s.j0; used = s.used; j0 = s.j0; delta = cond x cur s.delta; j1 = cond x j s.j1 }

  relax_takes : (j : ℕ) (cur : N) (s : State N) (x : Bool) → O.lt cur (get_or s.minv j O.out) ≡ true → O.lt cur s.delta ≡ x → relax O j cur s ≡ taken j cur x s
  unfolding relax
  relax_takes j cur s x e f = rw (e, f)

  relax_keeps : (j : ℕ) (cur : N) (s : State N) → O.lt cur (get_or s.minv j O.out) ≡ false → O.lt (get_or s.minv j O.out) s.delta ≡ true
      → relax O j cur s ≡ record { u = s.u; v = s.v; minv = s.minv; p = s.p; way = s.way; used = s.used; j0 = s.j0; delta = get_or s.minv j O.out; j1 = j }
  unfolding relax
  relax_keeps j cur s e f = rw (e, f)

  search_next : (a : ℕ → ℕ → N) (n k : ℕ) (s t : State N) (free : Bool) → look O a n s ≡ t → O.finite t.delta ≡ true → eqb (get_or (step O n t).p (step O n t).j0 0) 0 ≡ free
      → search O a n (suc k) s ≡ turned O true free (step O n t) (search O a n k (step O n t))
  unfolding search
  search_next a n k s t free e f g =
      ap (λ (t : State N). turned O (O.finite t.delta) (eqb (get_or (step O n t).p (step O n t).j0 0) 0) (step O n t) (search O a n k (step O n t))) e
      ∙ ap₂ (λ (x y : Bool). turned O x y (step O n t) (search O a n k (step O n t))) f g

  module _ (a : ℕ → ℕ → N) where
    -- the cost of row i and column j as the first turn of a search has it
    abbrev own : ℕ → ℕ → N
    own i j = O.sub (O.sub (a i j) O.zer) O.zer

    -- what the comparisons say while both rows are put in
    pub record Facts (less : Bool) : Type 0 where
      pub pair_low : O.lt (own 1 1) O.top ≡ true
      pub row_low : O.lt (own 1 2) O.top ≡ true
      pub row_less : O.lt (own 1 2) (own 1 1) ≡ less
      pub step_fine : O.finite (cond less (own 1 2) (own 1 1)) ≡ true
      pub column_low : O.lt (own 2 1) O.top ≡ true
      pub dummy_low : O.lt (own 2 2) O.top ≡ true
      pub column_first : O.lt (own 2 2) (own 2 1) ≡ false
      pub column_fine : O.finite (own 2 1) ≡ true

    module _ (less : Bool) (F : Facts less) where
      -- the first search: both columns are seen, one is reached
      first : State N
      first =
          record {
            u = replicate size O.zer;
            v = replicate size O.zer;
            minv = set (set (replicate size O.top) 1 (own 1 1)) 2 (own 1 2);
            p = set (replicate size 0) 0 1;
            way = replicate size 0;
            used = set (replicate size false) 0 true;
            j0 = 0;
            delta = cond less (own 1 2) (own 1 1);
            j1 = cond less 2 1;
          }

      first_look : look O a 2 (start O 1 (fresh O)) ≡ first
      unfolding first look scan mark start fresh
      first_look = ap (relax O 2 (own 1 2)) (relax_takes 1 (own 1 1) (mark O (start O 1 (fresh O))) true F.pair_low F.pair_low) ∙ relax_takes 2 (own 1 2) (taken 1 (own 1 1) true (mark O (start O 1 (fresh O)))) less F.row_low F.row_less

      -- row 1 put in
      seen : State N
      seen = with_p O (step O 2 first) (1 ∷ cond less 0 1 ∷ cond less 1 0 ∷ replicate 126 0)

      first_row : rows O a 2 1 ≡ found seen
      unfolding rows enter leave settle back step shift shift_at go_on first seen
      first_row = ap (leave O 2) (search_next a 2 2 (start O 1 (fresh O)) first true first_look F.step_fine (free less)) ∙ ap (λ (p : List ℕ). found (with_p O (step O 2 first) p)) (settled less)
        where
          free : (x : Bool) → eqb (get_or (set (replicate size 0) 0 1) (cond x 2 1) 0) 0 ≡ true
          free true = refl
          free false = refl

          settled : (x : Bool) → back O 3 (replicate size 0) (set (replicate size 0) 0 1) (cond x 2 1) ≡ 1 ∷ cond x 0 1 ∷ cond x 1 0 ∷ replicate 126 0
          settled true = refl
          settled false = refl

      -- the second search goes to the column first
      second : State N
      second =
          record {
            u = (step O 2 first).u;
            v = (step O 2 first).v;
            minv = set (set (replicate size O.top) 1 (own 2 1)) 2 (own 2 2);
            p = 2 ∷ cond less 0 1 ∷ cond less 1 0 ∷ replicate 126 0;
            way = replicate size 0;
            used = set (replicate size false) 0 true;
            j0 = 0;
            delta = own 2 1;
            j1 = 1;
          }

      second_look : look O a 2 (start O 2 seen) ≡ second
      unfolding second look scan mark start seen step shift shift_at go_on first
      second_look = ap (relax O 2 (own 2 2)) (relax_takes 1 (own 2 1) (mark O (start O 2 seen)) true F.column_low F.column_low) ∙ relax_takes 2 (own 2 2) (taken 1 (own 2 1) true (mark O (start O 2 seen))) false F.dummy_low F.column_first

      second_turn : search O a 2 3 (start O 2 seen) ≡ turned O true less (step O 2 second) (search O a 2 2 (step O 2 second))
      unfolding step shift shift_at go_on second
      second_turn = search_next a 2 2 (start O 2 seen) second less second_look F.column_fine (free less)
        where
          free : (x : Bool) → eqb (cond x 0 1) 0 ≡ x
          free true = refl
          free false = refl

      -- both rows put in, where the second search is done
      both_rows : (s : State N) → search O a 2 3 (start O 2 seen) ≡ found s → rows O a 2 2 ≡ found (settle O 2 s)
      unfolding rows enter leave
      both_rows s e = ap (λ (x : Search N). leave O 2 (enter O a 2 2 x)) first_row ∙ ap (leave O 2) e

    -- what the run ends with
    pub record Single (less : Bool) : Type 0 where
      pub end : State N
      pub is : rows O a 2 2 ≡ found end
      pub rows_are : end.p ≡ single_rows less

    -- the row's own cost is less: the column is free
    pub apart : Facts true → Single true
    unfolding settle step shift shift_at go_on second first back
    apart F = record { end = settle O 2 (step O 2 (second true F)); is = both_rows true F (step O 2 (second true F)) (second_turn true F); rows_are = refl }

    -- the row holds the column: the search goes on from there to the dummy
    abbrev left : N
    left = O.sub (own 2 2) (own 2 1)

    abbrev over : N
    over = O.sub (O.sub (a 1 2) (O.add O.zer (own 1 1))) O.zer

    module _ (F : Facts false) where
      third : State N
      third = record {
        u = (step O 2 (second false F)).u;
        v = (step O 2 (second false F)).v;
        minv = (step O 2 (second false F)).minv;
        p = 2 ∷ 1 ∷ 0 ∷ replicate 126 0;
        way = replicate size 0;
        used = set (set (replicate size false) 0 true) 1 true;
        j0 = 1;
        delta = left;
        j1 = 2;
      }

      module _ (stays : O.lt over left ≡ false) (low : O.lt left O.top ≡ true) (fine : O.finite left ≡ true) where
        third_look : look O a 2 (step O 2 (second false F)) ≡ third
        unfolding third look scan mark step shift shift_at go_on second first
        third_look = relax_keeps 2 over (mark O (step O 2 (second false F))) stays low

        pub paired : Single false
        unfolding settle step shift shift_at go_on third second first back
        paired = record {
          end = settle O 2 (step O 2 third);
          is = both_rows false F (step O 2 third) (second_turn false F ∙ search_next a 2 1 (step O 2 (second false F)) third true third_look fine refl);
          rows_are = refl;
        }

-- ---- binary64

less_zeros : (x : Float) → T (fits binary64 x) → sub binary64 (sub binary64 x (zero_of false)) (zero_of false) ≡ x
less_zeros x p = ap (λ (y : Float). sub binary64 y (zero_of false)) (less_zero x p) ∙ less_zero x p

below_top : (x : Float) → finite x ≡ true → lt x (inf false) ≡ true
unfolding lt
below_top nan f = impossible f
below_top (inf s) f = impossible f
below_top (fin s m e) f = refl

-- no less than a zero, whatever its sign
no_less_than_zero : (x : Float) (s : Bool) → finite x ≡ true → lt x (zero_of s) ≡ false → lt x (zero_of false) ≡ false
unfolding lt
no_less_than_zero nan s f n = impossible f
no_less_than_zero (inf t) s f n = impossible f
no_less_than_zero (fin false m e) s f n = plus_not_below (fin false m e) refl
no_less_than_zero (fin true m e) false f n = n
no_less_than_zero (fin true zero e) true f n = ap (λ (x : ℕ). ltb 0 (x * 1 + 0 * down e)) (zero-mul (up e)) ∙ ap (λ (x : ℕ). ltb 0 (0 * 1 + x)) (zero-mul (down e))
no_less_than_zero (fin true (suc m) e) true f n = let l = ltb-false (0 * down e) (suc m * up e * 1) n in absurd (omega (arith, l, zero-mul (down e), some m e))

-- what a row's own cost leaves over the pair's, as the second search has it
over_not_below : (r c : Float) → T (fits binary64 c) → finite r ≡ true → finite c ≡ true → lt r c ≡ false → lt (sub binary64 (sub binary64 r (add binary64 (zero_of false) c)) (zero_of false)) (zero_of false) ≡ false
over_not_below r c p f g n =
    ap (λ (x : Float). lt x (zero_of false)) (less_zero (sub binary64 r (add binary64 (zero_of false) c)) (sub-fits binary64 r (add binary64 (zero_of false) c))) ∙ plain c p g n
  where
    plain : (c : Float) → T (fits binary64 c) → finite c ≡ true → lt r c ≡ false → lt (sub binary64 r (add binary64 (zero_of false) c)) (zero_of false) ≡ false
    plain nan p g n = impossible g
    plain (inf s) p g n = impossible g
    plain (fin s (suc m) e) p g n = ap (λ (x : Float). lt (sub binary64 r x) (zero_of false)) (zero_of_add s false m e p) ∙ sub_not_below r (fin s (suc m) e) f refl n
    plain (fin s zero e) p g n =
        let q = zero_exponent binary64 s e p in
        ap (λ (x : ℤ). lt (sub binary64 r (add binary64 (zero_of false) (fin s zero x))) (zero_of false)) q
        ∙ ap (λ (x : Float). lt (sub binary64 r x) (zero_of false)) (zeros_add false s)
        ∙ sub_not_below r (zero_of false) f refl (no_less_than_zero r s f (ap (λ (x : ℤ). lt r (fin s zero x)) (sym q) ∙ n))

-- ---- the square of one row and one column

module _ (costs : List Float) (far row col c : Float) (here : get_or costs 0 nan ≡ c) (fitc : T (fits binary64 c)) (fitr : T (fits binary64 row)) (finec : finite c ≡ true) (finer : finite row ≡ true) (s : Bool) (nothing : col ≡ zero_of s) where
  abbrev square_with : ℕ → ℕ → Square Float
  square_with n m = record { costs = costs; rows = n; cols = m; far = far; row = row; col = col }

  abbrev a : ℕ → ℕ → Float
  a = entry float (square_with 1 1)

  pair_cost : own float a 1 1 ≡ c
  unfolding entry
  pair_cost = ap (λ (x : Float). sub binary64 (sub binary64 (cond (finite x) x far) (zero_of false)) (zero_of false)) here ∙ ap (λ (b : Bool). sub binary64 (sub binary64 (cond b c far) (zero_of false)) (zero_of false)) finec ∙ less_zeros c fitc

  row_cost : own float a 1 2 ≡ row
  unfolding entry
  row_cost = less_zeros row fitr

  column_cost : own float a 2 1 ≡ zero_of s
  unfolding entry fits
  column_cost = ap (λ (x : Float). sub binary64 (sub binary64 x (zero_of false)) (zero_of false)) nothing ∙ at s
    where
      at : (s : Bool) → sub binary64 (sub binary64 (zero_of s) (zero_of false)) (zero_of false) ≡ zero_of s
      at true = less_zeros (zero_of true) tt
      at false = less_zeros (zero_of false) tt

  dummy_cost : own float a 2 2 ≡ zero_of false
  unfolding entry fits
  dummy_cost = less_zeros (zero_of false) tt

  facts : Facts float a (lt row c)
  unfolding lt
  facts = record {
    pair_low = ap (λ (x : Float). lt x (inf false)) pair_cost ∙ below_top c finec;
    row_low = ap (λ (x : Float). lt x (inf false)) row_cost ∙ below_top row finer;
    row_less = ap₂ lt row_cost pair_cost;
    step_fine = (λ i. finite (cond (lt row c) (row_cost i) (pair_cost i))) ∙ fine (lt row c);
    column_low = ap (λ (x : Float). lt x (inf false)) column_cost;
    dummy_low = ap (λ (x : Float). lt x (inf false)) dummy_cost;
    column_first = ap₂ lt dummy_cost column_cost ∙ level s;
    column_fine = ap finite column_cost;
  }
    where
      fine : (x : Bool) → finite (cond x row c) ≡ true
      fine true = finer
      fine false = finec

      level : (s : Bool) → lt (zero_of false) (zero_of s) ≡ false
      level true = refl
      level false = refl

  left_zero : left float a ≡ zero_of false
  unfolding sub neg add sum round
  left_zero = ap₂ (sub binary64) dummy_cost column_cost ∙ at s
    where
      at : (s : Bool) → sub binary64 (zero_of false) (zero_of s) ≡ zero_of false
      at true = zeros_add false false
      at false = zeros_add false true

  run : Single float a (lt row c)
  unfolding lt entry
  run = go (lt row c) refl
    where
      go : (x : Bool) → lt row c ≡ x → Single float a x
      go true e = apart float a (subst (Facts float a) e facts)
      go false e =
          paired float a (subst (Facts float a) e facts)
          (ap₂ lt (ap (λ (x : Float). sub binary64 (sub binary64 row (add binary64 (zero_of false) x)) (zero_of false)) pair_cost) left_zero ∙ over_not_below row c fitc finer finec e)
          (ap (λ (x : Float). lt x (inf false)) left_zero) (ap finite left_zero)

-- the run is told by the comparison
pub single_sizes : (c : Float) (n m : ℕ) (row col : Float) → is_single c n m row col ≡ true → (n ≡ 1) × (m ≡ 1)
single_sizes c n m row col h =
    let zeros = (both (eqb n 1 && eqb m 1 && eq col (of_bits binary64 0)) (finite (add binary64 c row)) h).0 in
    let sizes = both (eqb n 1) (eqb m 1) (both (eqb n 1 && eqb m 1) (eq col (of_bits binary64 0)) zeros).0 in
    (eqb-true n 1 sizes.0, eqb-true m 1 sizes.1)

pub single_run : (costs : List Float) (n m : ℕ) (far row col c : Float) → get_or costs 0 nan ≡ c → T (fits binary64 c) → T (fits binary64 row) → T (fits binary64 col) → is_single c n m row col ≡ true
    → (s : State Float) × (rows float (entry float (record { costs = costs; rows = n; cols = m; far = far; row = row; col = col })) (n + m) (n + m) ≡ found s) × (s.p ≡ single_rows (lt row c))
single_run costs n m far row col c here fitc fitr fitl h =
    let told = both (eqb n 1 && eqb m 1 && eq col (of_bits binary64 0)) (finite (add binary64 c row)) h in
    let sizes = single_sizes c n m row col h in
    let fine = add_finite c row told.1 in
    let nothing = zero_of_lem col fitl (both (eqb n 1 && eqb m 1) (eq col (of_bits binary64 0)) told.0).1 in
    let x = run costs far row col c here fitc fitr fine.0 fine.1 nothing.0 nothing.1 in
    subst (λ (n : ℕ). Told n m) (sym sizes.0) (subst (λ (m : ℕ). Told 1 m) (sym sizes.1) (x.end, x.is, x.rows_are))
  where
    Told : ℕ → ℕ → Type 0
    Told n m = (s : State Float) × (rows float (entry float (record { costs = costs; rows = n; cols = m; far = far; row = row; col = col })) (n + m) (n + m) ≡ found s) × (s.p ≡ single_rows (lt row c))
