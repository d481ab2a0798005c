-- The answer of the assignment has the least total on whole costs: each group's square, padding, groups and lists of pairs put together.
use Rattle.std.specs.Prelude.{None, Option}
use mathlib.Core.Path.{◌≡◌, refl, sym, ap, ◌∙◌, subst}
use mathlib.Core.Bool.{Bool, true, false, cond, true≢false}
use mathlib.Core.List.{List, []}
use Prim.Native.Nat.{ℕ, zero, ◌+◌, ◌*◌, ◌≤◌, ◌<◌}
use native.Mathlib.Decide.{dec_lt}
use native.Mathlib.Omega.{arith}
use borrow.Author.Tests.{le-leb, ltb-true, eq-eqb}
use lib.Dec.{eqb, ltb}
use lib.ListN.{get_or, length, take, drop, replicate, get_or-eq_default}
use lib.Seq.{get_or-take, get_or-drop}
use lib.Ieee.{Float, nan}
use lib.Ieee.Scale.{finite}
use Rattle.number.specs.Float.{larger_of}
use Rattle.number.specs.Reply.{given}
use Rattle.whole.specs.Integer.{Integer, natural, ◌≤Z◌, Within}
use Rattle.whole.specs.Whole.{WholeValue}
use Rattle.whole.specs.Takers.{LeastTakes}
use Rattle.whole.proofs.Values.{whole_finite}
use Rattle.kuhn_munkres.specs.Binary64.{float}
use Rattle.kuhn_munkres.specs.Square.{Square, entry}
use Rattle.lists.specs.Masks.{up_from}
use Rattle.kuhn_munkres.specs.Groups.{labels}
use Rattle.kuhn_munkres.specs.Assignment.{rows_of, solved, square_of, largest_of, sentinel_of, groups, pairing, takers_reply, pairs_of, assignment_reply}
use Rattle.kuhn_munkres.proofs.Rows.{rows_count, rows_at}
use Rattle.potentials.specs.Square.{largest, WholeSquare}
use Rattle.potentials.proofs.Square.{square_least}
use Rattle.groups.specs.Solvers.{Solves}
use Rattle.groups.proofs.Composed.{groups_least}
use Rattle.least.specs.Least.{cost_at, allowed_in, WholeCosts, LeastTotal, LeastOnWholes}
use Rattle.least.proofs.Sentinel.{Ranged, larger_ranged, largest_of_ranged, sentinel_whole}
use Rattle.least.proofs.Padding.{padded, taker, padded_least}
use Rattle.least.proofs.Lists.{least_pairs}
use Rattle.least.proofs.Dense.{entry_is, own, own_long, own_at, solved_is, least_alike}

module _ (far rowCost columnCost : Float) (farZ row column : Integer) (far-is : WholeValue far farZ) (far-low : natural 1_000_000_000 ≤Z farZ) (far-high : Within largest farZ)
    (row_is : WholeValue rowCost row × Within 1_000_000 row) (column_is : WholeValue columnCost column × Within 1_000_000 column) where
  within : (b : Bool) (d e : Integer) → (b ≡ true → Within largest d) → (b ≡ false → Within largest e) → Within largest (cond b d e)
  within true d e p q = p refl
  within false d e p q = q refl

  wider : (d : Integer) → Within 1_000_000 d → Within largest d
  wider d w = (omega arith, omega arith)

  solves : Solves (λ table. solved float (square_of far rowCost columnCost table)) row column
  solves T r c cost z hr hc long wide costs_are =
      let allowed : ℕ → ℕ → Bool = λ i j. finite (get_or (get_or T i []) j nan) in
      let A : ℕ → ℕ → Integer = padded r c allowed cost row column farZ in
      let q : Square Float = square_of far rowCost columnCost T in
      let value : (i j : ℕ) → i < r → j < c → finite (get_or (get_or T i []) j nan) ≡ true → WholeValue (get_or (get_or T i []) j nan) (cost i j) = λ i j h l e. (costs_are i j h l e).0 in
      let few : r + c < 129 = omega arith in
      let w : WholeSquare (r + c) (entry float q) A = record {
        value = λ i j h l. entry_is T r c long wide z far rowCost columnCost cost farZ row column value far-is row_is.0 column_is.0 i j;
        small = λ i j h l. bound i j;
      } in
      let x = square_least (r + c) few (entry float q) A w in
      let s = x.last in
      let p = x.row in
      let at = x.at in (
        own T r c long wide z far rowCost columnCost cost farZ row column value far-is row_is.0 column_is.0 s p few x.ends at,
        solved_is T r c long wide z far rowCost columnCost cost farZ row column value far-is row_is.0 column_is.0 s p few x.ends at,
        own_long T r c long wide z far rowCost columnCost cost farZ row column value far-is row_is.0 column_is.0 s p few x.ends at,
        least_alike allowed cost row column r c (taker r p) _ (own_at T r c long wide z far rowCost columnCost cost farZ row column value far-is row_is.0 column_is.0 s p few x.ends at)
            (padded_least r c allowed cost row column farZ hr hc (λ i j h l e. (costs_are i j h l e).1) row_is.1 column_is.1 far-low p x.inj x.least),
      )
    where
      bound : (i j : ℕ) → Within largest (padded r c (λ i j. finite (get_or (get_or T i []) j nan)) cost row column farZ i j)
      bound i j =
          within (ltb i r) _ _
          (λ e. within (ltb j c) _ _ (λ f. within (finite (get_or (get_or T i []) j nan)) (cost i j) farZ (λ g. wider (cost i j) (costs_are i j (ltb-true i r e) (ltb-true j c f) g).1) (λ g. far-high)) (λ f. within (eqb j (c + i)) row farZ (λ g. wider row row_is.1) (λ g. far-high)))
          (λ e. within (ltb j c) _ _ (λ f. within (eqb i (r + j)) column farZ (λ g. wider column column_is.1) (λ g. far-high)) (λ f. (omega arith, omega arith)))

-- ---- the whole table
-- the table's places are those of its rows
row_at_lem : (costs : List Float) (n m i j : ℕ) → i < n → j < m → get_or (get_or (rows_of n m costs) i []) j nan ≡ cost_at costs m i j
row_at_lem costs n m i j h l = ap (λ (x : List Float). get_or x j nan) (rows_at n m costs i h) ∙ get_or-take m (drop (i * m) costs) j nan l ∙ get_or-drop (i * m) costs j nan

row_past : (costs : List Float) (n m i j : ℕ) → n ≤ i → get_or (get_or (rows_of n m costs) i []) j nan ≡ nan
row_past costs n m i j h = ap (λ (x : List Float). get_or x j nan) (get_or-eq_default (rows_of n m costs) [] (rw (rows_count n m costs) h))

module _ (costs : List Float) (n m : ℕ) (rowCost columnCost : Float) (cost : ℕ → ℕ → Integer) (row column : Integer) (W : WholeCosts costs n m rowCost columnCost cost row column) where
  abbrev R : List (List Float)
  R = rows_of n m costs

  entry_ranged : (i j : ℕ) → finite (get_or (get_or R i []) j nan) ≡ true → Ranged (get_or (get_or R i []) j nan)
  entry_ranged i j e = go (dec_lt i n) (dec_lt j m)
    where
      go : Dec (i < n) → Dec (j < m) → Ranged (get_or (get_or R i []) j nan)
      go (yes h) (yes l) =
          let w = row_at_lem costs n m i j h l in
          let v = W.costs_are i j h l (sym (ap finite w) ∙ e) in
          subst Ranged (sym w) (cost i j, v.0, v.1)
      go (yes h) (no l) = absurd (true≢false (sym e ∙ ap finite (ap (λ (x : List Float). get_or x j nan) (rows_at n m costs i h) ∙ get_or-eq_default (take m (drop (i * m) costs)) nan (short (take m (drop (i * m) costs)) (lib.ListN.length-take m (drop (i * m) costs))))))
        where
          short : (x : List Float) → length x ≡ Prim.Native.Nat.min m (length (drop (i * m) costs)) → length x ≤ j
          short x q = omega arith
      go (no h) d = absurd (true≢false (sym e ∙ ap finite (row_past costs n m i j (omega arith))))

  top_ranged : Ranged (largest_of (larger_of rowCost columnCost) R)
  top_ranged = largest_of_ranged (larger_of rowCost columnCost) R (larger_ranged rowCost columnCost (row, W.row_is.0, W.row_is.1) (column, W.column_is.0, W.column_is.1)) entry_ranged

  abbrev far : Float
  far = sentinel_of (largest_of (larger_of rowCost columnCost) R)

  abbrev F : (f : Integer) × WholeValue far f × (natural 1_000_000_000 ≤Z f) × Within largest f
  F = sentinel_whole (largest_of (larger_of rowCost columnCost) R) top_ranged

  takers : (t : List (Option ℕ)) × (groups (λ table. solved float (square_of far rowCost columnCost table)) R (labels finite R m) (up_from zero R) (replicate m None) ≡ given t) × (length t ≡ m)
      × LeastTakes (allowed_in costs m) cost row column n m (λ j. get_or t j None)
  takers = groups_least costs n m W.rows_few W.columns_few W.size (λ table. solved float (square_of far rowCost columnCost table)) cost row column
      (solves far rowCost columnCost F.0 row column F.1 F.2 F.3 W.row_is W.column_is) W.costs_are

  answered : assignment_reply costs n m rowCost columnCost ≡ given (pairs_of n takers.0)
  unfolding assignment_reply takers_reply pairing
  answered = rw (le-leb n 64 W.rows_few, le-leb m 64 W.columns_few, whole_finite rowCost row W.row_is.0, whole_finite columnCost column W.column_is.0, eq-eqb (length costs) (n * m) W.size, takers.1)

  least_total : LeastTotal costs n m cost row column (assignment_reply costs n m rowCost columnCost)
  least_total = let l = least_pairs (allowed_in costs m) cost row column n m takers.0 takers.2 takers.3 in record { answer = pairs_of n takers.0; given_it = answered; pairing = l.0; least = l.1 }

pub assignment_least : (costs : List Float) (n m : ℕ) (rowCost columnCost : Float) → LeastOnWholes costs n m rowCost columnCost (assignment_reply costs n m rowCost columnCost)
assignment_least costs n m rowCost columnCost cost row column W = least_total costs n m rowCost columnCost cost row column W
