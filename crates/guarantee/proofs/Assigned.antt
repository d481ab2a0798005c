-- A far column changes nothing in one assignment, in the cascade and so in the batch's pairing: it is taken by no row, and without it the others are taken as before. Assumes nothing.
use Rattle.std.specs.Prelude.{None, Option, Some}
use mathlib.Core.Path.{◌≡◌, refl, sym, ◌∙◌, subst}
use mathlib.Core.List.{List, [], ◌∷◌, map}
use mathlib.Core.Bool.{Bool, true, not, ◌&&◌}
use Prim.Native.Nat.{ℕ, ◌*◌}
use native.Mathlib.Omega.{arith}
use borrow.Author.Tests.{leb-true, le-leb, eq-eqb}
use lib.Dec.{eqb, leb}
use lib.IntN.{ℤ}
use lib.Ieee.{Float}
use lib.Ieee.Scale.{finite}
use lib.ListN.{length, length-map}
use Rattle.number.specs.Reply.{Reply, given}
use Rattle.settings.specs.declared.Cartesian3DTrackerConfig.{Cartesian3DTrackerConfig}
use Rattle.lists.specs.Masks.{left_by, Struck, Absent, Every, count, up_from}
use Rattle.matrix.specs.Matrix.{nought}
use Rattle.lists.specs.Each.{each}
use Rattle.kuhn_munkres.specs.Takers.{Takers, free, both_takers}
use Rattle.number.proofs.Replies.{given_same, bound, then_given, past_test}
use Rattle.number.proofs.Zeros.{both}
use Rattle.lists.proofs.Masks.{map_left, map_map, up_from_map, struck_length, left_left, count_left, count_swap, struck_left, every_left, every_map, count_most}
use Rattle.kuhn_munkres.proofs.Takers.{free_named, struck_named, both_left, struck_both}
use Rattle.kuhn_munkres.specs.Assignment.{in_one, named, pairing, takers_reply}
use Rattle.kuhn_munkres.proofs.FarColumns.{NoCost, far_columns}
use Rattle.kuhn_munkres.proofs.Rows.{Wide, one_length, one_rows}
use Rattle.types.specs.declared.track.Track3D.{Track3D}
use Rattle.calls.specs.Pairing.{assigned, cascaded, recent, paired_in, paired}

-- a pairing that far columns don't disturb
abbrev pub Steady : (List (List Float) → ℕ → Reply Takers) → Type 0
Steady f = (k : List Bool) (rows : List (List Float)) (takers : Takers) → Every (Struck NoCost k) rows → f rows (length k) ≡ given takers
    → (f (map (left_by k) rows) (count k) ≡ given (left_by k takers)) × Struck Absent k takers

rows_wide : (k : List Bool) (rows : List (List Float)) → Every (Struck NoCost k) rows → Wide (length k) rows
unfolding Every
rows_wide k [] h = tt
rows_wide k (r ∷ rows) h = (sym (struck_length NoCost k r h.0), rows_wide k rows h.1)

struck_wide : (k : List Bool) (rows : List (List Float)) → Every (Struck NoCost k) rows → Wide (count k) (map (left_by k) rows)
unfolding Every
struck_wide k [] h = tt
struck_wide k (r ∷ rows) h = (count_left k r (struck_length NoCost k r h.0), struck_wide k rows h.1)

-- ---- one assignment

module _ (gate : Float) where
  -- an assignment that is given, for rows of one width
  record Pairs (rows : List (List Float)) (m : ℕ) (takers : Takers) : Type 0 where
    few_rows : leb (length rows) 64 ≡ true
    few_columns : leb m 64 ≡ true
    costs : (finite gate && finite nought) ≡ true
    is : pairing gate nought rows m ≡ given takers

  to_pairs : (rows : List (List Float)) (m : ℕ) (takers : Takers) → Wide m rows → assigned gate rows m ≡ given takers → Pairs rows m takers
  unfolding assigned takers_reply
  to_pairs rows m takers w e =
      let p = past_test (leb (length rows) 64 && leb m 64) 11 _ takers e in
      let q = past_test (finite gate && finite nought) 9 _ takers p.1 in
      let r = past_test (eqb (length (in_one rows)) (length rows * m)) 10 _ takers q.1 in
      let few = both (leb (length rows) 64) (leb m 64) p.0 in
      record { few_rows = few.0; few_columns = few.1; costs = q.0; is = rw (one_rows m rows w) at r.1 }

  from_pairs : (rows : List (List Float)) (m : ℕ) (takers : Takers) → Wide m rows → Pairs rows m takers → assigned gate rows m ≡ given takers
  unfolding assigned takers_reply
  from_pairs rows m takers w p =
      rw (p.few_rows, p.few_columns, p.costs, one_length m rows w, eq-eqb (length rows * m) (length rows * m) refl, one_rows m rows w) p.is

  assigned_steady : Steady (assigned gate)
  assigned_steady k rows takers far e =
      let p = to_pairs rows (length k) takers (rows_wide k rows far) e in
      let q = far_columns gate nought k rows takers far p.is in (
        from_pairs (map (left_by k) rows) (count k) (left_by k takers) (struck_wide k rows far)
            (record {
              few_rows = rw (length-map rows (left_by k)) p.few_rows;
              few_columns = le-leb (count k) 64 (omega (arith, count_most k, leb-true (length k) 64 p.few_columns));
              costs = p.costs;
              is = q.0;
            }),
        q.1,
      )

  -- ---- the cascade

  -- what its two stages give together
  joined : List Bool → List (List Float) → Takers → Takers → Takers
  joined flags rows one two = both_takers (map (named (left_by flags (up_from 0 rows))) one) (map (named (left_by (map not flags) (up_from 0 rows))) two)

  record Cascade (flags : List Bool) (rows : List (List Float)) (n : ℕ) (takers : Takers) : Type 0 where
    one : Takers
    two : Takers
    first : assigned gate (left_by flags rows) n ≡ given one
    second : assigned gate (map (left_by (map free one)) (left_by (map not flags) rows)) (count (map free one)) ≡ given two
    whole : takers ≡ joined flags rows one two

  to_cascade : (flags : List Bool) (rows : List (List Float)) (n : ℕ) (takers : Takers) → cascaded gate flags rows n ≡ given takers → Cascade flags rows n takers
  unfolding cascaded joined
  to_cascade flags rows n takers e =
      let p = bound (assigned gate (left_by flags rows) n) _ takers e in
      let q = bound (assigned gate (map (left_by (map free p.0)) (left_by (map not flags) rows)) (count (map free p.0))) _ takers p.2 in
      record { one = p.0; two = q.0; first = p.1; second = q.1; whole = sym (given_same _ takers q.2) }

  from_cascade : (flags : List Bool) (rows : List (List Float)) (n : ℕ) (takers : Takers) → Cascade flags rows n takers → cascaded gate flags rows n ≡ given takers
  unfolding cascaded joined
  from_cascade flags rows n takers s = rw (s.whole, s.first, s.second)

  module _ (flags k : List Bool) (rows : List (List Float)) (one two : Takers) where
    struck_cascade : length (map free one) ≡ length k → assigned gate (map (left_by k) (left_by flags rows)) (count k) ≡ given (left_by k one) → Struck Absent k one
        → assigned gate (map (left_by (left_by (map free one) k)) (map (left_by (map free one)) (left_by (map not flags) rows))) (count (left_by (map free one) k)) ≡ given (left_by (left_by (map free one) k) two)
        → Cascade flags (map (left_by k) rows) (count k) (left_by k (joined flags rows one two))
    unfolding joined
    struck_cascade len p h q =
        record {
          one = left_by k one;
          two = left_by (left_by (map free one) k) two;
          first = rw (← map_left (left_by k) flags rows) p;
          second =
              rw (
                map_left free k one,
                ← map_left (left_by k) (map not flags) rows,
                map_map (left_by k) (left_by (left_by k (map free one))) (λ r. left_by (left_by k (map free one)) (left_by k r)) (λ r. refl) (left_by (map not flags) rows),
                ← count_swap (map free one) k len,
              )
              (rw (map_map (left_by (map free one)) (left_by (left_by (map free one) k)) (λ r. left_by (left_by k (map free one)) (left_by k r)) (λ r. left_left (map free one) k r) (left_by (map not flags) rows)) at q);
          whole =
              rw (
                up_from_map (left_by k) 0 rows,
                both_left k (map (named (left_by flags (up_from 0 rows))) one) (map (named (left_by (map not flags) (up_from 0 rows))) two) (struck_named _ k one h),
                map_map (named (left_by flags (up_from 0 rows))) free free (free_named _) one,
                map_left (named (left_by flags (up_from 0 rows))) k one,
                map_left (named (left_by (map not flags) (up_from 0 rows))) (left_by (map free one) k) two,
              );
        }

    struck_joined : Struck Absent k one → Struck Absent (left_by (map free one) k) two → Struck Absent k (joined flags rows one two)
    unfolding joined
    struck_joined h g =
        struck_both k _ _ (struck_named _ k one h)
        (rw (map_map (named (left_by flags (up_from 0 rows))) free free (free_named _) one) (struck_named _ (left_by (map free one) k) two g))

  cascaded_steady : (flags : List Bool) → Steady (cascaded gate flags)
  cascaded_steady flags k rows takers far e =
      let s = to_cascade flags rows (length k) takers e in
      let m = map free s.one in
      let a = assigned_steady k (left_by flags rows) s.one (every_left _ flags rows far) s.first in
      let len : length m ≡ length k = length-map s.one free ∙ sym (struck_length _ k s.one a.1) in
      let b = assigned_steady (left_by m k) (map (left_by m) (left_by (map not flags) rows)) s.two
      (every_map _ _ (left_by m) (λ r h. struck_left NoCost m k r len h) _ (every_left _ (map not flags) rows far))
      (rw (count_left m k len) s.second) in
      subst (λ (x : Takers). (cascaded gate flags (map (left_by k) rows) (count k) ≡ given (left_by k x)) × Struck Absent k x) (sym s.whole) (
        from_cascade flags (map (left_by k) rows) (count k) _ (struck_cascade flags k rows s.one s.two len a.0 a.1 b.0),
        struck_joined flags k rows s.one s.two a.1 b.1,
      )

  -- ---- the batch's pairing

  paired_in_steady : (now : ℤ) (ts : List Track3D) (w : Option ℤ) → Steady (paired_in gate w now ts)
  unfolding paired_in
  paired_in_steady now ts None k rows takers far e = assigned_steady k rows takers far e
  paired_in_steady now ts (Some window) k rows takers far e =
      let p = bound (each (recent window now) ts) _ takers e in
      let q = cascaded_steady p.0 k rows takers far p.2 in
      (then_given _ _ p.0 p.1 ∙ q.0, q.1)

pub paired_steady : (c : Cartesian3DTrackerConfig) (now : ℤ) (ts : List Track3D) → Steady (paired c now ts)
unfolding paired
paired_steady c now ts = paired_in_steady c.gate_squared_mahalanobis now ts (c.recent_track_window_ns)
