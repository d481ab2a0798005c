-- Two stages, one after the other, are the cascade. Assumes nothing.
use Rattle.std.specs.Prelude.{Err, Ok, Result, None, Option}
use mathlib.Core.Path.{◌≡◌, refl, sym, ap, ◌∙◌, subst}
use mathlib.Core.Bool.{Bool, true, false, not, ◌&&◌}
use mathlib.Core.List.{List, [], ◌∷◌, map}
use Prim.Native.Nat.{ℕ, zero, suc, ◌*◌, ◌≤◌, ◌<◌}
use native.Mathlib.Omega.{arith}
use borrow.Author.Tests.{leb-true, eqb-true}
use lib.Dec.{eqb, leb}
use lib.Ieee.{Float}
use lib.Ieee.Scale.{finite}
use lib.ListN.{length, get_or, take, drop, replicate, length-map, length-take}
use lib.Seq.{get_or-take, ext_get_or, length-take-le}
use Rattle.number.specs.Reply.{Reply, refused, given, and_then, left_in}
use Rattle.lists.specs.Masks.{left_by, Every, count, up_from}
use Rattle.matrix.specs.Matrix.{nought}
use Rattle.kuhn_munkres.specs.Takers.{free, both_takers}
use Rattle.lists.proofs.Masks.{map_map, every_left}
use Rattle.kuhn_munkres.proofs.Takers.{free_named}
use Rattle.kuhn_munkres.specs.Assignment.{rows_of, named, in_one, takers_reply}
use Rattle.groups.proofs.Once.{pairing_sound}
use Rattle.number.proofs.Replies.{past_test}
use Rattle.number.proofs.Zeros.{both}
use Rattle.assignment.specs.Taking.{takers_of}
use Rattle.types.specs.Refusals.{number_of, reply_of}
use Rattle.types.specs.declared.refusal.Refusal.{Refusal}
use Rattle.calls.specs.Pairing.{assigned, cascaded}
use Rattle.kuhn_munkres.proofs.Labels.{map_at}
use Rattle.cascade.specs.Stages.{stage_reply, StageAnswer, CascadeAnswer}

-- ---- a given reply has a taker, or none, for each column

pub takers_long : (costs : List Float) (n m : ℕ) (rowCost columnCost : Float) (t : List (Option ℕ)) → takers_reply costs n m rowCost columnCost ≡ given t → length t ≡ m
unfolding takers_reply
takers_long costs n m rowCost columnCost t e =
    let p = past_test (leb n 64 && leb m 64) 11 _ t e in
    let q = past_test (finite rowCost && finite columnCost) 9 _ t p.1 in
    let s = past_test (eqb (length costs) (n * m)) 10 _ t q.1 in
    let f = both (leb n 64) (leb m 64) p.0 in
    (pairing_sound costs n m (leb-true n 64 f.0) (leb-true m 64 f.1) (eqb-true (length costs) (n * m) s.0) rowCost columnCost t s.1).long

-- ---- where no column is taken yet

pub none_taken : (m k : ℕ) → m ≤ k → takers_of m (replicate k 64) ≡ replicate m None
none_taken zero k h = refl
none_taken (suc m) zero h = absurd (omega arith)
none_taken (suc m) (suc k) h = ap {B = List (Option ℕ)} (λ r. None ∷ r) (none_taken m k (omega arith))

all_free : (m : ℕ) → map free (replicate {A = Option ℕ} m None) ≡ replicate m true
unfolding free
all_free zero = refl
all_free (suc m) = ap {B = List Bool} (λ r. true ∷ r) (all_free m)

count_all : (m : ℕ) → count (replicate m true) ≡ m
unfolding count
count_all zero = refl
count_all (suc m) = ap suc (count_all m)

left_all : {A : Type 0} (m : ℕ) (l : List A) → length l ≤ m → left_by (replicate m true) l ≡ l
unfolding left_by
left_all zero [] h = refl
left_all zero (x ∷ l) h = absurd (omega arith)
left_all (suc m) [] h = refl
left_all {A} (suc m) (x ∷ l) h = ap {B = List A} (λ r. x ∷ r) (left_all m l (omega arith))

rows_all : (m : ℕ) (rows : List (List Float)) → Every (λ (r : List Float). length r ≤ m) rows → map (left_by (replicate m true)) rows ≡ rows
unfolding Every
rows_all m [] h = refl
rows_all m (r ∷ rows) h = rw (left_all m r h.0, rows_all m rows h.1)

rows_narrow : (n m : ℕ) (l : List Float) → Every (λ (r : List Float). length r ≤ m) (rows_of n m l)
unfolding Every rows_of
rows_narrow zero m l = tt
rows_narrow (suc n) m l = (rw (length-take m l) (omega arith), rows_narrow n m (drop m l))

merged_none : (m : ℕ) (l : List (Option ℕ)) → length l ≡ m → both_takers (replicate m None) l ≡ l
unfolding both_takers
merged_none zero [] h = refl
merged_none zero (o ∷ l) h = absurd (omega arith)
merged_none (suc m) [] h = absurd (omega arith)
merged_none (suc m) (o ∷ l) h = ap {B = List (Option ℕ)} (λ r. o ∷ r) (merged_none m l (omega arith))

-- ---- the two stages

module _ (gate : Float) (flags : List Bool) (n m : ℕ) (costs : List Float) where
  abbrev R : List (List Float)
  R = rows_of n m costs

  abbrev L : List ℕ
  L = left_by flags (up_from 0 R)

  abbrev second : List (Option ℕ) → Reply (List (Option ℕ))
  second t = stage_reply gate (map not flags) R t

  first : stage_reply gate flags R (replicate m None) ≡ and_then (assigned gate (left_by flags R) m) (λ own. given (both_takers (replicate m None) (map (named L) own)))
  unfolding stage_reply
  first = rw (all_free m, count_all m, rows_all m (left_by flags R) (every_left (λ (r : List Float). length r ≤ m) flags R (rows_narrow n m costs)))

  own_long : (one : List (Option ℕ)) → assigned gate (left_by flags R) m ≡ given one → length one ≡ m
  unfolding assigned
  own_long one e = takers_long (in_one (left_by flags R)) (length (left_by flags R)) m gate nought one e

  then_second : (one : List (Option ℕ)) → length one ≡ m
      → second (both_takers (replicate m None) (map (named L) one))
      ≡ and_then (assigned gate (map (left_by (map free one)) (left_by (map not flags) R)) (count (map free one)))
      (λ two. given (both_takers (map (named L) one) (map (named (left_by (map not flags) (up_from 0 R))) two)))
  unfolding stage_reply
  then_second one h = rw (merged_none m (map (named L) one) (length-map one (named L) ∙ h), map_map (named L) free free (free_named L) one)

  pub cascade_is : and_then (stage_reply gate flags R (replicate m None)) second ≡ cascaded gate flags R m
  unfolding cascaded
  cascade_is = ap (λ (r : Reply (List (Option ℕ))). and_then r second) first ∙ go (assigned gate (left_by flags R) m) refl
    where
      go : (r : Reply (List (Option ℕ))) → assigned gate (left_by flags R) m ≡ r
          → and_then (and_then r (λ own. given (both_takers (replicate m None) (map (named L) own)))) second
          ≡ and_then r (λ one. and_then (assigned gate (map (left_by (map free one)) (left_by (map not flags) R)) (count (map free one)))
          (λ two. given (both_takers (map (named L) one) (map (named (left_by (map not flags) (up_from 0 R))) two))))
      go (refused k) e = refl
      go (given one) e = then_second one (own_long one e)

-- ---- the others, which take part in the second stage

module _ (flags : List Bool) (n : ℕ) (costs : List Float) (m : ℕ) (hm : m ≤ 64) (gate : Float) (before mid : List ℕ) (fresh : before ≡ replicate 64 64) where
  abbrev F : List Bool
  F = take n flags

  nones : takers_of m before ≡ replicate m None
  nones = ap (takers_of m) fresh ∙ none_taken m 64 hm

  first_is : (r : Reply (Unit {0})) → StageAnswer costs n m gate flags r before mid → and_then r (λ u. given (takers_of m mid)) ≡ stage_reply gate F (rows_of n m costs) (replicate m None)
  first_is r S = rw nones at S.is

  pub cascade_stopped : (o : Result (Unit {0}) Refusal) (why : Refusal) → o ≡ Err why → StageAnswer costs n m gate flags (reply_of o) before mid → CascadeAnswer costs n m gate flags (refused (number_of why)) before mid
  cascade_stopped o why w A =
      let k : ℕ = number_of why in
      let S = subst (λ (q : Result (Unit {0}) Refusal). StageAnswer costs n m gate flags (reply_of q) before mid) w A in
      let e = first_is (refused k) S in
      record {
        long = S.long;
        is = ap (λ (r : Reply (List (Option ℕ))). and_then r (stage_reply gate (map not F) (rows_of n m costs))) e ∙ cascade_is gate F n m costs;
        rest = S.rest;
        kept = λ j h. ap (takers_of m) (S.kept k refl) ∙ nones ∙ ap (λ (r : Reply (List (Option ℕ))). left_in r (replicate m None)) e;
      }

  module _ (others : List Bool) (hn : n ≤ 64) (long : length flags ≡ 64) (others_long : length others ≡ 64) (turned : (i : ℕ) → i < 64 → get_or others i false ≡ not (get_or flags i false)) where
    turned_front : take n others ≡ map not F
    turned_front =
        let a : length (take n others) ≡ n = length-take-le n others (rw others_long hn) in
        let b : length F ≡ n = length-take-le n flags (rw long hn) in
        ext_get_or false (take n others) (map not F) (a ∙ sym (length-map F not ∙ b)) (λ i h. at b i (rw a at h))
      where
        at : length F ≡ n → (i : ℕ) → i < n → get_or (take n others) i false ≡ get_or (map not F) i false
        at b i h = get_or-take n others i false h ∙ turned i (omega arith) ∙ sym (map_at not F i false false (rw b h) ∙ ap not (get_or-take n flags i false h))

    pub cascade_done : (o : Result (Unit {0}) Refusal) → o ≡ Ok tt → (r : Reply (Unit {0})) (after : List ℕ) → StageAnswer costs n m gate flags (reply_of o) before mid → StageAnswer costs n m gate others r mid after → CascadeAnswer costs n m gate flags r before after
    cascade_done o w r after A T =
        let S = subst (λ (q : Result (Unit {0}) Refusal). StageAnswer costs n m gate flags (reply_of q) before mid) w A in
        let e = first_is (given tt) S in
        record {
          long = T.long;
          is =
              (rw turned_front at T.is)
              ∙ ap (λ (r : Reply (List (Option ℕ))). and_then r (stage_reply gate (map not F) (rows_of n m costs))) e ∙ cascade_is gate F n m costs;
          rest = λ j h. T.rest j h ∙ S.rest j h;
          kept = λ j h. ap (takers_of m) (T.kept j h) ∙ ap (λ (r : Reply (List (Option ℕ))). left_in r (replicate m None)) e;
        }
