-- What the arrays say in the terms of calls: which detection a track took, the columns, the numbers of the unmatched. Assumes nothing.
use Rattle.std.specs.Prelude.{None, Option, Some, slice_get}
use mathlib.Core.Path.{◌≡◌, refl, sym, ap, ◌∙◌, subst}
use mathlib.Core.Bool.{Bool, true, false}
use mathlib.Core.List.{List, [], ◌∷◌, map}
use Prim.Native.Nat.{ℕ, suc, ◌+◌, ◌≤◌, ◌<◌, min}
use native.Mathlib.Decide.{dec_lt}
use native.Mathlib.Omega.{arith}
use borrow.Author.Tests.{lt-ltb, le-ltb}
use lib.Dec.{eqb}
use lib.ListN.{length, take, get_or, replicate, length-map, length-take, length-replicate}
use lib.Seq.{get_or-take}
use Rattle.number.specs.Reply.{Reply, given}
use Rattle.lists.specs.Lay.{lay}
use Rattle.lists.proofs.Laying.{take_lay, length_lay, take_min}
use Rattle.lists.specs.Masks.{zipped}
use Rattle.lists.specs.Each.{each_at}
use Rattle.kuhn_munkres.specs.Takers.{taken_by}
use Rattle.number.proofs.Replies.{bound}
use Rattle.detections.specs.declared.Detection.{Detection}
use Rattle.detections.specs.declared.pairs.PairConfig.{PairConfig}
use Rattle.detections.specs.Detection.{detection_reply}
use Rattle.types.specs.declared.track.Track3D.{Track3D}
use Rattle.batches.specs.Check.{detections_reply}
use Rattle.batches.proofs.Checks.{no_detection}
use Rattle.calls.specs.Update.{Match, Column, match_of, column_for}
use Rattle.pairing.specs.Rows.{Mates}
use Rattle.pairing.proofs.Mating.{mate_some, mate_none, mate_in}
use Rattle.association.specs.declared.Pair.{Pair}
use Rattle.association.specs.Told.{mate_of, alone, pair_for, pair_in, match_for, column_from, columns_from, Listed}
use Rattle.association.proofs.Columns.{zip_length}

-- ---- the detection of each track

each_same : {A B : Type 0} (f g : ℕ → A → Reply B) (i : ℕ) (l : List A) → ((k : ℕ) (x : A) → k < i + length l → f k x ≡ g k x) → each_at f i l ≡ each_at g i l
unfolding each_at
each_same f g i [] h = refl
each_same f g i (x ∷ l) h = rw (h i x (omega arith), each_same f g (suc i) l (λ k y q. h k y (omega arith)))

-- a detection that a track took is one of the batch, and has passed its checks
pub chosen_passed : (t : List (Option ℕ)) (l : List Detection) (i : ℕ) (d : Detection) → detections_reply l ≡ given tt → taken_by t l i ≡ Some d → detection_reply d ≡ given tt
unfolding taken_by detections_reply
chosen_passed [] l i d p e = absurd (let z : ◌≡◌ {A = ℕ} 0 1 = cc in omega arith)
chosen_passed (o ∷ t) [] i d p e = absurd (let z : ◌≡◌ {A = ℕ} 0 1 = cc in omega arith)
chosen_passed (None ∷ t) (x ∷ l) i d p e = let q = bound (detection_reply x) (λ u. detections_reply l) tt p in chosen_passed t l i d q.2 e
chosen_passed (Some r ∷ t) (x ∷ l) i d p e = let q = bound (detection_reply x) (λ u. detections_reply l) tt p in go (eqb i r) refl q.1 (chosen_passed t l i d q.2)
  where
    go : (b : Bool) → eqb i r ≡ b → detection_reply x ≡ given tt → (taken_by t l i ≡ Some d → detection_reply d ≡ given tt) → detection_reply d ≡ given tt
    go true w a f = let same : x ≡ d = (let z = rw (w, taken_by) at e in cc) in subst (λ (y : Detection). detection_reply y ≡ given tt) same a
    go false w a f = f (rw (w, taken_by) at e)

module _ (t : List (Option ℕ)) (mates : List ℕ) (seen : List Detection) (m : ℕ) (s : Mates t mates) (sd : length seen ≡ 64) (long : length t ≡ length (take m seen)) where
  few : length t ≤ 64
  few = let q = length-take m seen in omega arith

  -- the detection at a track's mate is the one that it took
  pub mates_chosen : (i : ℕ) → i < 64 → mate_of mates seen i ≡ taken_by t (take m seen) i
  mates_chosen i h = by (dec_lt (get_or mates i 0) 64)
    where
      by : Dec (get_or mates i 0 < 64) → mate_of mates seen i ≡ taken_by t (take m seen) i
      by (yes g) =
          let inside : get_or mates i 0 < m = (let q = mate_in t mates (take m seen) s long few i h g in let r = length-take m seen in omega arith) in
          rw (lt-ltb (get_or mates i 0) 64 g) (sym (mate_some t mates (take m seen) s long few i h no_detection g ∙ ap Some (get_or-take m seen (get_or mates i 0) no_detection inside)))
      by (no g) = let w : 64 ≤ get_or mates i 0 = omega arith in rw (le-ltb (get_or mates i 0) 64 w) (sym (mate_none t mates (take m seen) s long few i h w))

  -- so that a loop over the tracks by their mates is the definition's
  pub each_by_mates : {B : Type 0} (f : Track3D → Option Detection → Reply B) (ts : List Track3D) → length ts ≤ 64
      → each_at (λ i x. f x (mate_of mates seen i)) 0 ts ≡ each_at (λ i x. f x (taken_by t (take m seen) i)) 0 ts
  each_by_mates f ts h = each_same (λ i x. f x (mate_of mates seen i)) (λ i x. f x (taken_by t (take m seen) i)) 0 ts (λ k x q. ap (f x) (mates_chosen k (omega arith)))

-- ---- the pair of each detection

back : (o : Option Match) → match_for (pair_for o) ≡ o
back None = refl
back (Some m) = refl

module _ (rule : PairConfig) (ts : List Track3D) where
  column_back : (o : Option ℕ) (d : Detection) → column_from (pair_in (column_for rule ts o d)) d ≡ column_for rule ts o d
  unfolding column_for
  column_back None d = refl
  column_back (Some i) d = ap {B = Column} (λ (p : Option Match). record { pair = p; detection = d }) (back (match_of rule (slice_get ts i) d))

  columns_back : (t : List (Option ℕ)) (ds : List Detection) → zipped column_from (map pair_in (zipped (column_for rule ts) t ds)) ds ≡ zipped (column_for rule ts) t ds
  unfolding zipped
  columns_back [] ds = refl
  columns_back (o ∷ t) [] = refl
  columns_back (o ∷ t) (d ∷ ds) = rw (column_back o d, columns_back t ds)

  module _ (seen : List Detection) (m : ℕ) (sd : length seen ≡ 64) (t : List (Option ℕ)) (long : length t ≡ length (take m seen)) where
    pub columns_told : (pairs : List (Option Pair)) → pairs ≡ lay (map pair_in (zipped (column_for rule ts) t (take m seen))) (replicate 64 alone) → columns_from m pairs seen ≡ zipped (column_for rule ts) t (take m seen)
    unfolding columns_from
    columns_told pairs e =
        let told : List (Option Pair) = map pair_in (zipped (column_for rule ts) t (take m seen)) in
        let whole : length (replicate {A = Option Pair} 64 alone) ≡ 64 = length-replicate {A = Option Pair} 64 alone in
        let size : length told ≡ min m 64 =
        length-map (zipped (column_for rule ts) t (take m seen)) pair_in ∙ zip_length (column_for rule ts) t (take m seen) long ∙ long ∙ length-take m seen ∙ ap (min m) sd in
        let pairs-long : length pairs ≡ 64 = ap length e ∙ length_lay told (replicate 64 alone) (omega arith) ∙ whole in
        let front : take m pairs ≡ told =
        take_min m pairs ∙ ap (λ (k : ℕ). take k pairs) (ap (min m) pairs-long ∙ sym size) ∙ ap (take (length told)) e ∙ take_lay told (replicate 64 alone) in
        ap (λ (l : List (Option Pair)). zipped column_from l (take m seen)) front ∙ columns_back t (take m seen)

-- ---- the numbers of the tracks that took none

pub listed_told : (l ids : List ℕ) (count : ℕ) → Listed l ids count → take count ids ≡ l
listed_told l ids count s = ap (λ (k : ℕ). take k ids) s.many ∙ ap (take (length l)) s.slots ∙ take_lay l (replicate 64 0)
