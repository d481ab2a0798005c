-- What a row took and which tracks took nothing, by the lists of `linear_assignment`; the entries of the cost table. Assumes nothing.
use Rattle.std.specs.Prelude.{None, Option, Some}
use mathlib.Core.Path.{◌≡◌, refl, ap, ◌∙◌}
use mathlib.Core.List.{List, [], ◌∷◌, ◌++◌, map, append_assoc}
use Prim.Native.Nat.{ℕ, suc, ◌+◌, ◌<◌}
use native.Mathlib.Omega.{arith}
use lib.Ieee.{Float}
use lib.ListN.{length, get_or, length-append}
use Rattle.number.specs.Reply.{given}
use Rattle.kuhn_munkres.specs.Assignment.{column_of, free_at, free_rows}
use Rattle.lists.specs.Each.{each}
use Rattle.kuhn_munkres.specs.Takers.{free, taken_by}
use Rattle.lists.proofs.Each.{each_entry}
use Rattle.kuhn_munkres.proofs.Takers.{taken_none, taken_some}
use Rattle.detections.specs.declared.Detection.{Detection}
use Rattle.detections.specs.declared.pairs.PairConfig.{PairConfig}
use Rattle.types.specs.declared.track.Track3D.{Track3D}
use Rattle.calls.specs.Numbers.{numbers_of}
use Rattle.calls.specs.Pairing.{cost_reply, cost_table}
use Rattle.calls.specs.Update.{entry_of, unmatched_from}

-- ---- the tracks that took nothing are those of the unmatched rows

numbers_at : (front ts : List Track3D) (t : Track3D) → get_or (numbers_of (front ++ (t ∷ ts))) (length front) 0 ≡ t.id
numbers_at [] ts t = refl
numbers_at (x ∷ front) ts t = numbers_at front ts t

module _ (t : List (Option ℕ)) (ds : List Detection) (a : Detection) (w : length t ≡ length ds) where
  unmatched_from_lem : (i : ℕ) (front ts : List Track3D) → length front ≡ i
      → unmatched_from (taken_by t ds) i ts ≡ map (λ r. get_or (numbers_of (front ++ ts)) r 0) (free_rows t i (length ts))
  unfolding unmatched_from free_rows free_at free
  unmatched_from_lem i front [] h = refl
  unmatched_from_lem i front (x ∷ ts) h =
      go (column_of i 0 t) refl
      (unmatched_from_lem (suc i) (front ++ (x ∷ [])) ts (length-append front (x ∷ []) ∙ omega arith)
      ∙ ap (λ (l : List Track3D). map (λ r. get_or (numbers_of l) r 0) (free_rows t (suc i) (length ts))) (append_assoc front (x ∷ []) ts))
    where
      go : (o : Option ℕ) → column_of i 0 t ≡ o → unmatched_from (taken_by t ds) (suc i) ts ≡ map (λ r. get_or (numbers_of (front ++ (x ∷ ts))) r 0) (free_rows t (suc i) (length ts))
          → unmatched_from (taken_by t ds) i (x ∷ ts) ≡ map (λ r. get_or (numbers_of (front ++ (x ∷ ts))) r 0) (free_at i o (free_rows t (suc i) (length ts)))
      go None e r =
          let number : get_or (numbers_of (front ++ (x ∷ ts))) i 0 ≡ x.id = rw (← h) (numbers_at front ts x) in
          rw (taken_none t ds i e, unmatched_from, number) (ap {B = List ℕ} (λ l. x.id ∷ l) r)
      go (Some j) e r = rw (taken_some t ds i j a w e, unmatched_from) r

  pub unmatched_rows : (ts : List Track3D) → unmatched_from (taken_by t ds) 0 ts ≡ map (λ r. get_or (numbers_of ts) r 0) (free_rows t 0 (length ts))
  unmatched_rows ts = unmatched_from_lem 0 [] ts refl

-- the reported cost of a pair is the table's entry
pub cost_entry : (c : PairConfig) (ts : List Track3D) (ds : List Detection) (rows : List (List Float)) (i j : ℕ) (t : Track3D) (d : Detection) (x : Float)
    → cost_table c ts ds ≡ given rows → i < length ts → j < length ds → entry_of (cost_reply c (get_or ts i t) (get_or ds j d)) ≡ get_or (get_or rows i []) j x
unfolding cost_table
cost_entry c ts ds rows i j t d x e h k =
    ap entry_of (each_entry (cost_reply c (get_or ts i t)) ds (get_or rows i []) j d x (each_entry (λ t. each (cost_reply c t) ds) ts rows i t [] e h) k)
