-- What a report's associations say, in terms of what became of each detection. Assumes nothing.
use Rattle.std.specs.Prelude.{None, Option, Some}
use mathlib.Core.Path.{◌≡◌, refl, sym, ap, ◌∙◌}
use mathlib.Core.List.Memᴰ
use mathlib.Core.List.{List, [], ◌∷◌, map, Memᴰ}
use mathlib.Core.Logic.{◌⊎◌, inl, inr}
use mathlib.Core.Bool.{Bool, true, false}
use Prim.Native.Nat.{ℕ, suc}
use native.Mathlib.Omega.{arith}
use lib.ListN.{length}
use Rattle.lists.specs.Masks.{left_by, Every, up_from}
use Rattle.lists.proofs.Masks.{map_left, all_struck}
use Rattle.types.specs.declared.batch.ObservationAssociation.{ObservationAssociation}
use Rattle.types.specs.Batches.{Report}
use Rattle.detections.specs.declared.Detection.{Detection}
use Rattle.calls.specs.Update.{Match}
use Rattle.calls.specs.Births.{Fate, updated, spawned, unmatched}
use Rattle.calls.specs.Process.{associations_from}
use Rattle.calls.proofs.Spawning.{match_in}
use Rattle.guarantee.specs.Claim.{Last, Update, update_of, birth_of, is_plain, Tells}

abbrev pub update_in : Option Match → Option Update
update_in None = None
update_in (Some m) = Some (record { number = m.track; cost = m.cost })

abbrev pub birth_in : Fate → Option ℕ
birth_in (updated m) = None
birth_in (spawned n) = Some n
birth_in unmatched = None

-- ---- one association for each detection, in order, and plain

associations_length : (i : ℕ) (l : List Fate) → length (associations_from i l) ≡ length l
unfolding associations_from
associations_length i [] = refl
associations_length i (x ∷ l) = ap suc (associations_length (suc i) l)

associations_order : (i : ℕ) (l : List Fate) → map (λ (a : ObservationAssociation). a.observation_index) (associations_from i l) ≡ up_from i l
unfolding associations_from up_from
associations_order i [] = refl
associations_order i (updated m ∷ l) = rw (associations_order (suc i) l)
associations_order i (spawned n ∷ l) = rw (associations_order (suc i) l)
associations_order i (unmatched ∷ l) = rw (associations_order (suc i) l)

associations_plain : (i : ℕ) (l : List Fate) → Every (λ a. is_plain a.outcome a.track_id a.cost ≡ true) (associations_from i l)
unfolding associations_from Every
associations_plain i [] = tt
associations_plain i (updated m ∷ l) = (refl, associations_plain (suc i) l)
associations_plain i (spawned n ∷ l) = (refl, associations_plain (suc i) l)
associations_plain i (unmatched ∷ l) = (refl, associations_plain (suc i) l)

up_from_long : {A B : Type 0} (i : ℕ) (l : List A) (m : List B) → length l ≡ length m → up_from i l ≡ up_from i m
unfolding up_from
up_from_long i [] [] e = refl
up_from_long i [] (y ∷ m) e = absurd (omega arith)
up_from_long i (x ∷ l) [] e = absurd (omega arith)
up_from_long i (x ∷ l) (y ∷ m) e = ap {B = List ℕ} (λ r. i ∷ r) (up_from_long (suc i) l m (omega arith))

pub report_tells : (ds : List Detection) (r : Report) (l : List Fate) → r.associations ≡ associations_from 0 l → length l ≡ length ds → Tells ds r
report_tells ds r l e n =
    record {
      one_for_each = ap length e ∙ associations_length 0 l ∙ n;
      in_order = ap (map (λ (a : ObservationAssociation). a.observation_index)) e ∙ associations_order 0 l ∙ up_from_long 0 l ds n;
      plain = rw e (associations_plain 0 l);
    }

-- ---- updates and births

updates_told : (i : ℕ) (l : List Fate) → map update_of (associations_from i l) ≡ map update_in (map match_in l)
unfolding associations_from update_of
updates_told i [] = refl
updates_told i (updated m ∷ l) = rw (updates_told (suc i) l)
updates_told i (spawned n ∷ l) = rw (updates_told (suc i) l)
updates_told i (unmatched ∷ l) = rw (updates_told (suc i) l)

births_told : (i : ℕ) (l : List Fate) → map birth_of (associations_from i l) ≡ map birth_in l
unfolding associations_from birth_of
births_told i [] = refl
births_told i (updated m ∷ l) = rw (births_told (suc i) l)
births_told i (spawned n ∷ l) = rw (births_told (suc i) l)
births_told i (unmatched ∷ l) = rw (births_told (suc i) l)

-- of those that a mask leaves
pub updates_left : (k : List Bool) (l : List Fate) → map update_of (left_by k (associations_from 0 l)) ≡ map update_in (left_by k (map match_in l))
updates_left k l = map_left update_of k (associations_from 0 l) ∙ ap (left_by k) (updates_told 0 l) ∙ sym (map_left update_in k (map match_in l))

pub births_left : (k : List Bool) (l : List Fate) → map birth_of (left_by k (associations_from 0 l)) ≡ map birth_in (left_by k l)
births_left k l = map_left birth_of k (associations_from 0 l) ∙ ap (left_by k) (births_told 0 l) ∙ sym (map_left birth_in k l)

-- with the struck ones last the others have the indices that they have alone
pub associations_last : (k : List Bool) (i : ℕ) (l : List Fate) → Last k → left_by k (associations_from i l) ≡ associations_from i (left_by k l)
unfolding associations_from left_by Last
associations_last [] i l h = refl
associations_last (b ∷ k) i [] h = refl
associations_last (true ∷ k) i (x ∷ l) h = rw (associations_last k (suc i) l h)
associations_last (false ∷ k) i (x ∷ l) h = all_struck k (associations_from (suc i) l) h ∙ rw (all_struck k l h)

birth_first : (n : ℕ) (x : Fate) (l : List Fate) → Some n ≡ birth_in x → Memᴰ (spawned n) (x ∷ l)
birth_first n (updated m) l e = absurd (let z : ◌≡◌ {A = ℕ} 0 1 = cc in omega arith)
birth_first n (spawned k) l e = Memᴰ.head (let same : n ≡ k = cc in ap {B = Fate} spawned same)
birth_first n unmatched l e = absurd (let z : ◌≡◌ {A = ℕ} 0 1 = cc in omega arith)

-- a birth that is told is one
pub birth_in_lem : (n : ℕ) (l : List Fate) → Memᴰ (Some n) (map birth_in l) → Memᴰ (spawned n) l
birth_in_lem n [] m = absurd (Memᴰ.not-nil m)
birth_in_lem n (x ∷ l) m = go (Memᴰ.cases_cons m) (birth_in_lem n l)
  where
    go : (Some n ≡ birth_in x) ⊎ Memᴰ (Some n) (map birth_in l) → (Memᴰ (Some n) (map birth_in l) → Memᴰ (spawned n) l) → Memᴰ (spawned n) (x ∷ l)
    go (inl e) f = birth_first n x l e
    go (inr m) f = Memᴰ.tail (f m)
