-- What the loops that tell of the pairing have done at the start, or by track i. Assumes nothing.
use Rattle.std.specs.Prelude.{Option}
use mathlib.Core.Path.{◌≡◌, refl, sym, ap, ◌∙◌, subst}
use mathlib.Core.Bool.{Bool, true, false, cond}
use mathlib.Core.List.{List, [], ◌∷◌, ◌++◌, append-nil, append_assoc}
use Prim.Native.Nat.{ℕ, suc, ◌+◌, ◌≤◌, ◌<◌}
use native.Mathlib.Numerals.{add-one}
use native.Mathlib.Omega.{arith}
use borrow.Author.Tests.{lt-ltb, le-ltb}
use lib.Ieee.{Float}
use lib.ListN.{length, take, get_or, set, replicate, length-append, length-map, length-replicate, get_or-replicate}
use lib.Seq.{take-suc, length-take-le}
use Rattle.lists.specs.Lay.{lay}
use Rattle.lists.proofs.Laying.{set_lay}
use Rattle.detections.specs.declared.Detection.{Detection}
use Rattle.types.specs.declared.track.Track3D.{Track3D}
use Rattle.kuhn_munkres.specs.Takers.{free}
use Rattle.calls.specs.Numbers.{numbers_of}
use Rattle.calls.specs.Update.{unmatched_from}
use Rattle.association.specs.declared.Pair.{Pair}
use Rattle.association.specs.Told.{mate_of, alone, PairsTold, unmatched_of, Listed}

-- ---- the pairs of the columns

pub told_none : (ids : List ℕ) (n m : ℕ) (costs : List Float) (takers : List ℕ) (pairs : List (Option Pair)) → pairs ≡ replicate 64 alone → PairsTold ids n m costs takers 0 pairs
told_none ids n m costs takers pairs e =
    record {
      long = ap length e ∙ length-replicate {A = Option Pair} 64 alone;
      at = λ j h. absurd (under j h);
      rest = λ j l h. ap (λ (q : List (Option Pair)). get_or q j alone) e ∙ get_or-replicate 64 j alone alone h;
    }
  where
    under : (j : ℕ) → j < 0 → ⊥
    under j l = omega arith

-- ---- the tracks that took nothing

-- a track's number, where it took nothing
abbrev unless_taken : Bool → ℕ → List ℕ
unless_taken b id = cond b (id ∷ []) []

module _ (took : ℕ → Option Detection) where
  unmatched_cons : (i : ℕ) (x : ℕ) (ts : List ℕ) (b : Bool) → free (took i) ≡ b → unmatched_of took i (x ∷ ts) ≡ unless_taken b x ++ unmatched_of took (suc i) ts
  unfolding unmatched_of
  unmatched_cons i x ts true e = rw (unmatched_of, e)
  unmatched_cons i x ts false e = rw (unmatched_of, e)

  unmatched_snoc : (i : ℕ) (ts : List ℕ) (t : ℕ) → unmatched_of took i (ts ++ (t ∷ [])) ≡ unmatched_of took i ts ++ unless_taken (free (took (i + length ts))) t
  unfolding unmatched_of
  unmatched_snoc i [] t = let z : i + 0 ≡ i = omega arith in rw z (unmatched_cons i t [] (free (took i)) refl ∙ append-nil (unless_taken (free (took i)) t))
  unmatched_snoc i (x ∷ ts) t =
      let z : i + suc (length ts) ≡ suc i + length ts = omega arith in
      let front : List ℕ = unless_taken (free (took i)) x in
      rw z
      (unmatched_cons i x (ts ++ (t ∷ [])) (free (took i)) refl
      ∙ ap (λ (l : List ℕ). front ++ l) (unmatched_snoc (suc i) ts t)
      ∙ sym (append_assoc front (unmatched_of took (suc i) ts) (unless_taken (free (took (suc i + length ts))) t))
      ∙ ap (λ (l : List ℕ). l ++ unless_taken (free (took (suc i + length ts))) t) (sym (unmatched_cons i x ts (free (took i)) refl)))

  -- no more than there are tracks
  pub numbers_few : (i : ℕ) (ts : List ℕ) → length (unmatched_of took i ts) ≤ length ts
  unfolding unmatched_of
  numbers_few i [] = omega arith
  numbers_few i (x ∷ ts) = rw (unmatched_cons i x ts (free (took i)) refl) (go (free (took i)) (unmatched_of took (suc i) ts) (numbers_few (suc i) ts))
    where
      go : (b : Bool) (l : List ℕ) → length l ≤ length ts → length (unless_taken b x ++ l) ≤ suc (length ts)
      go true l h = omega arith
      go false l h = omega arith

  module _ (all : List ℕ) (i : ℕ) (h : i < length all) where
    next : unmatched_of took 0 (take (i + 1) all) ≡ unmatched_of took 0 (take i all) ++ unless_taken (free (took i)) (get_or all i 0)
    next =
        ap (unmatched_of took 0) (rw (add-one, take-suc all i 0 h))
        ∙ unmatched_snoc 0 (take i all) (get_or all i 0)
        ∙ ap (λ (k : ℕ). unmatched_of took 0 (take i all) ++ unless_taken (free (took k)) (get_or all i 0)) (let q = length-take-le i all (omega arith) in omega arith)

    pub listed_skip : (ids : List ℕ) (count : ℕ) → Listed (unmatched_of took 0 (take i all)) ids count → free (took i) ≡ false → Listed (unmatched_of took 0 (take (i + 1) all)) ids count
    listed_skip ids count s e =
        subst (λ (l : List ℕ). Listed l ids count)
        (sym (next ∙ ap (λ (b : Bool). unmatched_of took 0 (take i all) ++ unless_taken b (get_or all i 0)) e ∙ append-nil (unmatched_of took 0 (take i all)))) s

    pub listed_room : (ids : List ℕ) (count : ℕ) → Listed (unmatched_of took 0 (take i all)) ids count → count ≤ i
    listed_room ids count s = omega (arith, numbers_few 0 (take i all), s.many, length-take-le i all (omega arith))

    pub listed_take : (ids : List ℕ) (count : ℕ) → i < 64 → Listed (unmatched_of took 0 (take i all)) ids count → free (took i) ≡ true
        → Listed (unmatched_of took 0 (take (i + 1) all)) (set ids count (get_or all i 0)) (count + 1)
    listed_take ids count w s e =
        let l : List ℕ = unmatched_of took 0 (take i all) in
        let x : ℕ = get_or all i 0 in
        let room : count < 64 = omega (arith, listed_room ids count s) in
        let whole : length (replicate {A = ℕ} 64 0) ≡ 64 = length-replicate {A = ℕ} 64 0 in
        subst (λ (q : List ℕ). Listed q (set ids count x) (count + 1)) (sym (next ∙ ap (λ (b : Bool). l ++ unless_taken b x) e))
        (record {
          slots = ap (λ (r : List ℕ). set r count x) s.slots ∙ ap (λ (k : ℕ). set (lay l (replicate 64 0)) k x) s.many ∙ set_lay l (replicate 64 0) x (omega (arith, s.many));
          many = let c = s.many in omega (arith, length-append l (x ∷ []));
        })

-- of the tracks' numbers, it is what calls says of the tracks
module _ (took : ℕ → Option Detection) where
  pub unmatched_numbers : (i : ℕ) (ts : List Track3D) → unmatched_of took i (numbers_of ts) ≡ unmatched_from took i ts
  unfolding unmatched_of unmatched_from
  unmatched_numbers i [] = refl
  unmatched_numbers i (x ∷ ts) = go (free (took i)) refl (unmatched_numbers (suc i) ts)
    where
      go : (b : Bool) → free (took i) ≡ b → unmatched_of took (suc i) (numbers_of ts) ≡ unmatched_from took (suc i) ts → unmatched_of took i (x.id ∷ numbers_of ts) ≡ unmatched_from took i (x ∷ ts)
      go true e w = rw (unmatched_of, unmatched_from, e, w)
      go false e w = rw (unmatched_of, unmatched_from, e, w)

  pub unmatched_few : (i : ℕ) (ts : List Track3D) → length (unmatched_from took i ts) ≤ length ts
  unmatched_few i ts = omega (arith, numbers_few took i (numbers_of ts), ap length (unmatched_numbers i ts), length-map ts (λ (t : Track3D). t.id))

-- only whether a track took one counts
pub unmatched_same : (took other : ℕ → Option Detection) (i : ℕ) (ts : List ℕ) → ((k : ℕ) → k < i + length ts → free (took k) ≡ free (other k)) → unmatched_of took i ts ≡ unmatched_of other i ts
unfolding unmatched_of
unmatched_same took other i [] h = refl
unmatched_same took other i (x ∷ ts) h =
    unmatched_cons took i x ts (free (other i)) (h i (omega arith))
    ∙ ap (λ (l : List ℕ). unless_taken (free (other i)) x ++ l) (unmatched_same took other (suc i) ts (λ k l. h k (omega arith)))
    ∙ sym (unmatched_cons other i x ts (free (other i)) refl)

pub listed_none : Listed [] (replicate 64 0) 0
unfolding lay
listed_none = record { slots = refl; many = refl }

module _ (mates : List ℕ) (ds : List Detection) (i : ℕ) where
  pub mate_taken : get_or mates i 0 < 64 → free (mate_of mates ds i) ≡ false
  unfolding free
  mate_taken h = rw (lt-ltb (get_or mates i 0) 64 h)

  pub mate_free : 64 ≤ get_or mates i 0 → free (mate_of mates ds i) ≡ true
  unfolding free
  mate_free h = rw (le-ltb (get_or mates i 0) 64 h)
