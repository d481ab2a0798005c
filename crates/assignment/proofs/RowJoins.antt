-- One column more of a row that is being joined.
use mathlib.Core.Path.{◌≡◌, refl, sym, ap, ◌∙◌}
use mathlib.Core.Bool.{Bool, true, false, cond, ◌&&◌, ◌||◌}
use mathlib.Core.List.{List}
use Prim.Native.Nat.{ℕ, ◌+◌, ◌-◌, ◌≤◌, ◌<◌}
use native.Mathlib.Decide.{ℕ_discrete}
use native.Mathlib.Numerals.{add-one}
use native.Mathlib.Omega.{arith}
use borrow.Author.Tests.{eq-eqb, ne_eqb}
use lib.Dec.{eqb}
use lib.Ieee.{Float, nan}
use lib.ListN.{get_or, length, take, drop, length-drop}
use lib.Seq.{get_or-take, length-take-le}
use Rattle.std.proofs.lemmas.List.{get_or-drop}
use Rattle.assignment.specs.Forest.{Forest, Ranked, United, join_of}
use Rattle.assignment.specs.Labelling.{allowed_at, touched, row_label, Roomy, RowJoined}
use Rattle.assignment.proofs.Forests.{labels_same, join_on, join_off}
use Rattle.assignment.proofs.Unions.{more}

-- the row's costs, cut out of the table
pub part_long : (costs : List Float) (at n : ℕ) → at + n ≤ length costs → length (take ((at + n) - at) (drop at costs)) ≡ n
part_long costs at n h =
    let e : (at + n) - at ≡ n = omega arith in
    rw e (length-take-le n (drop at costs) (rw (length-drop at costs) (omega arith)))

pub part_at : (costs : List Float) (at n j : ℕ) → j < n → get_or (take ((at + n) - at) (drop at costs)) j nan ≡ get_or costs (at + j) nan
part_at costs at n j h =
    let e : (at + n) - at ≡ n = omega arith in
    rw e (get_or-take n (drop at costs) j nan h ∙ get_or-drop at costs j nan)

module _ (allowed : ℕ → Bool) (label : ℕ → ℕ) (base i j : ℕ) (own : label i ≡ i) where
  abbrev T : ℕ → Bool
  T l = touched allowed label base j l

  abbrev R : ℕ → ℕ
  R z = row_label allowed label base i j z

  next : (l : ℕ) → touched allowed label base (j + 1) l ≡ ((allowed j && eqb (label (base + j)) l) || T l)
  unfolding touched
  next l = ap (λ (k : ℕ). touched allowed label base k l) (add-one j)

  self : R i ≡ i
  self = go (T (label i))
    where
      go : (b : Bool) → cond b i (label i) ≡ i
      go true = refl
      go false = own

  pub skip : allowed j ≡ false → (z : ℕ) → row_label allowed label base i (j + 1) z ≡ R z
  skip h z = ap (λ (b : Bool). cond b i (label z)) (next (label z) ∙ ap (λ (b : Bool). (b && eqb (label (base + j)) (label z)) || T (label z)) h)

  pub touch : allowed j ≡ true → (z : ℕ) → row_label allowed label base i (j + 1) z ≡ join_of R i (base + j) z
  touch h z = ap (λ (b : Bool). cond b i (label z)) (next (label z) ∙ ap (λ (b : Bool). (b && eqb (label (base + j)) (label z)) || T (label z)) h) ∙ go (ℕ_discrete (label (base + j)) (label z))
    where
      off : (t u : Bool) → T (label z) ≡ t → T (label (base + j)) ≡ u → (label (base + j) ≡ label z → ⊥) → cond t i (label z) ≡ cond u i (label (base + j)) → cond t i (label z) ≡ i
      off true u p q n e = refl
      off false true p q n e = e
      off false false p q n e = absurd (n (sym e))

      else : (label (base + j) ≡ label z → ⊥) → Dec (R z ≡ R (base + j)) → cond (T (label z)) i (label z) ≡ join_of R i (base + j) z
      else n (yes e) = off (T (label z)) (T (label (base + j))) refl refl n e ∙ sym (join_on R i (base + j) z e ∙ self)
      else n (no m) = sym (join_off R i (base + j) z m)

      go : Dec (label (base + j) ≡ label z) → cond (eqb (label (base + j)) (label z) || T (label z)) i (label z) ≡ join_of R i (base + j) z
      go (yes e) = rw (eq-eqb (label (base + j)) (label z) e) (sym (join_on R i (base + j) z (ap (λ (l : ℕ). cond (T l) i l) (sym e)) ∙ self))
      go (no n) = rw (ne_eqb (label (base + j)) (label z) n) (else n (ℕ_discrete (R z) (R (base + j))))

module _ (costs : List Float) (at base i j n : ℕ) (par₀ rank₀ par rank : List ℕ) (room : Roomy n par₀ rank₀) (r : RowJoined costs at base i j par₀ rank₀ par rank) (le : j < n) where
  F : Forest (room.k + j) par rank
  F = r.forest room.k room.forest

  pub row_ranked : Ranked par rank
  row_ranked = record { k = room.k + j; forest = F; room = let h = room.room in omega arith }

  pub row_skip : allowed_at costs at j ≡ false → RowJoined costs at base i (j + 1) par₀ rank₀ par rank
  row_skip h = record {
    forest = λ k f. let e : k + (j + 1) ≡ k + j + 1 = omega arith in rw e (more (k + j) par rank (r.forest k f));
    joined = λ label L own. labels_same _ _ par F.within (λ z l. skip (allowed_at costs at) label base i j own h z) (r.joined label L own);
  }

  pub row_touch : allowed_at costs at j ≡ true → (par' rank' : List ℕ) → United par rank par' rank' i (base + j) → RowJoined costs at base i (j + 1) par₀ rank₀ par' rank'
  row_touch h par' rank' u = record {
    forest = λ k f. let e : k + (j + 1) ≡ k + j + 1 = omega arith in rw e (u.forest (k + j) (r.forest k f));
    joined = λ label L own. labels_same _ _ par' (u.forest (room.k + j) F).within (λ z l. touch (allowed_at costs at) label base i j own h z) (u.joined _ (r.joined label L own));
  }

pub row_none : (costs : List Float) (at base i : ℕ) (par rank : List ℕ) → RowJoined costs at base i 0 par rank par rank
unfolding touched
row_none costs at base i par rank = record { forest = λ k f. let e : k + 0 ≡ k = omega arith in rw e f; joined = λ label L own. L }
