-- A row and a column that may pair are in one group.
use Rattle.std.specs.Prelude.{None, Some}
use mathlib.Core.Path.{◌≡◌, refl, sym, ap, ◌∙◌}
use mathlib.Core.Logic.{inl, inr}
use mathlib.Core.Bool.{Bool, true, false, true≢false}
use mathlib.Core.List.{List}
use Prim.Native.Nat.{ℕ, zero, suc, ◌+◌, ◌*◌, ◌≤◌, ◌<◌}
use native.Mathlib.Decide.{ℕ_discrete}
use native.Mathlib.Nat.{suc-mul}
use native.Mathlib.Omega.{arith}
use lib.ListN.{get_or, length, take, drop}
use lib.Seq.{get_or-take, get_or-drop}
use Rattle.kuhn_munkres.specs.Groups.{Labels, relabel, joined_to, relabelled, join, labels}
use Rattle.kuhn_munkres.specs.Assignment.{rows_of}
use Rattle.kuhn_munkres.proofs.Rows.{row_long}
use Rattle.kuhn_munkres.proofs.Labels.{Named, named_all, hs, row_before, row_new, col_new, hit_in, relabel_is, labels_snoc}

module _ {F : Type 0} (finite : F → Bool) (d : F) (no_cost : finite d ≡ false) where
  -- among the first n rows
  abbrev pub Joined : ℕ → ℕ → List F → Labels → Type 0
  Joined n w l s = (x j : ℕ) → x < n → j < w → finite (get_or l (x * w + j) d) ≡ true → get_or s.of_columns j None ≡ Some (get_or s.of_rows x 0)

  module _ (n w : ℕ) (l : List F) (s : Labels) (N : Named finite d no_cost n w s) (J : Joined n w l s) (long : length (take w (drop (n * w) l)) ≡ w) where
    abbrev row : List F
    row = take w (drop (n * w) l)

    abbrev h : List ℕ
    h = hs finite d no_cost n w s N row long

    row_is : (j : ℕ) → j < w → get_or row j d ≡ get_or l (n * w + j) d
    row_is j q = get_or-take w (drop (n * w) l) j d q ∙ get_or-drop (n * w) l j d

    joined_new : (j : ℕ) → j < w → finite (get_or row j d) ≡ true → get_or (join finite n row s).of_columns j None ≡ Some n
    unfolding joined_to
    joined_new j q e = col_new finite d no_cost n w s N row long j q ∙ rw e

    -- a column that was in a row's group is with it still: both are relabelled alike
    joined_old : (x j : ℕ) → x < n → j < w → get_or s.of_columns j None ≡ Some (get_or s.of_rows x 0) → get_or (join finite n row s).of_columns j None ≡ Some (get_or (join finite n row s).of_rows x 0)
    unfolding joined_to relabelled
    joined_old x j p q e = go (finite (get_or row j d)) refl ∙ ap Some (sym (row_before finite d no_cost n w s N row long x p))
      where
        go : (b : Bool) → finite (get_or row j d) ≡ b → get_or (join finite n row s).of_columns j None ≡ Some (relabel h n (get_or s.of_rows x 0))
        go true f =
            let t = hit_in finite d no_cost row s.of_columns j (get_or s.of_rows x 0) f e in
            joined_new j q f ∙ ap Some (elim (relabel_is finite d no_cost h n (get_or s.of_rows x 0)) [ inl y ↦ sym y.1 | inr y ↦ absurd (true≢false (sym t ∙ y.0)) ])
        go false f = col_new finite d no_cost n w s N row long j q ∙ rw (f, e)

    joined_join : Joined (suc n) w l (join finite n row s)
    joined_join x j p q e = go (ℕ_discrete x n)
      where
        go : Dec (x ≡ n) → get_or (join finite n row s).of_columns j None ≡ Some (get_or (join finite n row s).of_rows x 0)
        go (yes z) = joined_new j q (ap finite (row_is j q ∙ ap (λ (k : ℕ). get_or l (k * w + j) d) (sym z)) ∙ e) ∙ ap Some (sym (ap (λ (k : ℕ). get_or (join finite n row s).of_rows k 0) z ∙ row_new finite d no_cost n w s N row long))
        go (no z) = let p' : x < n = omega arith in joined_old x j p' q (J x j p' q e)

  pub joined_all : (n w : ℕ) (l : List F) → n * w ≤ length l → Joined n w l (labels finite (rows_of n w l) w)
  joined_all zero w l q = λ x j p. absurd (under x p)
    where
      under : (x : ℕ) → x < 0 → ⊥
      under x p = omega arith
  joined_all (suc n) w l q =
      let few : n * w ≤ length l = omega (arith, suc-mul n w) in
      rw (labels_snoc finite d no_cost n w l) (joined_join n w l (labels finite (rows_of n w l) w) (named_all finite d no_cost n w l few) (joined_all n w l few) (row_long n w l q))
