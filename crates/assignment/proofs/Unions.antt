-- What a union does, from the two roots that it found.
use mathlib.Core.Path.{◌≡◌, refl, sym, ap, ◌∙◌, subst}
use mathlib.Core.Logic.{◌⊎◌, inl, inr}
use mathlib.Core.List.{List}
use Prim.Native.Nat.{ℕ, ◌+◌, ◌≤◌, ◌<◌}
use native.Mathlib.Decide.{ℕ_discrete}
use native.Mathlib.Omega.{arith}
use lib.ListN.{get_or, set, length-set}
use lib.Seq.{get_or-set_same, get_or-set_other}
use Rattle.assignment.specs.Forest.{Forest, Labelled, Found, Ranked, United, join_of}
use Rattle.assignment.proofs.Forests.{labels_same, link_labels, link_forest, join_respects, join_same, join_meet, join_only}

pub more : (k : ℕ) (par rank : List ℕ) → Forest k par rank → Forest (k + 1) par rank
more k par rank F = record { long = F.long; ranks = F.ranks; within = F.within; up = F.up; cap = λ x. let h = F.cap x in omega arith }

module _ (par rank par1 par2 : List ℕ) (a b ra rb : ℕ) (R : Ranked par rank) (f : Found par rank par1 a ra) (g : Found par1 rank par2 b rb) where
  pub found_ranked : Ranked par1 rank
  found_ranked = record { k = R.k; forest = f.forest R.k R.forest; room = R.room }

  both_forest : (k : ℕ) → Forest k par rank → Forest k par2 rank
  both_forest k F = g.forest k (f.forest k F)

  F2 : Forest R.k par2 rank
  F2 = both_forest R.k R.forest

  pub low : (x : ℕ) → get_or rank x 0 ≤ 5000
  low x = omega (arith, F2.cap x, R.room)

  root_a : get_or par2 ra 0 ≡ ra
  root_a = g.stay ra f.inside f.root

  module _ (label : ℕ → ℕ) (L : Labelled label par) where
    L1 : Labelled label par1
    L1 = (f.kept label L).0

    L2 : Labelled label par2
    L2 = (g.kept label L1).0

    label_a : label ra ≡ label a
    label_a = (f.kept label L).1

    label_b : label rb ≡ label b
    label_b = (g.kept label L1).1

  pub united_same : ra ≡ rb → United par rank par2 rank a b
  united_same e =
      record {
        forest = λ k F. more k par2 rank (both_forest k F);
        joined = λ label L. labels_same label (join_of label a b) par2 F2.within (λ x l. join_same label a b (sym (label_a label L) ∙ ap label e ∙ label_b label L) x) (L2 label L);
      }

  -- one of the two roots below the other
  module _ (c d : ℕ) (hc : c < 128) (hd : d < 128) (rc : get_or par2 c 0 ≡ c) (rd : get_or par2 d 0 ≡ d) (apart : c ≡ d → ⊥) (ends : ((c ≡ ra) × (d ≡ rb)) ⊎ ((c ≡ rb) × (d ≡ ra))) (rank' : List ℕ)
      (forest : (k : ℕ) → Forest k par2 rank → Forest (k + 1) (set par2 c d) rank') where
    pub united_link : United par rank (set par2 c d) rank' a b
    united_link = record { forest = λ k F. forest k (both_forest k F); joined = λ label L. by label L (at label L ends) }
      where
        at : (label : ℕ → ℕ) → Labelled label par → ((c ≡ ra) × (d ≡ rb)) ⊎ ((c ≡ rb) × (d ≡ ra)) → ((label c ≡ label a) × (label d ≡ label b)) ⊎ ((label c ≡ label b) × (label d ≡ label a))
        at label L (inl p) = inl (ap label p.0 ∙ label_a label L, ap label p.1 ∙ label_b label L)
        at label L (inr p) = inr (ap label p.0 ∙ label_b label L, ap label p.1 ∙ label_a label L)

        by : (label : ℕ → ℕ) → Labelled label par → ((label c ≡ label a) × (label d ≡ label b)) ⊎ ((label c ≡ label b) × (label d ≡ label a)) → Labelled (join_of label a b) (set par2 c d)
        by label L e = link_labels par2 F2.long c d hc hd rc rd apart label (join_of label a b) (L2 label L) (join_respects label a b) (join_meet label a b c d e) (join_only label a b c d e)

  kept_ranks : (c d : ℕ) (hc : c < 128) (hd : d < 128) (rc : get_or par2 c 0 ≡ c) (rd : get_or par2 d 0 ≡ d) (apart : c ≡ d → ⊥) → get_or rank c 0 < get_or rank d 0 → (k : ℕ) → Forest k par2 rank → Forest (k + 1) (set par2 c d) rank
  kept_ranks c d hc hd rc rd apart h k F =
      link_forest par2 F.long c d hc hd rc rd apart k rank rank F F.ranks (λ x. let q = F.cap x in omega arith) h (λ x. omega arith) (λ x n. refl)

  pub united_below : (ra ≡ rb → ⊥) → get_or rank ra 0 < get_or rank rb 0 → United par rank (set par2 ra rb) rank a b
  united_below n h = united_link ra rb f.inside g.inside root_a g.root n (inl (refl, refl)) rank (kept_ranks ra rb f.inside g.inside root_a g.root n h)

  pub united_above : (ra ≡ rb → ⊥) → get_or rank rb 0 < get_or rank ra 0 → United par rank (set par2 rb ra) rank a b
  united_above n h = united_link rb ra g.inside f.inside g.root root_a (λ e. n (sym e)) (inr (refl, refl)) rank (kept_ranks rb ra g.inside f.inside g.root root_a (λ e. n (sym e)) h)

  pub united_level : (ra ≡ rb → ⊥) → get_or rank ra 0 ≡ get_or rank rb 0 → United par rank (set par2 rb ra) (set rank ra (get_or rank ra 0 + 1)) a b
  united_level n h = united_link rb ra g.inside f.inside g.root root_a (λ e. n (sym e)) (inr (refl, refl)) (set rank ra (get_or rank ra 0 + 1)) raised
    where
      raised : (k : ℕ) → Forest k par2 rank → Forest (k + 1) (set par2 rb ra) (set rank ra (get_or rank ra 0 + 1))
      raised k F =
          link_forest par2 F.long rb ra g.inside f.inside g.root root_a (λ e. n (sym e)) k rank rank' F (length-set rank ra (get_or rank ra 0 + 1) ∙ F.ranks) (λ x. cap x (ℕ_discrete x ra)) (omega (arith, same, other rb (λ e. n (sym e)))) (λ x. up x (ℕ_discrete x ra)) (λ x m. other x (λ e. m (subst (λ (w : ℕ). get_or par2 w 0 ≡ w) (sym e) root_a)))
        where
          rank' : List ℕ
          rank' = set rank ra (get_or rank ra 0 + 1)

          same : get_or rank' ra 0 ≡ get_or rank ra 0 + 1
          same = get_or-set_same rank ra (get_or rank ra 0 + 1) 0 (rw F.ranks f.inside)

          other : (x : ℕ) → (x ≡ ra → ⊥) → get_or rank' x 0 ≡ get_or rank x 0
          other x m = get_or-set_other rank ra x (get_or rank ra 0 + 1) 0 m

          cap : (x : ℕ) → Dec (x ≡ ra) → get_or rank' x 0 ≤ k + 1
          cap x (yes e) = let q = F.cap ra in rw (e, same) (omega arith)
          cap x (no m) = let q = F.cap x in rw (other x m) (omega arith)

          up : (x : ℕ) → Dec (x ≡ ra) → get_or rank x 0 ≤ get_or rank' x 0
          up x (yes e) = rw (e, same) (omega arith)
          up x (no m) = rw (other x m) (omega arith)
