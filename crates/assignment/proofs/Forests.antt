-- One step of the disjoint sets: a place pointed further up, and a root put below another.
use mathlib.Core.Path.{◌≡◌, sym, ap, ◌∙◌, subst}
use mathlib.Core.Logic.{◌⊎◌, inl, inr}
use mathlib.Core.Bool.{cond}
use mathlib.Core.List.{List}
use Prim.Native.Nat.{ℕ, ◌+◌, ◌≤◌, ◌<◌}
use native.Mathlib.Decide.{ℕ_discrete}
use native.Mathlib.Omega.{arith}
use borrow.Author.Tests.{eq-eqb, ne_eqb}
use lib.Dec.{eqb}
use lib.ListN.{get_or, set, length, length-set}
use lib.Seq.{get_or-set_same, get_or-set_other}
use Rattle.assignment.specs.Forest.{Forest, Labelled, join_of}

-- ---- a place made to point to its parent's parent
module _ (k : ℕ) (par rank : List ℕ) (x : ℕ) (h : x < 128) (F : Forest k par rank) where
  abbrev grand : ℕ
  grand = get_or par (get_or par x 0) 0

  grand_in : grand < 128
  grand_in = F.within (get_or par x 0) (F.within x h)

  at_x : get_or (set par x grand) x 0 ≡ grand
  at_x = get_or-set_same par x grand 0 (rw F.long h)

  -- a step that is taken goes up in rank
  pub climbs : (get_or par x 0 ≡ x → ⊥) → get_or rank x 0 < get_or rank grand 0
  climbs g = go (ℕ_discrete (get_or par (get_or par x 0) 0) (get_or par x 0)) (F.up x h g) (F.up (get_or par x 0) (F.within x h))
    where
      go : Dec (get_or par (get_or par x 0) 0 ≡ get_or par x 0) → get_or rank x 0 < get_or rank (get_or par x 0) 0 → ((get_or par (get_or par x 0) 0 ≡ get_or par x 0 → ⊥) → get_or rank (get_or par x 0) 0 < get_or rank (get_or par (get_or par x 0) 0) 0) → get_or rank x 0 < get_or rank (get_or par (get_or par x 0) 0) 0
      go (yes e) a b = rw e a
      go (no n) a b = let c = b n in omega arith

  pub halve_forest : (get_or par x 0 ≡ x → ⊥) → Forest k (set par x grand) rank
  halve_forest g =
      record {
        long = length-set par x grand ∙ F.long;
        ranks = F.ranks;
        within = λ y l. in-y y l (ℕ_discrete y x);
        up = λ y l n. up_y y l n (ℕ_discrete y x);
        cap = F.cap;
      }
    where
      in-y : (y : ℕ) → y < 128 → Dec (y ≡ x) → get_or (set par x grand) y 0 < 128
      in-y y l (yes e) = rw (e, at_x) grand_in
      in-y y l (no n) = rw (get_or-set_other par x y grand 0 n) (F.within y l)

      up_y : (y : ℕ) → y < 128 → (get_or (set par x grand) y 0 ≡ y → ⊥) → Dec (y ≡ x) → get_or rank y 0 < get_or rank (get_or (set par x grand) y 0) 0
      up_y y l m (yes e) = rw (e, at_x) (climbs g)
      up_y y l m (no n) = let q = get_or-set_other par x y grand 0 n in rw q (F.up y l (λ z. m (q ∙ z)))

  -- a root after is a root before: x itself is none
  pub halve_roots : (get_or par x 0 ≡ x → ⊥) → (y : ℕ) → y < 128 → get_or (set par x grand) y 0 ≡ y → get_or par y 0 ≡ y
  halve_roots g y l a = was (ℕ_discrete y x)
    where
      loop : get_or (set par x grand) x 0 ≡ x → ⊥
      loop b = let c = climbs g in let d : get_or rank grand 0 ≡ get_or rank x 0 = ap (λ (w : ℕ). get_or rank w 0) (sym at_x ∙ b) in omega arith

      was : Dec (y ≡ x) → get_or par y 0 ≡ y
      was (yes e) = absurd (loop (subst (λ (w : ℕ). get_or (set par x grand) w 0 ≡ w) e a))
      was (no n) = sym (get_or-set_other par x y grand 0 n) ∙ a

  pub halve_stay : (get_or par x 0 ≡ x → ⊥) → (y : ℕ) → y < 128 → get_or par y 0 ≡ y → get_or (set par x grand) y 0 ≡ y
  halve_stay g y l a = get_or-set_other par x y grand 0 (λ e. g (subst (λ (w : ℕ). get_or par w 0 ≡ w) e a)) ∙ a

  pub halve_labels : (get_or par x 0 ≡ x → ⊥) → (label : ℕ → ℕ) → Labelled label par → Labelled label (set par x grand) × (label grand ≡ label x)
  halve_labels g label L =
      (record { same = λ y l. same_y y l (ℕ_discrete y x); one = λ y z l m a b. L.one y z l m (halve_roots g y l a) (halve_roots g z m b) }, lift)
    where
      lift : label grand ≡ label x
      lift = L.same (get_or par x 0) (F.within x h) ∙ L.same x h

      same_y : (y : ℕ) → y < 128 → Dec (y ≡ x) → label (get_or (set par x grand) y 0) ≡ label y
      same_y y l (yes e) = rw (e, at_x) lift
      same_y y l (no n) = rw (get_or-set_other par x y grand 0 n) (L.same y l)

-- ---- labels that agree
pub labels_same : (label label' : ℕ → ℕ) (par : List ℕ) → ((x : ℕ) → x < 128 → get_or par x 0 < 128) → ((x : ℕ) → x < 128 → label' x ≡ label x) → Labelled label par → Labelled label' par
labels_same label label' par w h L =
    record { same = λ x l. h (get_or par x 0) (w x l) ∙ L.same x l ∙ sym (h x l); one = λ x y l m a b e. L.one x y l m a b (sym (h x l) ∙ e ∙ h y m) }

-- ---- the root c put below the root d
abbrev Either : (ℕ → ℕ) → ℕ → ℕ → ℕ → Type 0
Either label c d x = (label x ≡ label c) ⊎ (label x ≡ label d)

module _ (par : List ℕ) (long : length par ≡ 128) (c d : ℕ) (hc : c < 128) (hd : d < 128) (rc : get_or par c 0 ≡ c) (rd : get_or par d 0 ≡ d) (apart : c ≡ d → ⊥) where
  at_c : get_or (set par c d) c 0 ≡ d
  at_c = get_or-set_same par c d 0 (rw long hc)

  module _ (label label' : ℕ → ℕ) (L : Labelled label par) (respects : (x y : ℕ) → label x ≡ label y → label' x ≡ label' y) (meet : label' c ≡ label' d)
      (only : (x y : ℕ) → label' x ≡ label' y → (label x ≡ label y) ⊎ (Either label c d x × Either label c d y)) where
    -- a root after is a root before, and not c
    old : (x : ℕ) → get_or (set par c d) x 0 ≡ x → (x ≡ c → ⊥) × (get_or par x 0 ≡ x)
    old x a = let n : x ≡ c → ⊥ = λ e. apart (sym (sym at_c ∙ subst (λ (w : ℕ). get_or (set par c d) w 0 ≡ w) e a)) in (n, sym (get_or-set_other par c x d 0 n) ∙ a)

    is_d : (x : ℕ) → x < 128 → (x ≡ c → ⊥) → get_or par x 0 ≡ x → Either label c d x → x ≡ d
    is_d x l n r (inl e) = absurd (n (L.one x c l hc r rc e))
    is_d x l n r (inr e) = L.one x d l hd r rd e

    pub link_labels : Labelled label' (set par c d)
    link_labels = record { same = λ x l. same_x x l (ℕ_discrete x c); one = λ x y l m a b e. one_xy x y l m (old x a) (old y b) (only x y e) }
      where
        same_x : (x : ℕ) → x < 128 → Dec (x ≡ c) → label' (get_or (set par c d) x 0) ≡ label' x
        same_x x l (yes e) = rw (e, at_c) (sym meet)
        same_x x l (no n) = rw (get_or-set_other par c x d 0 n) (respects (get_or par x 0) x (L.same x l))

        one_xy : (x y : ℕ) → x < 128 → y < 128 → (x ≡ c → ⊥) × (get_or par x 0 ≡ x) → (y ≡ c → ⊥) × (get_or par y 0 ≡ y) → (label x ≡ label y) ⊎ (Either label c d x × Either label c d y) → x ≡ y
        one_xy x y l m p q (inl e) = L.one x y l m p.1 q.1 e
        one_xy x y l m p q (inr e) = is_d x l p.0 p.1 e.0 ∙ sym (is_d y m q.0 q.1 e.1)

  module _ (k : ℕ) (rank rank' : List ℕ) (F : Forest k par rank) (ranks : length rank' ≡ 128) (cap : (x : ℕ) → get_or rank' x 0 ≤ k + 1) (higher : get_or rank' c 0 < get_or rank' d 0)
      (rises : (x : ℕ) → get_or rank x 0 ≤ get_or rank' x 0) (keeps : (x : ℕ) → (get_or par x 0 ≡ x → ⊥) → get_or rank' x 0 ≡ get_or rank x 0) where
    pub link_forest : Forest (k + 1) (set par c d) rank'
    link_forest = record { long = length-set par c d ∙ long; ranks = ranks; within = λ x l. in-x x l (ℕ_discrete x c); up = λ x l n. up_x x l n (ℕ_discrete x c); cap = cap }
      where
        in-x : (x : ℕ) → x < 128 → Dec (x ≡ c) → get_or (set par c d) x 0 < 128
        in-x x l (yes e) = rw (e, at_c) hd
        in-x x l (no n) = rw (get_or-set_other par c x d 0 n) (F.within x l)

        up_x : (x : ℕ) → x < 128 → (get_or (set par c d) x 0 ≡ x → ⊥) → Dec (x ≡ c) → get_or rank' x 0 < get_or rank' (get_or (set par c d) x 0) 0
        up_x x l n (yes e) = rw (e, at_c) higher
        up_x x l n (no g) =
            let q = get_or-set_other par c x d 0 g in
            let m : get_or par x 0 ≡ x → ⊥ = λ z. n (q ∙ z) in
            rw (q, keeps x m) (omega (arith, F.up x l m, rises (get_or par x 0)))

-- ---- the joined labels
module _ (label : ℕ → ℕ) (a b : ℕ) where
  pub join_on : (x : ℕ) → label x ≡ label b → join_of label a b x ≡ label a
  join_on x e = rw (eq-eqb (label x) (label b) e)

  pub join_off : (x : ℕ) → (label x ≡ label b → ⊥) → join_of label a b x ≡ label x
  join_off x n = rw (ne_eqb (label x) (label b) n)

  pub join_respects : (x y : ℕ) → label x ≡ label y → join_of label a b x ≡ join_of label a b y
  join_respects x y e = ap (λ (l : ℕ). cond (eqb l (label b)) (label a) l) e

  pub join_same : label a ≡ label b → (x : ℕ) → join_of label a b x ≡ label x
  join_same e x = go (ℕ_discrete (label x) (label b))
    where
      go : Dec (label x ≡ label b) → join_of label a b x ≡ label x
      go (yes q) = join_on x q ∙ e ∙ sym q
      go (no q) = join_off x q

  module _ (c d : ℕ) (ends : ((label c ≡ label a) × (label d ≡ label b)) ⊎ ((label c ≡ label b) × (label d ≡ label a))) where
    in-a : (x : ℕ) → label x ≡ label a → Either label c d x
    in-a x e = elim ends [ inl p ↦ inl (e ∙ sym p.0) | inr p ↦ inr (e ∙ sym p.1) ]

    in_b : (x : ℕ) → label x ≡ label b → Either label c d x
    in_b x e = elim ends [ inl p ↦ inr (e ∙ sym p.1) | inr p ↦ inl (e ∙ sym p.0) ]

    on_a : (x : ℕ) → label x ≡ label a → join_of label a b x ≡ label a
    on_a x e = go (ℕ_discrete (label x) (label b))
      where
        go : Dec (label x ≡ label b) → join_of label a b x ≡ label a
        go (yes q) = join_on x q
        go (no q) = join_off x q ∙ e

    pub join_meet : join_of label a b c ≡ join_of label a b d
    join_meet = elim ends [ inl p ↦ on_a c p.0 ∙ sym (join_on d p.1) | inr p ↦ join_on c p.0 ∙ sym (on_a d p.1) ]

    pub join_only : (x y : ℕ) → join_of label a b x ≡ join_of label a b y → (label x ≡ label y) ⊎ (Either label c d x × Either label c d y)
    join_only x y e = go (ℕ_discrete (label x) (label b)) (ℕ_discrete (label y) (label b))
      where
        go : Dec (label x ≡ label b) → Dec (label y ≡ label b) → (label x ≡ label y) ⊎ (Either label c d x × Either label c d y)
        go (yes p) (yes q) = inl (p ∙ sym q)
        go (yes p) (no q) = inr (in_b x p, in-a y (sym (join_off y q) ∙ sym e ∙ join_on x p))
        go (no p) (yes q) = inr (in-a x (sym (join_off x p) ∙ e ∙ join_on y q), in_b y q)
        go (no p) (no q) = inl (sym (join_off x p) ∙ e ∙ join_off y q)
