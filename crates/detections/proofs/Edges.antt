-- 01, Checked on the floor: "Distance equal to the gate pairs; the next double doesn't", for every distance and every double past the gate. Assumes nothing.
use Rattle.std.specs.Prelude.{Option}
use Rattle.detections.specs.declared.pairs.ClassPrior.{ClassPrior}
use mathlib.Core.Path.{◌≡◌, refl, sym, ap, ◌∙◌}
use mathlib.Core.Bool.{Bool, true, false, ◌&&◌, ◌||◌, beq}
use Prim.Native.Nat.{ℕ, ◌+◌, ◌*◌}
use native.Mathlib.Omega.{arith}
use lib.Dec.{eqb}
use lib.Ieee.{Float, nan, inf, fin, up, down, below, level, lt, eq, le}
use lib.Ieee.Scale.{finite}
use borrow.Author.Tests.{ltb-true, le-ltb, eqb-true, eq-eqb, ne_eqb}
use Rattle.number.proofs.Zeros.{impossible}
use Rattle.detections.specs.declared.pairs.PairConfig.{PairConfig}
use Rattle.detections.specs.declared.pairs.Rule.TheVariants.{Gate}
use Rattle.detections.specs.declared.pairs.Ruling.TheVariants.{Forbidden}
use Rattle.detections.specs.Pairs.{penalized, priced, gated}
use Rattle.detections.proofs.Rules.{within_gate, beyond_gate}

-- ---- the order of doubles

or_true : (b : Bool) → (b || true) ≡ true
or_true true = refl
or_true false = refl

same_sign : (s b : Bool) → (beq s s || b) ≡ true
same_sign true b = refl
same_sign false b = refl

level_itself : (s : Bool) (a : ℕ) → level s a s a ≡ true
level_itself s a = rw (eq-eqb a a refl) (same_sign s (eqb a 0))

pub le_itself : (x : Float) → finite x ≡ true → le x x ≡ true
unfolding le lt eq
le_itself nan p = impossible p
le_itself (inf s) p = impossible p
le_itself (fin s m e) p = rw (level_itself s (m * up e * down e)) (or_true (below s (m * up e * down e) s (m * up e * down e)))

turned : (s : Bool) (a : ℕ) (t : Bool) (b : ℕ) → below s a t b ≡ true → (below t b s a || level t b s a) ≡ false
turned false a false b p = rw (le-ltb b a (omega (arith, ltb-true a b p)), ne_eqb b a (λ e. omega (arith, ltb-true a b p, e)))
turned false a true b p = impossible p
turned true a false b p = go (eqb b a) (eqb b 0) refl refl
  where
    go : (x y : Bool) → eqb b a ≡ x → eqb b 0 ≡ y → (x && y) ≡ false
    go true true e f = absurd (omega (arith, eqb-true b a e, eqb-true b 0 f, ltb-true 0 (a + b) p))
    go true false e f = refl
    go false y e f = refl
turned true a true b p = rw (le-ltb a b (omega (arith, ltb-true b a p)), ne_eqb b a (λ e. omega (arith, ltb-true b a p, e)))

pub past_not_le : (x y : Float) → lt x y ≡ true → le y x ≡ false
unfolding le lt eq
past_not_le nan y p = impossible p
past_not_le (inf s) nan p = impossible p
past_not_le (inf true) (inf true) p = impossible p
past_not_le (inf true) (inf false) p = refl
past_not_le (inf false) (inf t) p = impossible p
past_not_le (inf true) (fin t n d) p = refl
past_not_le (inf false) (fin t n d) p = impossible p
past_not_le (fin s m e) nan p = impossible p
past_not_le (fin s m e) (inf true) p = impossible p
past_not_le (fin s m e) (inf false) p = refl
past_not_le (fin s m e) (fin t n d) p = turned s (m * up e * down d) t (n * up d * down e) p

-- ---- the gate

module _ (c : PairConfig) (prior : Option ClassPrior) (seen : Option ℕ) (d : Float) where
  pub gate_met : finite d ≡ true → c.gate_squared_mahalanobis ≡ d → gated c prior seen d ≡ priced (penalized c.class_prior_penalty prior seen d)
  gate_met f e = sym (within_gate c prior seen d (ap (le d) e ∙ le_itself d f))

  pub gate_passed : lt c.gate_squared_mahalanobis d ≡ true → gated c prior seen d ≡ Forbidden Gate
  gate_passed p = sym (beyond_gate c prior seen d (past_not_le c.gate_squared_mahalanobis d p))
