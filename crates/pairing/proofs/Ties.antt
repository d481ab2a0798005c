-- What answers that are laid say of `each`. Assumes nothing.
use mathlib.Core.Path.{◌≡◌, refl, sym, ap, ◌∙◌}
use mathlib.Core.List.{List}
use Prim.Native.Nat.{ℕ}
use lib.Seq.{sets}
use Rattle.number.specs.Reply.{Reply, refused, given, and_then}
use Rattle.lists.specs.Each.{each}
use Rattle.number.proofs.Replies.{never_given}
use Rattle.pairing.specs.Laid.{Laid}
use Rattle.pairing.proofs.Laying.{front_all}

-- whether all were given
abbrev done : {B : Type 0} → Reply (List B) → Reply (Unit {0})
done r = and_then r (λ m. given tt)

same_number : (a b : ℕ) → ◌≡◌ {A = Reply (Unit {0})} (refused a) (refused b) → a ≡ b
same_number a b q = cc

-- all were given: their answers stand from k on
pub laid_given : {A B : Type 0} (f : A → Reply B) (l : List A) (k : ℕ) (before after : List B) → Laid f l k (given tt) before after → (m : List B) × (each f l ≡ given m) × (after ≡ sets before k m)
laid_given {A} {B} f l k before after h = go (each f l) refl
  where
    go : (r : Reply (List B)) → each f l ≡ r → (m : List B) × (each f l ≡ given m) × (after ≡ sets before k m)
    go (refused n) e = never_given n tt (sym (h.is ∙ ap done e))
    go (given m) e = (m, e, h.content ∙ ap (sets before k) (front_all f l m e))

-- one was refused: so is the whole
pub laid_refused : {A B : Type 0} (f : A → Reply B) (l : List A) (k n : ℕ) (before after : List B) → Laid f l k (refused n) before after → each f l ≡ refused n
laid_refused {A} {B} f l k n before after h = go (each f l) refl h.is
  where
    go : (r : Reply (List B)) → each f l ≡ r → refused n ≡ done (each f l) → each f l ≡ refused n
    go (refused j) e w = e ∙ sym (ap {B = Reply (List B)} refused (same_number n j (w ∙ ap done e)))
    go (given m) e w = never_given n tt (w ∙ ap done e)
