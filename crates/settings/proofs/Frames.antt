-- Frames compared by their lengths and then by their bytes. Assumes nothing.
use Rattle.std.specs.Prelude.{None, Some}
use mathlib.Core.Path.{◌≡◌, refl, sym, ◌∙◌}
use mathlib.Core.Bool.{Bool, true, false, cond}
use Prim.Native.Nat.{◌≤◌, ◌<◌}
use native.Mathlib.Omega.{arith}
use lib.Dec.{ltb}
use lib.ListN.{length, take}
use lib.Seq.{length-take-le}
use borrow.Author.Tests.{lt-ltb, le-ltb, ltb-false}
use Rattle.lists.specs.Same.{same}
use Rattle.lists.proofs.Sames.{same_length}
use Rattle.settings.specs.declared.frame.FrameName.{FrameName}
use Rattle.settings.specs.Frame.{name_of, same_name, same_frame}

pub too_long_lem : (a b : FrameName) → 32 < a.length → false ≡ same_frame a b
unfolding same_frame name_of
too_long_lem a b h = rw (lt-ltb 32 a.length h) refl

pub one_length : (a b : FrameName) → a.length ≤ 32 → a.length ≡ b.length → same (take a.length a.bytes) (take a.length b.bytes) ≡ same_frame a b
unfolding same_frame name_of
one_length a b h e = rw (sym e, le-ltb 32 a.length h) refl

pub two_lengths : (a b : FrameName) → length a.bytes ≡ 32 → length b.bytes ≡ 32 → a.length ≤ 32 → (a.length ≡ b.length → ⊥) → false ≡ same_frame a b
unfolding same_frame name_of
two_lengths a b la lb h d = rw (le-ltb 32 a.length h) (go (ltb 32 b.length) refl)
  where
    go : (t : Bool) → ltb 32 b.length ≡ t → false ≡ same_name (Some (take a.length a.bytes)) (cond t None (Some (take b.length b.bytes)))
    go true e = refl
    go false e =
        sym (same_length (take a.length a.bytes) (take b.length b.bytes)
        (λ q. d (sym (length-take-le a.length a.bytes (omega arith)) ∙ q ∙ length-take-le b.length b.bytes (omega (arith, ltb-false 32 b.length e)))))
