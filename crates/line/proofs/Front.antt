-- What stands behind the first 16,385 bytes changes no answer: so many are read.
use mathlib.Core.Path.{◌≡◌, sym, ap, ◌∙◌}
use mathlib.Core.List.{List}
use Prim.Native.Nat.{ℕ, ◌<◌}
use native.Mathlib.Decide.{dec_lt}
use native.Mathlib.Omega.{arith}
use borrow.Author.Tests.{lt-ltb}
use lib.ListN.{length, take}
use lib.Seq.{length-take-le, take_all}
use Rattle.number.specs.Reply.{refused}
use Rattle.text.specs.Text.{text_of}
use Rattle.line.specs.Line.{formed, reply_to, answer_of}

too_long_lem : (l : List ℕ) → 16384 < length l → reply_to l ≡ refused 13
unfolding reply_to formed
too_long_lem l h = rw (lt-ltb 16384 (length l) h)

pub front_enough : (l : List ℕ) → answer_of (take 16385 l) ≡ answer_of l
unfolding answer_of
front_enough l = go (dec_lt 16384 (length l))
  where
    go : Dec (16384 < length l) → text_of (reply_to (take 16385 l)) ≡ text_of (reply_to l)
    go (yes h) =
        let e : length (take 16385 l) ≡ 16385 = length-take-le 16385 l (omega arith) in
        ap text_of (too_long_lem (take 16385 l) (omega arith) ∙ sym (too_long_lem l h))
    go (no h) = ap (λ (k : List ℕ). text_of (reply_to k)) (take_all 16385 l (omega arith))
