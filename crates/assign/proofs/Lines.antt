-- What is read of a line, and what is written for it.
use Rattle.std.proofs.Common.{◌≡◌, ℕ, ◌+◌, ◌-◌, ◌<◌, ◌≤◌, List, [], ◌++◌, Some, None, OnOk, IfSome, Result, Ok, Err, arith, length, take, slice_range, sym, ap, ◌∙◌, append-nil, length-take-le, drop_at}
use Rattle.std.specs.declared.option.Option.{Option}
use Rattle.std.specs.Io.KnownBytes.{Appends, Consumes, IsAtEnd}
use borrow.Rule.Slice.PartMut.{put_mid, post_of}
use native.Mathlib.Decide.{dec_lt}
use lib.Seq.{take-add, take-append-le, take_at}
use Rattle.line.specs.Line.{answer_of}
use Rattle.line.proofs.Front.{front_enough}

-- what stands in front, and the part that was read behind it
pub take_split : (a b : ℕ) (old new : List ℕ) → a ≤ b → take a new ≡ take a old → take a old ++ slice_range new a b ≡ take b new
take_split a b old new h front =
    let same : a + (b - a) ≡ b = omega arith in
    ap (λ l. l ++ slice_range new a b) (sym front) ∙ sym (take-add a (b - a) new) ∙ ap (λ n. take n new) same

pub slice_range-put_mid : (a k n : ℕ) (xs ys : List ℕ) → a ≤ length xs → n ≤ length ys → slice_range (put_mid a k xs ys) a (a + n) ≡ take n ys
slice_range-put_mid a k n xs ys within fits =
    let same : (a + n) - a ≡ n = omega arith in
    let after = post_of a k xs in
    ap (take ((a + n) - a)) (drop_at (take a xs) (ys ++ after) a (length-take-le a xs within)) ∙ ap (λ m. take m (ys ++ after)) same ∙ take-append-le n ys after fits

-- the front that was read has the line's answer: nothing stands behind it, or more than a line has
front : (n : ℕ) (buf x y : List ℕ) → length buf ≡ 16385 → n ≤ length buf → x ≡ take n buf ++ y → (n < length buf → y ≡ []) → answer_of (take n buf) ≡ answer_of x
front n buf x y long within e end = go (dec_lt n (length buf))
  where
    go : Dec (n < length buf) → answer_of (take n buf) ≡ answer_of x
    go (yes h) = ap answer_of (sym (e ∙ ap (λ l. take n buf ++ l) (end h) ∙ append-nil (take n buf)))
    go (no h) =
        let m : n ≡ 16385 = omega arith in
        let k : length (take n buf) ≡ n = length-take-le n buf within in
        let t : take 16385 x ≡ take n buf = ap (take 16385) e ∙ take_at (take n buf) y 16385 (k ∙ m) in
        ap answer_of (sym t) ∙ front_enough x

pub said :
    (a b v w : Option (List ℕ)) (n : ℕ) (buf t : List ℕ) → length buf ≡ 16385 → n ≤ length buf → Consumes a b (take n buf) → (n < length buf → IsAtEnd b)
    → t ≡ answer_of (take n buf) → Appends v w t → IfSome a (λ l. Appends v w (answer_of l))
said None b v w n buf t long within read end is wrote = tt
said (Some x) None v w n buf t long within read end is wrote = absurd read
said (Some x) (Some y) None w n buf t long within read end is wrote = tt
said (Some x) (Some y) (Some u) None n buf t long within read end is wrote = absurd wrote
said (Some x) (Some y) (Some u) (Some z) n buf t long within read end is wrote =
    wrote ∙ ap (λ l. u ++ l) (is ∙ front n buf x y long within read end)

pub on_ok : {T E P Q : Type 0} (r : Result T E) → (P → Q) → OnOk r P → OnOk r Q
on_ok (Ok x) f p = f p
on_ok (Err e) f p = p
