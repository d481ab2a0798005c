-- Bytes put one after the other, and the texts that they make.
use mathlib.Core.Path.{◌≡◌, refl, ap, sym, ◌∙◌}
use mathlib.Core.Bool.{Bool, true, false, cond}
use mathlib.Core.List.{List, [], ◌∷◌, ◌++◌, append_assoc, append-nil}
use Prim.Native.Nat.{ℕ, zero, suc, ◌+◌, ◌<◌, ◌≤◌, ◌/◌, ◌%◌}
use native.Mathlib.Numerals.{add-one}
use native.Mathlib.Omega.{arith}
use borrow.Author.Tests.{lt-ltb, le-ltb}
use lib.Dec.{ltb}
use lib.ListN.{length, take, drop, get_or, length-append}
use lib.Seq.{length-take-le, take_at, take-suc}
use Rattle.forms.specs.Bytes.{bytes_of}
use Rattle.kuhn_munkres.specs.Assignment.{Pair, Pairs}
use Rattle.lists.specs.Lay.{lay}
use Rattle.lists.specs.Masks.{zipped}
use Rattle.assignment.specs.Listing.{pair_of}
use Rattle.text.specs.declared.bytes.Text.{Text}
use Rattle.text.specs.Text.{Wrote, Puts, Written, written, digits_of, item_text, list_text, pair_text, pairs_text, unmatched_text, refused_text, answer_text, roomed}

-- ---- bytes put behind bytes
pub puts_then : {u v : List ℕ} {a b c : Text} → Puts u a b → Puts v b c → Puts (u ++ v) a c
puts_then {u} {v} {a} {b} {c} x y =
    record {
      place = let e = length-append u v in let f = x.place in let g = y.place in omega arith;
      long = y.long ∙ x.long;
      holds = y.holds ∙ ap (λ (l : List ℕ). l ++ v) x.holds ∙ append_assoc (written a) u v;
    }

pub puts_same : {u v : List ℕ} {a b : Text} → u ≡ v → Puts u a b → Puts v a b
puts_same e x = rw e at x

pub puts_none : (a : Text) → Puts [] a a
puts_none a = record { place = omega arith; long = refl; holds = sym (append-nil (written a)) }

-- the first that is put, into a text that holds nothing
pub puts_first : {u : List ℕ} {a b : Text} → a.len ≡ 0 → length a.bytes ≡ 1024 → b.len ≤ 1024 → Puts u a b → Written u b
puts_first {u} {a} {b} e f g x = record { long = x.long ∙ f; room = g; holds = x.holds ∙ ap (λ (n : ℕ). take n a.bytes ++ u) e }

-- a text copied into a buffer
pub wrote_none : (o : List ℕ) → Wrote [] o 0 o
unfolding lay
wrote_none o = record { place = refl; holds = refl }

-- ---- digits
pub digits_one : (n : ℕ) → n < 10 → (48 + n % 10) ∷ [] ≡ digits_of n
unfolding digits_of
digits_one n h = let e : n % 10 ≡ n = omega arith in rw (lt-ltb n 10 h, e)

pub digits_two : (n : ℕ) → 10 ≤ n → (48 + n / 10 % 10) ∷ (48 + n % 10) ∷ [] ≡ digits_of n
unfolding digits_of
digits_two n h = rw (le-ltb n 10 h)

pub digits_short : (n : ℕ) → length (digits_of n) ≤ 2
unfolding digits_of
digits_short n = go (ltb n 10)
  where
    go : (t : Bool) → length (cond t ((48 + n) ∷ []) ((48 + n / 10 % 10) ∷ (48 + n % 10) ∷ [])) ≤ 2
    go true = omega arith
    go false = omega arith

pub item_is : (n : ℕ) → (32 ∷ []) ++ digits_of n ≡ item_text n
unfolding item_text bytes_of
item_is n = refl

pub pair_is : (i j : ℕ) → (32 ∷ 40 ∷ []) ++ digits_of i ++ item_text j ++ (41 ∷ []) ≡ pair_text (pair_of i j)
unfolding pair_text bytes_of
pair_is i j = refl

pub refused_is : (n : ℕ) → (40 ∷ 114 ∷ 101 ∷ 102 ∷ 117 ∷ 115 ∷ 101 ∷ 100 ∷ 32 ∷ []) ++ digits_of n ++ (41 ∷ 10 ∷ []) ≡ refused_text n
unfolding refused_text bytes_of
refused_is n = refl

-- ---- lists, one more
list_append : (a b : List ℕ) → list_text (a ++ b) ≡ list_text a ++ list_text b
unfolding list_text
list_append [] b = refl
list_append (n ∷ a) b = rw (list_append a b) (sym (append_assoc (item_text n) (list_text a) (list_text b)))

pub list_more : (l : List ℕ) (i : ℕ) → i < length l → list_text (take i l) ++ item_text (get_or l i 0) ≡ list_text (take (i + 1) l)
unfolding list_text
list_more l i h = sym (rw (add-one, take-suc l i 0 h, list_append (take i l) (get_or l i 0 ∷ []), append-nil (item_text (get_or l i 0))))

pairs_append : (a b : List Pair) → pairs_text (a ++ b) ≡ pairs_text a ++ pairs_text b
unfolding pairs_text
pairs_append [] b = refl
pairs_append (p ∷ a) b = rw (pairs_append a b) (sym (append_assoc (pair_text p) (pairs_text a) (pairs_text b)))

zip_more : (a b : List ℕ) (i : ℕ) → i < length a → i < length b → zipped pair_of (take (suc i) a) (take (suc i) b) ≡ zipped pair_of (take i a) (take i b) ++ (pair_of (get_or a i 0) (get_or b i 0) ∷ [])
unfolding zipped
zip_more [] b i h g = absurd (omega arith)
zip_more (x ∷ a) [] i h g = absurd (omega arith)
zip_more (x ∷ a) (y ∷ b) zero h g = refl
zip_more (x ∷ a) (y ∷ b) (suc i) h g = rw (zip_more a b i (omega arith) (omega arith))

pub pairs_more : (a b : List ℕ) (i : ℕ) → i < length a → i < length b
    → pairs_text (zipped pair_of (take i a) (take i b)) ++ pair_text (pair_of (get_or a i 0) (get_or b i 0)) ≡ pairs_text (zipped pair_of (take (i + 1) a) (take (i + 1) b))
unfolding pairs_text
pairs_more a b i h g = sym (rw (add-one, zip_more a b i h g, pairs_append (zipped pair_of (take i a) (take i b)) (pair_of (get_or a i 0) (get_or b i 0) ∷ []), append-nil (pair_text (pair_of (get_or a i 0) (get_or b i 0)))))

-- ---- the answer
pub unmatched_is : (rows columns : List ℕ)
    → (41 ∷ 32 ∷ 40 ∷ 114 ∷ 111 ∷ 119 ∷ 115 ∷ []) ++ list_text rows ++ (41 ∷ 32 ∷ 40 ∷ 99 ∷ 111 ∷ 108 ∷ 117 ∷ 109 ∷ 110 ∷ 115 ∷ []) ++ list_text columns ++ (41 ∷ 41 ∷ 10 ∷ []) ≡ unmatched_text rows columns
unfolding unmatched_text bytes_of
unmatched_is rows columns = refl

pub answer_is : (a : Pairs) → (40 ∷ 97 ∷ 110 ∷ 115 ∷ 119 ∷ 101 ∷ 114 ∷ 32 ∷ 40 ∷ 112 ∷ 97 ∷ 105 ∷ 114 ∷ 115 ∷ []) ++ pairs_text a.pairs ++ unmatched_text a.rows a.columns ≡ answer_text a
unfolding answer_text bytes_of
answer_is a = refl

pub wrote_same : {t u o : List ℕ} {r : ℕ} {o' : List ℕ} → t ≡ u → Wrote t o r o' → Wrote u o r o'
wrote_same e w = rw e at w

-- the text copied into a buffer
pub copied : (t : Text) (o w : List ℕ) → t.len ≤ length t.bytes → w ≡ written t → Wrote (written t) o t.len (w ++ drop t.len o)
unfolding lay
copied t o w h e =
    let k : length (written t) ≡ t.len = length-take-le t.len t.bytes h in
    record { place = sym k; holds = ap (λ (l : List ℕ). l ++ drop t.len o) e ∙ ap (λ (n : ℕ). written t ++ drop n o) (sym k) }

-- ---- room
pub no_room : (n : ℕ) (t : List ℕ) → n < 1024 → [] ≡ roomed n t
unfolding roomed
no_room n t h = rw (lt-ltb n 1024 h)

pub room : (n : ℕ) (t : List ℕ) → 1024 ≤ n → t ≡ roomed n t
unfolding roomed
room n t h = rw (le-ltb n 1024 h)

pub wrote_in : (n : ℕ) {t u o : List ℕ} {r : ℕ} {o' : List ℕ} → t ≡ u → Wrote (roomed n t) o r o' → Wrote (roomed n u) o r o'
wrote_in n e w = wrote_same (ap (roomed n) e) w

-- what was written lies within the buffer
pub wrote_fits : {t o : List ℕ} {r : ℕ} {o' : List ℕ} → Wrote t o r o' → r ≤ length o'
unfolding lay
wrote_fits {t} {o} {r} {o'} w =
    let e : length o' ≡ length t + length (drop (length t) o) = ap length w.holds ∙ length-append t (drop (length t) o) in
    let p : r ≡ length t = w.place in
    omega arith

-- what was written where there is room
pub wrote_front : (n : ℕ) {t o : List ℕ} {r : ℕ} {o' : List ℕ} → 1024 ≤ n → Wrote (roomed n t) o r o' → take r o' ≡ t
unfolding lay
wrote_front n {t} {o} {r} {o'} h w =
    let e : t ≡ roomed n t = room n t h in
    let k : r ≡ length t = w.place ∙ ap length (sym e) in
    ap (λ i. take i o') k ∙ ap (take (length t)) (w.holds ∙ ap (λ l. lay l o) (sym e)) ∙ take_at t (drop (length t) o) (length t) refl
