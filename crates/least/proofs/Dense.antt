-- One group's own table: its padded square has whole entries, and the takers read off the square's rows are those of least weight.
use Rattle.std.specs.Prelude.{None, Option}
use mathlib.Core.Path.{◌≡◌, refl, sym, ap, ap₂, ◌∙◌}
use mathlib.Core.Bool.{Bool, true, false, cond}
use mathlib.Core.List.{List, [], ◌∷◌, ◌++◌, map}
use Prim.Native.Nat.{ℕ, zero, suc, ◌+◌, ◌-◌, ◌*◌, ◌<◌}
use native.Mathlib.Decide.{ℕ_discrete}
use native.Mathlib.Nat.{zero-mul}
use native.Mathlib.Omega.{arith}
use borrow.Author.Tests.{ltb-true, eq-eqb, ne_eqb}
use lib.Dec.{eqb, ltb}
use lib.ListN.{get_or, length, take, drop, length-map, length-drop, get_or-append}
use lib.Seq.{get_or-take, get_or-drop, length-take-le, get_or-append-add}
use lib.Ieee.{Float, nan, fin}
use lib.Ieee.Scale.{finite}
use lib.IntN.{pos}
use Rattle.number.specs.Reply.{given}
use Rattle.whole.specs.Integer.{Integer, 0_z, sum}
use Rattle.whole.specs.Whole.{WholeValue}
use Rattle.whole.specs.Takers.{weight_of, LeastTakes}
use Rattle.kuhn_munkres.specs.Binary64.{float}
use Rattle.kuhn_munkres.specs.Square.{Square, entry}
use Rattle.kuhn_munkres.specs.Steps.{State, found, rows}
use Rattle.kuhn_munkres.specs.Assignment.{in_one, taker_of, takers_in, solved, square_of}
use Rattle.kuhn_munkres.proofs.Kept.{of_found, rows_long}
use Rattle.kuhn_munkres.proofs.Labels.{map_at}
use Rattle.least.proofs.Padding.{padded, taker}

-- ---- places of a table that stands in one list
pub one_at : (T : List (List Float)) (c i j : ℕ) → ((k : ℕ) → k < length T → length (get_or T k []) ≡ c) → i < length T → j < c → get_or (in_one T) (i * c + j) nan ≡ get_or (get_or T i []) j nan
unfolding in_one
one_at [] c i j w h l = absurd (None i h)
  where
    None : (i : ℕ) → i < 0 → ⊥
    None i h = omega arith
one_at (x ∷ T) c zero j w h l =
    let z : 0 * c + j ≡ j = ap (λ (y : ℕ). y + j) (zero-mul c) ∙ (let q : 0 + j ≡ j = omega arith in q) in
    ap (λ (k : ℕ). get_or (x ++ in_one T) k nan) z ∙ get_or-append x (in_one T) nan j (rw (w 0 (omega arith)) l)
one_at (x ∷ T) c (suc i) j w h l =
    let wx : length x ≡ c = w 0 (omega arith) in
    let z : suc i * c + j ≡ length x + (i * c + j) = rw wx (omega arith) in
    ap (λ (k : ℕ). get_or (x ++ in_one T) k nan) z ∙ get_or-append-add x (in_one T) (i * c + j) nan ∙ one_at T c i j (λ k g. w (suc k) (omega arith)) (omega arith) l

-- ---- the square's entries
eqb_suc : (i a b : ℕ) → eqb (suc i) (a + suc b) ≡ eqb i (a + b)
eqb_suc i a b = go (ℕ_discrete i (a + b))
  where
    go : Dec (i ≡ a + b) → eqb (suc i) (a + suc b) ≡ eqb i (a + b)
    go (yes e) = eq-eqb (suc i) (a + suc b) (omega arith) ∙ sym (eq-eqb i (a + b) e)
    go (no g) = ne_eqb (suc i) (a + suc b) (λ e. g (omega arith)) ∙ sym (ne_eqb i (a + b) g)

less : (i : ℕ) → suc i - 1 ≡ i
less i = omega arith

module _ (T : List (List Float)) (r c : ℕ) (long : length T ≡ r) (wide : (i : ℕ) → i < r → length (get_or T i []) ≡ c) (some_row : 0 < r)
    (far rowCost columnCost : Float) (cost : ℕ → ℕ → Integer) (farZ row column : Integer)
    (costs_are : (i j : ℕ) → i < r → j < c → finite (get_or (get_or T i []) j nan) ≡ true → WholeValue (get_or (get_or T i []) j nan) (cost i j))
    (far-is : WholeValue far farZ) (row_is : WholeValue rowCost row) (column_is : WholeValue columnCost column) where
  abbrev q : Square Float
  q = square_of far rowCost columnCost T

  abbrev allowed : ℕ → ℕ → Bool
  allowed i j = finite (get_or (get_or T i []) j nan)

  cols_is : q.cols ≡ c
  cols_is = wide 0 some_row

  zero_is : WholeValue (fin false 0 (pos 0)) 0_z
  zero_is = record { minus = false; mag = 0; val = (refl, refl); is = omega arith }

  either : (b : Bool) (x y : Float) (d e : Integer) → (b ≡ true → WholeValue x d) → (b ≡ false → WholeValue y e) → WholeValue (cond b x y) (cond b d e)
  either true x y d e p q = p refl
  either false x y d e p q = q refl

  pub entry_is : (i j : ℕ) → WholeValue (entry float q (suc i) (suc j)) (padded r c allowed cost row column farZ i j)
  unfolding entry
  entry_is i j =
      rw (long, cols_is, less i, less j, eqb_suc j c i, eqb_suc i r j)
      (either (ltb i r) _ _ _ _
      (λ p. either (ltb j c) _ _ _ _ (λ s. own (ltb-true i r p) (ltb-true j c s)) (λ s. either (eqb j (c + i)) rowCost far row farZ (λ e. row_is) (λ e. far-is)))
      (λ p. either (ltb j c) _ _ _ _ (λ s. either (eqb i (r + j)) columnCost far column farZ (λ e. column_is) (λ e. far-is)) (λ s. zero_is)))
    where
      own : i < r → j < c → WholeValue (cond (finite (get_or (in_one T) (i * c + j) nan)) (get_or (in_one T) (i * c + j) nan) far) (cond (allowed i j) (cost i j) farZ)
      own h l = rw (one_at T c i j (λ k g. wide k (rw long at g)) (rw long h) l) (either (allowed i j) (get_or (get_or T i []) j nan) far (cost i j) farZ (λ e. costs_are i j h l e) (λ e. far-is))

  -- ---- what is read off the square
  abbrev n : ℕ
  n = r + c

  module _ (s : State Float) (p : ℕ → ℕ) (few : n < 129) (is : rows float (entry float q) n n ≡ found s) (at : (j : ℕ) → j < n → get_or s.p (suc j) 0 ≡ suc (p j)) where
    pub own : List (Option ℕ)
    own = map (taker_of r) (take c (drop 1 s.p))

    p_long : length s.p ≡ 129
    p_long = of_found float (λ t. length t.p ≡ 129) (rows float (entry float q) n n) s is (rows_long float (entry float q) n n)

    front_long : length (take c (drop 1 s.p)) ≡ c
    front_long = length-take-le c (drop 1 s.p) (rw (length-drop 1 s.p, p_long) (omega arith))

    pub own_long : length own ≡ c
    unfolding own
    own_long = length-map (take c (drop 1 s.p)) (taker_of r) ∙ front_long

    pub own_at : (j : ℕ) → j < c → get_or own j None ≡ taker r p j
    unfolding own taker_of
    own_at j h =
        map_at (taker_of r) (take c (drop 1 s.p)) j 0 None (rw front_long h)
        ∙ ap (taker_of r) (get_or-take c (drop 1 s.p) j 0 h ∙ get_or-drop 1 s.p j 0 ∙ ap (λ (i : ℕ). get_or s.p i 0) (one_plus j) ∙ at j (omega arith))
      where
        one_plus : (j : ℕ) → 1 + j ≡ suc j
        one_plus j = omega arith

    pub solved_is : solved float q ≡ given own
    unfolding solved own
    solved_is = ap₂ (λ (a b : ℕ). takers_in q (rows float (entry float q) (a + b) (a + b))) long cols_is ∙ ap (takers_in q) is ∙ (unfold takers_in in (rw (long, cols_is)))

-- the same takers at every column
sum_alike : (f g : ℕ → Integer) (m : ℕ) → ((j : ℕ) → j < m → f j ≡ g j) → sum f m ≡ sum g m
unfolding sum
sum_alike f g zero h = refl
sum_alike f g (suc m) h = rw (sum_alike f g m (λ j l. h j (omega arith)), h m (omega arith))

pub least_alike : (allowed : ℕ → ℕ → Bool) (cost : ℕ → ℕ → Integer) (row column : Integer) (n m : ℕ) (t t' : ℕ → Option ℕ) → ((j : ℕ) → j < m → t' j ≡ t j)
    → LeastTakes allowed cost row column n m t → LeastTakes allowed cost row column n m t'
least_alike allowed cost row column n m t t' e L = record {
  takes = record {
    row_in_lem = λ j i h w. L.takes.row_in_lem j i h (sym (e j h) ∙ w);
    may = λ j i h w. L.takes.may j i h (sym (e j h) ∙ w);
    once = λ j k i h l w v. L.takes.once j k i h l (sym (e j h) ∙ w) (sym (e k l) ∙ v);
  };
  least = λ other O. rw (sum_alike (λ j. weight_of cost row column j (t' j)) (λ j. weight_of cost row column j (t j)) m (λ j h. ap (weight_of cost row column j) (e j h))) (L.least other O);
}
