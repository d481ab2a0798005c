-- Laws of masks: what is left of a list, of two masks one after another, and what is put back. Assumes nothing.
use Rattle.std.specs.Prelude.{None, Option}
use mathlib.Core.Path.{◌≡◌, refl, sym, ap, ◌∙◌}
use mathlib.Core.List.{List, [], ◌∷◌, ◌++◌, map}
use mathlib.Core.Bool.{Bool, true, false, cond, true≢false}
use Prim.Native.Nat.{ℕ, zero, suc, ◌+◌, ◌≤◌, ◌<◌}
use native.Mathlib.Decide.{ℕ_discrete}
use native.Mathlib.Omega.{arith}
use borrow.Author.Tests.{eq-eqb, ne_eqb}
use lib.Dec.{eqb}
use lib.ListN.{length, get_or, replicate}
use Rattle.lists.specs.First.{any}
use Rattle.lists.specs.Masks.{left_by, spread, Struck, Absent, Every, count, up_from, zipped}

-- the mask strikes here
abbrev pub Out : Bool → Type 0
Out b = b ≡ false

-- ---- what is left

module _ {A B : Type 0} where
  pub map_left : (f : A → B) (k : List Bool) (l : List A) → map f (left_by k l) ≡ left_by k (map f l)
  unfolding left_by
  map_left f [] l = refl
  map_left f (b ∷ k) [] = refl
  map_left f (true ∷ k) (x ∷ l) = ap {B = List B} (λ r. f x ∷ r) (map_left f k l)
  map_left f (false ∷ k) (x ∷ l) = map_left f k l

module _ {A B C : Type 0} where
  pub zipped_left : (f : A → B → C) (k : List Bool) (a : List A) (l : List B) → left_by k (zipped f a l) ≡ zipped f (left_by k a) (left_by k l)
  unfolding left_by zipped
  zipped_left f [] a l = refl
  zipped_left f (b ∷ k) [] l = refl
  zipped_left f (true ∷ k) (x ∷ a) [] = refl
  zipped_left f (false ∷ k) (x ∷ a) [] = sym (zipped_nil (left_by k a))
    where
      zipped_nil : (a : List A) → zipped f a [] ≡ []
      zipped_nil [] = refl
      zipped_nil (x ∷ a) = refl
  zipped_left f (true ∷ k) (x ∷ a) (y ∷ l) = ap {B = List C} (λ r. f x y ∷ r) (zipped_left f k a l)
  zipped_left f (false ∷ k) (x ∷ a) (y ∷ l) = zipped_left f k a l

module _ {A : Type 0} where
  pub left_nil : (k : List Bool) → ◌≡◌ {A = List A} (left_by k []) []
  unfolding left_by
  left_nil [] = refl
  left_nil (b ∷ k) = refl

  -- two masks, in either order
  pub left_left : (m k : List Bool) (l : List A) → left_by (left_by m k) (left_by m l) ≡ left_by (left_by k m) (left_by k l)
  unfolding left_by
  left_left [] [] l = refl
  left_left [] (c ∷ k) l = refl
  left_left (b ∷ m) [] l = refl
  left_left (b ∷ m) (c ∷ k) [] = left_nil (left_by (b ∷ m) (c ∷ k)) ∙ sym (left_nil (left_by (c ∷ k) (b ∷ m)))
  left_left (true ∷ m) (true ∷ k) (x ∷ l) = ap {B = List A} (λ r. x ∷ r) (left_left m k l)
  left_left (true ∷ m) (false ∷ k) (x ∷ l) = left_left m k l
  left_left (false ∷ m) (true ∷ k) (x ∷ l) = left_left m k l
  left_left (false ∷ m) (false ∷ k) (x ∷ l) = left_left m k l

  pub struck_length : (R : A → Type 0) (k : List Bool) (l : List A) → Struck R k l → length k ≡ length l
  unfolding Struck
  struck_length R [] [] h = refl
  struck_length R [] (x ∷ l) h = absurd h
  struck_length R (b ∷ k) [] h = absurd h
  struck_length R (true ∷ k) (x ∷ l) h = ap suc (struck_length R k l h)
  struck_length R (false ∷ k) (x ∷ l) h = ap suc (struck_length R k l h.1)

  pub count_left : (k : List Bool) (l : List A) → length k ≡ length l → length (left_by k l) ≡ count k
  unfolding left_by count
  count_left [] l e = refl
  count_left (b ∷ k) [] e = absurd (omega arith)
  count_left (true ∷ k) (x ∷ l) e = ap suc (count_left k l (omega arith))
  count_left (false ∷ k) (x ∷ l) e = count_left k l (omega arith)

  -- a mask over what another leaves
  pub struck_left : (R : A → Type 0) (m k : List Bool) (l : List A) → length m ≡ length k → Struck R k l → Struck R (left_by m k) (left_by m l)
  unfolding Struck left_by
  struck_left R [] k l e h = tt
  struck_left R (b ∷ m) [] l e h = absurd (omega arith)
  struck_left R (b ∷ m) (c ∷ k) [] e h = absurd (go c h)
    where
      go : (c : Bool) → Struck R (c ∷ k) [] → ⊥
      go c h = h
  struck_left R (true ∷ m) (true ∷ k) (x ∷ l) e h = struck_left R m k l (omega arith) h
  struck_left R (true ∷ m) (false ∷ k) (x ∷ l) e h = (h.0, struck_left R m k l (omega arith) h.1)
  struck_left R (false ∷ m) (true ∷ k) (x ∷ l) e h = struck_left R m k l (omega arith) h
  struck_left R (false ∷ m) (false ∷ k) (x ∷ l) e h = struck_left R m k l (omega arith) h.1

  pub every_left : (R : A → Type 0) (m : List Bool) (l : List A) → Every R l → Every R (left_by m l)
  unfolding Every left_by
  every_left R [] l h = tt
  every_left R (b ∷ m) [] h = tt
  every_left R (true ∷ m) (x ∷ l) h = (h.0, every_left R m l h.1)
  every_left R (false ∷ m) (x ∷ l) h = every_left R m l h.1

  pub left_shorter : (k : List Bool) (l : List A) → length (left_by k l) ≤ length l
  unfolding left_by
  left_shorter [] l = omega arith
  left_shorter (b ∷ k) [] = omega arith
  left_shorter (true ∷ k) (x ∷ l) = omega (arith, left_shorter k l)
  left_shorter (false ∷ k) (x ∷ l) = omega (arith, left_shorter k l)

  -- one element more, and its mark
  pub left_more : (k : List Bool) (l : List A) (b : Bool) (x : A) → length k ≡ length l → left_by (k ++ (b ∷ [])) (l ++ (x ∷ [])) ≡ left_by k l ++ cond b (x ∷ []) []
  unfolding left_by
  left_more [] [] true x e = refl
  left_more [] [] false x e = refl
  left_more [] (y ∷ l) b x e = absurd (omega arith)
  left_more (a ∷ k) [] b x e = absurd (omega arith)
  left_more (true ∷ k) (y ∷ l) b x e = ap {B = List A} (λ r. y ∷ r) (left_more k l b x (omega arith))
  left_more (false ∷ k) (y ∷ l) b x e = left_more k l b x (omega arith)

  -- a mask that strikes all
  pub all_struck : (k : List Bool) (l : List A) → Every Out k → left_by k l ≡ []
  unfolding left_by Every
  all_struck [] l h = refl
  all_struck (b ∷ k) [] h = refl
  all_struck (true ∷ k) (x ∷ l) h = absurd (true≢false h.0)
  all_struck (false ∷ k) (x ∷ l) h = all_struck k l h.1

-- ---- how many stay

pub count_most : (k : List Bool) → count k ≤ length k
unfolding count
count_most [] = omega arith
count_most (true ∷ k) = omega (arith, count_most k)
count_most (false ∷ k) = omega (arith, count_most k)

pub count_swap : (m k : List Bool) → length m ≡ length k → count (left_by m k) ≡ count (left_by k m)
unfolding left_by count
count_swap [] [] e = refl
count_swap [] (c ∷ k) e = refl
count_swap (b ∷ m) [] e = refl
count_swap (true ∷ m) (true ∷ k) e = ap suc (count_swap m k (omega arith))
count_swap (true ∷ m) (false ∷ k) e = count_swap m k (omega arith)
count_swap (false ∷ m) (true ∷ k) e = count_swap m k (omega arith)
count_swap (false ∷ m) (false ∷ k) e = count_swap m k (omega arith)

-- ---- what holds of every one, and of those that are struck

module _ {A B : Type 0} where
  pub every_map : (R : A → Type 0) (S : B → Type 0) (f : A → B) → ((x : A) → R x → S (f x)) → (l : List A) → Every R l → Every S (map f l)
  unfolding Every
  every_map R S f g [] h = tt
  every_map R S f g (x ∷ l) h = (g x h.0, every_map R S f g l h.1)

module _ {A : Type 0} where
  pub struck_map : (R S : A → Type 0) → ((x : A) → R x → S x) → (k : List Bool) (l : List A) → Struck R k l → Struck S k l
  unfolding Struck
  struck_map R S f [] [] h = tt
  struck_map R S f [] (x ∷ l) h = absurd h
  struck_map R S f (b ∷ k) [] h = absurd h
  struck_map R S f (true ∷ k) (x ∷ l) h = struck_map R S f k l h
  struck_map R S f (false ∷ k) (x ∷ l) h = (f x h.0, struck_map R S f k l h.1)

-- ---- maps, and the numbers of places

module _ {A : Type 0} where
  pub map_map : {B C : Type 0} (f : A → B) (g : B → C) (h : A → C) → ((x : A) → g (f x) ≡ h x) → (l : List A) → map g (map f l) ≡ map h l
  map_map f g h e [] = refl
  map_map f g h e (x ∷ l) = rw (e x, map_map f g h e l)

  pub up_from_map : {B : Type 0} (f : A → B) (i : ℕ) (l : List A) → up_from i (map f l) ≡ up_from i l
  unfolding up_from
  up_from_map f i [] = refl
  up_from_map f i (x ∷ l) = ap {B = List ℕ} (λ r. i ∷ r) (up_from_map f (suc i) l)

pub up_at : {A : Type 0} (k : ℕ) (l : List A) (i : ℕ) → i < length l → get_or (up_from k l) i 0 ≡ k + i
unfolding up_from
up_at k [] i h = absurd (omega arith)
up_at k (x ∷ l) zero h = omega arith
up_at k (x ∷ l) (suc i) h = let r = up_at (suc k) l i (omega arith) in omega arith

pub up_long : {A : Type 0} (k : ℕ) (l : List A) → length (up_from k l) ≡ length l
unfolding up_from
up_long k [] = refl
up_long k (x ∷ l) = ap suc (up_long (suc k) l)

-- a number from k on is among them
pub any_up : {A : Type 0} (k : ℕ) (l : List A) (g : ℕ) → k ≤ g → g < k + length l → any (eqb g) (up_from k l) ≡ true
unfolding any up_from
any_up k [] g h q = absurd (omega arith)
any_up k (x ∷ l) g h q = go (ℕ_discrete g k) (λ f. any_up (suc k) l g f (omega arith))
  where
    go : Dec (g ≡ k) → (suc k ≤ g → any (eqb g) (up_from (suc k) l) ≡ true) → cond (eqb g k) true (any (eqb g) (up_from (suc k) l)) ≡ true
    go (yes e) ih = rw (eq-eqb g k e)
    go (no f) ih = rw (ne_eqb g k f) (ih (omega arith))

-- ---- two lists, element by element

pub zipped_at : {A B C : Type 0} (f : A → B → C) (xs : List A) (ys : List B) (j : ℕ) (a : A) (b : B) (c : C) → j < length xs → j < length ys → get_or (zipped f xs ys) j c ≡ f (get_or xs j a) (get_or ys j b)
unfolding zipped
zipped_at f [] ys j a b c h g = absurd (omega arith)
zipped_at f (x ∷ xs) [] j a b c h g = absurd (omega arith)
zipped_at f (x ∷ xs) (y ∷ ys) zero a b c h g = refl
zipped_at f (x ∷ xs) (y ∷ ys) (suc j) a b c h g = zipped_at f xs ys j a b c (omega arith) (omega arith)

pub zipped_long : {A B C : Type 0} (f : A → B → C) (xs : List A) (ys : List B) → length xs ≡ length ys → length (zipped f xs ys) ≡ length ys
unfolding zipped
zipped_long f [] [] e = refl
zipped_long f [] (y ∷ ys) e = absurd (omega arith)
zipped_long f (x ∷ xs) [] e = absurd (omega arith)
zipped_long f (x ∷ xs) (y ∷ ys) e = ap suc (zipped_long f xs ys (omega arith))

-- ---- a mask with something on it

pub any_in : (k : List Bool) (i : ℕ) → get_or k i false ≡ true → any (λ b. b) k ≡ true
unfolding any
any_in [] i e = e
any_in (true ∷ k) i e = refl
any_in (false ∷ k) zero e = absurd (true≢false (sym e))
any_in (false ∷ k) (suc i) e = any_in k i e

pub any_out : (k : List Bool) → any (λ b. b) k ≡ true → (i : ℕ) × (i < length k) × (get_or k i false ≡ true)
unfolding any
any_out [] e = absurd (true≢false (sym e))
any_out (true ∷ k) e = (0, omega arith, refl)
any_out (false ∷ k) e = let r = any_out k e in let l = r.1 in (suc r.0, omega arith, r.2)

pub any_off : (k : List Bool) → any (λ b. b) k ≡ false → (i : ℕ) → get_or k i false ≡ false
unfolding any
any_off [] e i = refl
any_off (true ∷ k) e i = absurd (true≢false e)
any_off (false ∷ k) e zero = refl
any_off (false ∷ k) e (suc i) = any_off k e i

-- ---- a mask that is clear where another strikes

pub clear_left : {A : Type 0} (k m : List Bool) (l : List A) → Struck Out k m → left_by (left_by k m) (left_by k l) ≡ left_by m l
unfolding left_by Struck
clear_left [] [] l h = refl
clear_left [] (b ∷ m) l h = absurd h
clear_left (c ∷ k) [] l h = absurd h
clear_left (true ∷ k) (b ∷ m) [] h = refl
clear_left (false ∷ k) (b ∷ m) [] h = left_nil (left_by k m)
clear_left (true ∷ k) (true ∷ m) (x ∷ l) h = ap {B = List _} (λ r. x ∷ r) (clear_left k m l h)
clear_left (true ∷ k) (false ∷ m) (x ∷ l) h = clear_left k m l h
clear_left (false ∷ k) (true ∷ m) (x ∷ l) h = absurd (true≢false h.0)
clear_left (false ∷ k) (false ∷ m) (x ∷ l) h = clear_left k m l h.1

pub clear_any : (k m : List Bool) → Struck Out k m → any (λ b. b) (left_by k m) ≡ any (λ b. b) m
unfolding left_by Struck any
clear_any [] [] h = refl
clear_any [] (b ∷ m) h = absurd h
clear_any (c ∷ k) [] h = absurd h
clear_any (true ∷ k) (b ∷ m) h = ap (λ (r : Bool). cond b true r) (clear_any k m h)
clear_any (false ∷ k) (b ∷ m) h = rw h.0 (clear_any k m h.1)

pub spread_left : {A : Type 0} (k m : List Bool) (l t : List (Option A)) → Struck Out k m → Struck Absent k t
    → (left_by k (spread m l t) ≡ spread (left_by k m) l (left_by k t)) × Struck Absent k (spread m l t)
unfolding left_by Struck spread
spread_left [] [] l t h g = (refl, g)
spread_left [] (b ∷ m) l t h g = absurd h
spread_left (c ∷ k) [] l t h g = absurd h
spread_left (c ∷ k) (b ∷ m) l [] h g = absurd g
spread_left (true ∷ k) (true ∷ m) [] (o ∷ t) h g = let r = spread_left k m [] t h g in (rw r.0, r.1)
spread_left (true ∷ k) (true ∷ m) (x ∷ l) (o ∷ t) h g = let r = spread_left k m l t h g in (rw r.0, r.1)
spread_left (true ∷ k) (false ∷ m) l (o ∷ t) h g = let r = spread_left k m l t h g in (rw r.0, r.1)
spread_left (false ∷ k) (true ∷ m) l (o ∷ t) h g = absurd (true≢false h.0)
spread_left (false ∷ k) (false ∷ m) l (o ∷ t) h g = let r = spread_left k m l t h.1 g.1 in (r.0, (g.0, r.1))

-- ---- none anywhere

pub none_left : {A : Type 0} (k : List Bool) → (◌≡◌ {A = List (Option A)} (left_by k (replicate (length k) None)) (replicate (count k) None)) × Struck (Absent {A = A}) k (replicate (length k) None)
unfolding left_by Struck count
none_left [] = (refl, tt)
none_left {A} (true ∷ k) = (ap {B = List (Option A)} (λ r. None ∷ r) (none_left k).0, (none_left k).1)
none_left (false ∷ k) = ((none_left k).0, (refl, (none_left k).1))

-- ---- putting back

pub spread_long : {A : Type 0} (k : List Bool) (l t : List A) → length k ≡ length t → length (spread k l t) ≡ length t
unfolding spread
spread_long [] l t e = refl
spread_long (b ∷ k) l [] e = refl
spread_long (true ∷ k) [] (o ∷ t) e = ap suc (spread_long k [] t (omega arith))
spread_long (true ∷ k) (x ∷ l) (o ∷ t) e = ap suc (spread_long k l t (omega arith))
spread_long (false ∷ k) l (o ∷ t) e = ap suc (spread_long k l t (omega arith))
