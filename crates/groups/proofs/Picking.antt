-- What a pass picks and counts, place by place.
use mathlib.Core.Path.{◌≡◌, refl, sym, ap, ◌∙◌}
use mathlib.Core.Bool.{Bool, true, false, cond}
use mathlib.Core.List.{List, [], ◌∷◌, ◌++◌, map}
use Prim.Native.Nat.{ℕ, zero, suc, ◌+◌, ◌≤◌, ◌<◌}
use native.Mathlib.Decide.{ℕ_discrete, dec_lt}
use native.Mathlib.Numerals.{add-one}
use native.Mathlib.Omega.{arith}
use lib.ListN.{get_or, length, length-append, get_or-append}
use lib.Seq.{get_or-append_seam}
use Rattle.kuhn_munkres.proofs.Labels.{map_at}
use Rattle.groups.specs.Picks.{add_if, picked, ticks}

module _ {A : Type 0} (m : ℕ → Bool) (f : ℕ → A) where
  pub picked_on : (n : ℕ) → m n ≡ true → picked m f (n + 1) ≡ picked m f n ++ (f n ∷ [])
  unfolding picked
  picked_on n h = ap (λ (k : ℕ). picked m f k) (add-one n) ∙ ap (λ (b : Bool). add_if b (f n) (picked m f n)) h

  pub picked_off : (n : ℕ) → m n ≡ false → picked m f (n + 1) ≡ picked m f n
  unfolding picked
  picked_off n h = ap (λ (k : ℕ). picked m f k) (add-one n) ∙ ap (λ (b : Bool). add_if b (f n) (picked m f n)) h

  pub picked_long : (n : ℕ) → length (picked m f n) ≡ ticks m n
  unfolding picked ticks
  picked_long zero = refl
  picked_long (suc n) = go (m n) (picked_long n)
    where
      go : (b : Bool) → length (picked m f n) ≡ ticks m n → length (add_if b (f n) (picked m f n)) ≡ cond b (suc (ticks m n)) (ticks m n)
      go true e = length-append (picked m f n) (f n ∷ []) ∙ rw e (omega arith)
      go false e = e

module _ (m : ℕ → Bool) where
  pub ticks_on : (n : ℕ) → m n ≡ true → ticks m (n + 1) ≡ ticks m n + 1
  unfolding ticks
  ticks_on n h = ap (λ (k : ℕ). ticks m k) (add-one n) ∙ ap (λ (b : Bool). cond b (suc (ticks m n)) (ticks m n)) h ∙ sym (add-one (ticks m n))

  pub ticks_off : (n : ℕ) → m n ≡ false → ticks m (n + 1) ≡ ticks m n
  unfolding ticks
  ticks_off n h = ap (λ (k : ℕ). ticks m k) (add-one n) ∙ ap (λ (b : Bool). cond b (suc (ticks m n)) (ticks m n)) h

  pub ticks_le : (n : ℕ) → ticks m n ≤ n
  unfolding ticks
  ticks_le zero = omega arith
  ticks_le (suc n) = go (m n) (ticks_le n)
    where
      go : (b : Bool) → ticks m n ≤ n → cond b (suc (ticks m n)) (ticks m n) ≤ suc n
      go true h = omega arith
      go false h = omega arith

pub picked_same : {A : Type 0} (m m' : ℕ → Bool) (f f' : ℕ → A) (n : ℕ) → ((i : ℕ) → i < n → m i ≡ m' i) → ((i : ℕ) → i < n → f i ≡ f' i) → picked m f n ≡ picked m' f' n
unfolding picked
picked_same m m' f f' zero h g = refl
picked_same m m' f f' (suc n) h g =
    rw (h n (omega arith), g n (omega arith), picked_same m m' f f' n (λ i l. h i (omega arith)) (λ i l. g i (omega arith)))

-- ---- counting
pub ticks_same : (m m' : ℕ → Bool) (n : ℕ) → ((i : ℕ) → i < n → m i ≡ m' i) → ticks m n ≡ ticks m' n
unfolding ticks
ticks_same m m' zero h = refl
ticks_same m m' (suc n) h = rw (h n (omega arith), ticks_same m m' n (λ i l. h i (omega arith)))

pub ticks_some : (m : ℕ → Bool) (n i : ℕ) → i < n → m i ≡ true → 0 < ticks m n
unfolding ticks
ticks_some m zero i h e = absurd (under i h)
  where
    under : (i : ℕ) → i < 0 → ⊥
    under i h = omega arith
ticks_some m (suc n) i h e = go (ℕ_discrete i n) (λ l. ticks_some m n i l e)
  where
    by : (b : Bool) → 0 < ticks m n → 0 < cond b (suc (ticks m n)) (ticks m n)
    by true q = omega arith
    by false q = q

    go : Dec (i ≡ n) → (i < n → 0 < ticks m n) → 0 < cond (m n) (suc (ticks m n)) (ticks m n)
    go (yes q) ih = rw (← q, e) (omega arith)
    go (no q) ih = by (m n) (ih (omega arith))

pub ticks_below : (m : ℕ → Bool) (j n : ℕ) → j < n → m j ≡ true → ticks m j < ticks m n
unfolding ticks
ticks_below m j zero h e = absurd (under j h)
  where
    under : (j : ℕ) → j < 0 → ⊥
    under j h = omega arith
ticks_below m j (suc n) h e = go (ℕ_discrete j n) (λ l. ticks_below m j n l e)
  where
    by : (b : Bool) → ticks m j < ticks m n → ticks m j < cond b (suc (ticks m n)) (ticks m n)
    by true q = omega arith
    by false q = q

    go : Dec (j ≡ n) → (j < n → ticks m j < ticks m n) → ticks m j < cond (m n) (suc (ticks m n)) (ticks m n)
    go (yes q) ih = rw (← q, e) (omega arith)
    go (no q) ih = by (m n) (ih (omega arith))

pub some_tick : (m : ℕ → Bool) (n : ℕ) → 0 < ticks m n → (i : ℕ) × (i < n) × (m i ≡ true)
unfolding ticks
some_tick m zero h = absurd (omega (arith, h))
some_tick m (suc n) h = go (m n) refl (some_tick m n) h
  where
    go : (b : Bool) → m n ≡ b → (0 < ticks m n → (i : ℕ) × (i < n) × (m i ≡ true)) → 0 < cond b (suc (ticks m n)) (ticks m n) → (i : ℕ) × (i < suc n) × (m i ≡ true)
    go true e ih q = (n, omega arith, e)
    go false e ih q = let r = ih q in let l = r.1 in (r.0, omega arith, r.2)

pub ticks_shift : (m : ℕ → Bool) (j : ℕ) → ticks m (suc j) ≡ cond (m 0) 1 0 + ticks (λ i. m (suc i)) j
unfolding ticks
ticks_shift m zero = go (m 0)
  where
    go : (b : Bool) → cond b 1 0 ≡ cond b 1 0 + 0
    go b = omega arith
ticks_shift m (suc j) = go (m (suc j)) (ticks_shift m j)
  where
    go : (b : Bool) → ticks m (suc j) ≡ cond (m 0) 1 0 + ticks (λ i. m (suc i)) j → cond b (suc (ticks m (suc j))) (ticks m (suc j)) ≡ cond (m 0) 1 0 + cond b (suc (ticks (λ i. m (suc i)) j)) (ticks (λ i. m (suc i)) j)
    go true e = omega arith
    go false e = e

-- ---- what is picked, mapped and place by place
pub picked_map : {A B : Type 0} (f : A → B) (m : ℕ → Bool) (h : ℕ → A) (n : ℕ) → map f (picked m h n) ≡ picked m (λ i. f (h i)) n
unfolding picked
picked_map f m h zero = refl
picked_map f m h (suc n) = go (m n) ∙ ap (add_if (m n) (f (h n))) (picked_map f m h n)
  where
    snoc : (l : List _) (x : _) → map f (l ++ (x ∷ [])) ≡ map f l ++ (f x ∷ [])
    snoc [] x = refl
    snoc (y ∷ l) x = ap (λ (t : List _). f y ∷ t) (snoc l x)

    go : (b : Bool) → map f (add_if b (h n) (picked m h n)) ≡ add_if b (f (h n)) (map f (picked m h n))
    go true = snoc (picked m h n) (h n)
    go false = refl

pub picked_all : {A : Type 0} (P : A → Type 0) (m : ℕ → Bool) (h : ℕ → A) (n : ℕ) (d : A) → ((i : ℕ) → i < n → P (h i)) → (k : ℕ) → k < length (picked m h n) → P (get_or (picked m h n) k d)
unfolding picked
picked_all P m h zero d q k l = absurd (omega (arith, l))
picked_all P m h (suc n) d q k l = go (m n) (λ g. picked_all P m h n d (λ i b. q i (omega arith)) k g) l
  where
    at : (xs : List _) (x : _) (j : ℕ) → (j < length xs → P (get_or xs j d)) → P x → j < length (xs ++ (x ∷ [])) → P (get_or (xs ++ (x ∷ [])) j d)
    at [] x zero f p l = p
    at [] x (suc j) f p l = absurd (omega arith)
    at (y ∷ xs) x zero f p l = f (omega arith)
    at (y ∷ xs) x (suc j) f p l = at xs x j (λ b. f (omega arith)) p (omega arith)

    go : (b : Bool) → (k < length (picked m h n) → P (get_or (picked m h n) k d)) → k < length (add_if b (h n) (picked m h n)) → P (get_or (add_if b (h n) (picked m h n)) k d)
    go true ih g = at (picked m h n) (h n) k ih (q n (omega arith)) g
    go false ih g = ih g

-- ---- what is picked, and from where
pub record Place (m : ℕ → Bool) (n k x : ℕ) : Type 0 where
  pub below : x < n
  pub on : m x ≡ true
  pub at : ticks m x ≡ k

pub picked_place : (m : ℕ → Bool) (n k : ℕ) → k < ticks m n → Place m n k (get_or (picked m (λ i. i) n) k 0)
unfolding picked ticks
picked_place m zero k h = absurd (omega (arith, h))
picked_place m (suc n) k h = go (m n) refl (picked_place m n k) h
  where
    later : (x : ℕ) → Place m n k x → Place m (suc n) k x
    later x p = record { below = let b = p.below in omega arith; on = p.on; at = p.at }

    go : (b : Bool) → m n ≡ b → (k < ticks m n → Place m n k (get_or (picked m (λ i. i) n) k 0)) → k < cond b (suc (ticks m n)) (ticks m n) → Place m (suc n) k (get_or (add_if b n (picked m (λ i. i) n)) k 0)
    go false e ih l = later _ (ih l)
    go true e ih l = by (dec_lt k (ticks m n))
      where
        by : Dec (k < ticks m n) → Place m (suc n) k (get_or (picked m (λ i. i) n ++ (n ∷ [])) k 0)
        by (yes q) = rw (get_or-append (picked m (λ i. i) n) (n ∷ []) 0 k (rw (picked_long m (λ i. i) n) q)) (later _ (ih q))
        by (no q) =
            let z : k ≡ ticks m n = omega arith in
            let w : get_or (picked m (λ i. i) n ++ (n ∷ [])) k 0 ≡ n = ap (λ (i : ℕ). get_or (picked m (λ i. i) n ++ (n ∷ [])) i 0) (z ∙ sym (picked_long m (λ i. i) n)) ∙ get_or-append_seam (picked m (λ i. i) n) n [] 0 in
            rw w (record { below = omega arith; on = e; at = sym z })

-- what is picked at a place is the value at what is picked there of the numbers
pub picked_at : {A : Type 0} (m : ℕ → Bool) (f : ℕ → A) (n k : ℕ) (d : A) → k < ticks m n → get_or (picked m f n) k d ≡ f (get_or (picked m (λ i. i) n) k 0)
picked_at m f n k d h = ap (λ (l : List _). get_or l k d) (sym (picked_map f m (λ i. i) n)) ∙ map_at f (picked m (λ i. i) n) k 0 d (rw (picked_long m (λ i. i) n) h)

-- equal counts at places that are on are equal places
pub ticks_inj : (m : ℕ → Bool) (j k : ℕ) → m j ≡ true → m k ≡ true → ticks m j ≡ ticks m k → j ≡ k
ticks_inj m j k p q e = go (dec_lt j k) (dec_lt k j)
  where
    go : Dec (j < k) → Dec (k < j) → j ≡ k
    go (yes h) d = absurd (let b = ticks_below m j k h p in omega arith)
    go (no h) (yes g) = absurd (let b = ticks_below m k j g q in omega arith)
    go (no h) (no g) = omega arith

-- a place that is on is picked at its count
pub picked_ticks : (m : ℕ → Bool) (j n : ℕ) → j < n → m j ≡ true → get_or (picked m (λ i. i) n) (ticks m j) 0 ≡ j
picked_ticks m j n h e = let p = picked_place m n (ticks m j) (ticks_below m j n h e) in ticks_inj m _ j p.on e p.at
