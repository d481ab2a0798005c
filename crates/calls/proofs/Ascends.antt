-- Lists of tracks whose numbers ascend: the track of a number is the only one, and lies below the next number. Assumes nothing.
use Rattle.std.specs.Prelude.{None, Option, Some}
use mathlib.Core.Path.{◌≡◌, refl, sym, ap, ◌∙◌, subst}
use mathlib.Core.List.Memᴰ
use mathlib.Core.List.{List, [], ◌∷◌, ◌++◌, map, Memᴰ}
use mathlib.Core.Logic.{◌⊎◌, inl, inr}
use mathlib.Core.Bool.{Bool, true, false, cond}
use Prim.Native.Nat.{ℕ, suc, ◌<◌}
use native.Mathlib.Omega.{arith}
use lib.Dec.{T, eqb, eqb→eq, eqb_refl}
use Rattle.number.specs.Reply.{Reply, given}
use Rattle.lists.specs.Sift.{kept, sift}
use Rattle.lists.specs.First.{first_of, change_first}
use Rattle.lists.specs.Masks.{Every}
use Rattle.lists.specs.Each.{each, each_at}
use Rattle.number.proofs.Replies.{given_same, bound}
use Rattle.lists.proofs.Each.{each_at_all}
use Rattle.types.specs.declared.track.Track3D.{Track3D}
use Rattle.calls.specs.Numbers.{track_of, numbers_of, Ascend}

-- ---- one more behind the others

every_last : (n : ℕ) (ts : List Track3D) (t : Track3D) → n < t.id → Every (λ m. n < m) (numbers_of ts) → Every (λ m. n < m) (numbers_of (ts ++ (t ∷ [])))
unfolding Every
every_last n [] t h g = (h, tt)
every_last n (u ∷ ts) t h g = (g.0, every_last n ts t h g.1)

pub ascend_last : (ts : List Track3D) (t : Track3D) (hi : ℕ) → t.id ≡ hi → Ascend (numbers_of ts) hi → Ascend (numbers_of (ts ++ (t ∷ []))) (suc hi)
unfolding Ascend
ascend_last [] t hi e h = (unfold Every in tt, omega arith, tt)
ascend_last (u ∷ ts) t hi e h = (every_last u.id ts t (omega (arith, h.1, e)) h.0, omega (arith, h.1), ascend_last ts t hi e h.2)

-- it isn't the track of a smaller number
pub track_before : (n : ℕ) (ts : List Track3D) (t : Track3D) → n < t.id → track_of n (ts ++ (t ∷ [])) ≡ track_of n ts
unfolding first_of
track_before n [] t h = go (eqb n t.id) refl
  where
    go : (b : Bool) → eqb n t.id ≡ b → cond b (Some t) None ≡ None
    go true e = absurd (omega (arith, eqb→eq n t.id (rw e tt)))
    go false e = refl
track_before n (u ∷ ts) t h = rw (track_before n ts t h)

-- and of its own number there is one
pub track_last : (n : ℕ) (ts : List Track3D) (t : Track3D) → t.id ≡ n → (u : Track3D) × (track_of n (ts ++ (t ∷ [])) ≡ Some u)
unfolding first_of
track_last n [] t h = (t, go (eqb n t.id) refl)
  where
    go : (b : Bool) → eqb n t.id ≡ b → cond b (Some t) None ≡ Some t
    go true e = refl
    go false e = absurd (subst T e (rw h (eqb_refl n)))
track_last n (u ∷ ts) t h = go (eqb n u.id) (track_last n ts t h)
  where
    go : (b : Bool) → (v : Track3D) × (track_of n (ts ++ (t ∷ [])) ≡ Some v) → (v : Track3D) × (cond b (Some u) (track_of n (ts ++ (t ∷ []))) ≡ Some v)
    go true r = (u, refl)
    go false r = r

-- ---- some dropped

module _ (f : Track3D → Option Track3D) (same : (t u : Track3D) → f t ≡ Some u → u.id ≡ t.id) where
  every_sift : (n : ℕ) (ts : List Track3D) → Every (λ m. n < m) (numbers_of ts) → Every (λ m. n < m) (numbers_of (sift f ts))
  unfolding Every sift
  every_sift n [] h = tt
  every_sift n (t ∷ ts) h = go (f t) refl (every_sift n ts h.1)
    where
      go : (o : Option Track3D) → f t ≡ o → Every (λ m. n < m) (numbers_of (sift f ts)) → Every (λ m. n < m) (numbers_of (kept o (sift f ts)))
      go None e r = r
      go (Some u) e r = (rw (same t u e) h.0, r)

  pub ascend_sift : (ts : List Track3D) (hi : ℕ) → Ascend (numbers_of ts) hi → Ascend (numbers_of (sift f ts)) hi
  unfolding Ascend sift
  ascend_sift [] hi h = tt
  ascend_sift (t ∷ ts) hi h = go (f t) refl (ascend_sift ts hi h.2)
    where
      go : (o : Option Track3D) → f t ≡ o → Ascend (numbers_of (sift f ts)) hi → Ascend (numbers_of (kept o (sift f ts))) hi
      go None e r = r
      go (Some u) e r = rw (same t u e) (every_sift t.id ts h.0, h.1, r)

-- ---- all changed, or one

pub each_at_numbers : (f : ℕ → Track3D → Reply Track3D) → ((i : ℕ) (t u : Track3D) → f i t ≡ given u → u.id ≡ t.id)
    → (i : ℕ) (ts us : List Track3D) → each_at f i ts ≡ given us → numbers_of us ≡ numbers_of ts
unfolding each_at
each_at_numbers f same i [] us e = rw (← given_same [] us e)
each_at_numbers f same i (t ∷ ts) us e =
    let p = bound (f i t) _ us e in
    let q = bound (each_at f (suc i) ts) _ us p.2 in
    rw (← given_same _ us q.2, same i t p.0 p.1, each_at_numbers f same (suc i) ts q.0 q.1)

pub each_numbers : (f : Track3D → Reply Track3D) → ((t u : Track3D) → f t ≡ given u → u.id ≡ t.id) → (ts us : List Track3D) → each f ts ≡ given us → numbers_of us ≡ numbers_of ts
each_numbers f same ts us e = each_at_numbers (λ i t. f t) (λ i t u h. same t u h) 0 ts us (each_at_all f 0 ts ∙ e)

pub map_numbers : (f : Track3D → Track3D) → ((t : Track3D) → (f t).id ≡ t.id) → (ts : List Track3D) → numbers_of (map f ts) ≡ numbers_of ts
map_numbers f same [] = refl
map_numbers f same (t ∷ ts) = rw (same t, map_numbers f same ts)

pub change_numbers : (p : Track3D → Bool) (f : Track3D → Track3D) → ((t : Track3D) → (f t).id ≡ t.id) → (ts : List Track3D) → numbers_of (change_first p f ts) ≡ numbers_of ts
unfolding change_first
change_numbers p f same [] = refl
change_numbers p f same (t ∷ ts) = go (p t) (change_numbers p f same ts)
  where
    go : (b : Bool) → numbers_of (change_first p f ts) ≡ numbers_of ts → numbers_of (cond b (f t ∷ ts) (t ∷ change_first p f ts)) ≡ numbers_of (t ∷ ts)
    go true r = rw (same t)
    go false r = rw r

-- ---- the track of a number

-- it lies below the next number
pub below : (n : ℕ) (ts : List Track3D) (hi : ℕ) (t : Track3D) → Ascend (numbers_of ts) hi → track_of n ts ≡ Some t → n < hi
unfolding Ascend first_of
below n [] hi t h e = absurd (let z : ◌≡◌ {A = ℕ} 0 1 = cc in omega arith)
below n (u ∷ ts) hi t h e = go (eqb n u.id) refl (below n ts hi t h.2) e
  where
    go : (b : Bool) → eqb n u.id ≡ b → (track_of n ts ≡ Some t → n < hi) → cond b (Some u) (track_of n ts) ≡ Some t → n < hi
    go true q r e = omega (arith, eqb→eq n u.id (rw q tt), h.1)
    go false q r e = r e

above : (n : ℕ) (ts : List Track3D) (t : Track3D) → Every (λ m. n < m) (numbers_of ts) → Memᴰ t ts → n < t.id
unfolding Every
above n [] t h m = absurd (Memᴰ.not-nil m)
above n (u ∷ ts) t h m = go (Memᴰ.cases_cons m) (above n ts t h.1)
  where
    go : (t ≡ u) ⊎ Memᴰ t ts → (Memᴰ t ts → n < t.id) → n < t.id
    go (inl e) r = rw e h.0
    go (inr m) r = r m

-- it is the only one
pub the_track_lem : (ts : List Track3D) (hi : ℕ) (t : Track3D) → Ascend (numbers_of ts) hi → Memᴰ t ts → track_of t.id ts ≡ Some t
unfolding Ascend first_of
the_track_lem [] hi t h m = absurd (Memᴰ.not-nil m)
the_track_lem (u ∷ ts) hi t h m = go (Memᴰ.cases_cons m) (eqb t.id u.id) refl (the_track_lem ts hi t h.2)
  where
    go : (t ≡ u) ⊎ Memᴰ t ts → (b : Bool) → eqb t.id u.id ≡ b → (Memᴰ t ts → track_of t.id ts ≡ Some t) → cond b (Some u) (track_of t.id ts) ≡ Some t
    go (inl e) true q r = ap {B = Option Track3D} Some (sym e)
    go (inl e) false q r = absurd (subst T (ap (λ (v : Track3D). eqb t.id v.id) e ∙ q) (eqb_refl t.id))
    go (inr m) true q r = absurd (omega (arith, eqb→eq t.id u.id (rw q tt), above u.id ts t h.0 m))
    go (inr m) false q r = r m
