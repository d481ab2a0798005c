-- One step of each of the loops, as their proofs use it. Any numbers.
use mathlib.Core.Path.{◌≡◌, refl, sym, ap, ◌∙◌}
use mathlib.Core.Bool.{Bool, true, false, cond, not, ◌||◌}
use mathlib.Core.List.{List, ◌++◌}
use Prim.Native.Nat.{ℕ, zero, suc, ◌+◌, ◌≤◌, ◌<◌}
use native.Mathlib.Numerals.{add-one}
use native.Mathlib.Omega.{arith}
use lib.ListN.{get_or, set, length, take, drop, length-set, get_or-append}
use lib.Seq.{length-take-le}
use Rattle.std.proofs.lemmas.List.{set-append_left, take-append-drop}
use Rattle.kuhn_munkres.specs.Ops.{Ops}
use Rattle.hungarian.specs.Passes.{Two, Least, Pots, relaxed, better, chosen, lowered, pay_at, paid, two, pots, Quiet, QuietIf, FreeIf}

or_first : (x y : Bool) → (x || y) ≡ false → x ≡ false
or_first false y h = refl
or_first true y h = h

or_second : (x y : Bool) → (x || y) ≡ false → y ≡ false
or_second false y h = h
or_second true false h = refl
or_second true true h = h

module _ {N : Type 0} (O : Ops N) where
  pub relaxed_step : (a : ℕ → N) (ui : N) (v : List N) (j0 : ℕ) (s : Two N) (k : ℕ) (e : N) (t : Two N) (x : N) (y : ℕ)
      → a (k + 1) ≡ e
      → t ≡ relaxed O a ui v j0 s k
      → x ≡ (let cur = O.sub (O.sub e ui) (get_or v (k + 1) O.out) in let m = get_or t.minv (k + 1) O.out in cond (O.lt cur m) cur m)
      → y ≡ (let cur = O.sub (O.sub e ui) (get_or v (k + 1) O.out) in let m = get_or t.minv (k + 1) O.out in cond (O.lt cur m) j0 (get_or t.way (k + 1) 0))
      → two (set t.minv (k + 1) x) (set t.way (k + 1) y) ≡ relaxed O a ui v j0 s (k + 1)
  unfolding relaxed
  relaxed_step a ui v j0 s k e t x y h q hx hy = rw (hx, hy, ← h, q) (sym (ap (λ (i : ℕ). relaxed O a ui v j0 s i) (add-one k)))

  pub chosen_step : (m : List N) (k : ℕ) (d r : Least N) → d ≡ chosen O m k → r ≡ better O (k + 1) (get_or m (k + 1) O.out) d → r ≡ chosen O m (k + 1)
  unfolding chosen
  chosen_step m k d r q h = h ∙ ap (λ (x : Least N). better O (k + 1) (get_or m (k + 1) O.out) x) q ∙ sym (ap (λ (i : ℕ). chosen O m i) (add-one k))

  -- a column that is not below the least so far changes nothing
  pub chosen_quiet : (m : List N) (k : ℕ) → O.lt (get_or m (k + 1) O.out) (chosen O m k).delta ≡ false → chosen O m (k + 1) ≡ chosen O m k
  unfolding chosen
  chosen_quiet m k h = ap (λ (i : ℕ). chosen O m i) (add-one k) ∙ ap (λ (b : Bool). record { delta = cond b (get_or m (k + 1) O.out) (chosen O m k).delta; j1 = cond b (k + 1) (chosen O m k).j1 }) h

  quiet_upto : (m : List N) (k : ℕ) (d : N) → d ≡ (chosen O m k).delta → Quiet O m k d → (i : ℕ) → i ≤ 8 → chosen O m (k + i) ≡ chosen O m k
  quiet_upto m k d e q zero h = let z : k + 0 ≡ k = omega arith in ap (λ (x : ℕ). chosen O m x) z
  quiet_upto m k d e q (suc i) h =
      let r = quiet_upto m k d e q i (omega arith) in
      let z : k + suc i ≡ k + i + 1 = omega arith in
      let y : k + i + 1 ≡ k + (i + 1) = omega arith in
      ap (λ (x : ℕ). chosen O m x) z
      ∙ chosen_quiet m (k + i) (ap (λ (x : ℕ). O.lt (get_or m x O.out) (chosen O m (k + i)).delta) y ∙ ap (λ (x : Least N). O.lt (get_or m (k + (i + 1)) O.out) x.delta) r ∙ ap (λ (x : N). O.lt (get_or m (k + (i + 1)) O.out) x) (sym e) ∙ q i (omega arith))
      ∙ r

  pub quiet_chosen : (m : List N) (k : ℕ) (d : N) → d ≡ (chosen O m k).delta → Quiet O m k d → chosen O m (k + 8) ≡ chosen O m k
  quiet_chosen m k d e q = quiet_upto m k d e q 8 (omega arith)

  pub lowered_step : (d : N) (m t : List N) (k : ℕ) → t ≡ lowered O d m k → set t k (O.sub (get_or t k O.out) d) ≡ lowered O d m (k + 1)
  unfolding lowered
  lowered_step d m t k q = ap (λ (x : List N). set x k (O.sub (get_or x k O.out) d)) q ∙ sym (ap (λ (i : ℕ). lowered O d m i) (add-one k))

  lowered_long : (d : N) (m : List N) (k : ℕ) → length (lowered O d m k) ≡ length m
  unfolding lowered
  lowered_long d m zero = refl
  lowered_long d m (suc k) = length-set (lowered O d m k) k (O.sub (get_or (lowered O d m k) k O.out) d) ∙ lowered_long d m k

  lowered_left : (d : N) (a b : List N) (k : ℕ) → k ≤ length a → lowered O d (a ++ b) k ≡ lowered O d a k ++ b
  unfolding lowered
  lowered_left d a b zero h = refl
  lowered_left d a b (suc k) h =
      let x = lowered O d a k in
      let inside : k < length x = rw (lowered_long d a k) (omega arith) in
      ap (λ (t : List N). set t k (O.sub (get_or t k O.out) d)) (lowered_left d a b k (omega arith))
      ∙ ap (λ (y : N). set (x ++ b) k (O.sub y d)) (get_or-append x b O.out k inside)
      ∙ set-append_left x b k (O.sub (get_or x k O.out) d) inside

  -- the front alone, and the rest as it was
  pub lowered_front : (d : N) (m : List N) (n : ℕ) → n ≤ length m → lowered O d (take n m) (length (take n m)) ++ drop n m ≡ lowered O d m n
  lowered_front d m n h =
      ap (λ (k : ℕ). lowered O d (take n m) k ++ drop n m) (length-take-le n m h)
      ∙ sym (lowered_left d (take n m) (drop n m) n (rw (length-take-le n m h) (omega arith)))
      ∙ ap (λ (t : List N). lowered O d t n) (take-append-drop n m)

  module _ (used : List Bool) (p : List ℕ) (d : N) (s t : Pots N) (k : ℕ) (q : t ≡ paid O used p d s k) where
    by : (b : Bool) → get_or used k false ≡ b
        → record { u = cond b (set t.u (get_or p k 0) (O.add (get_or t.u (get_or p k 0) O.out) d)) t.u; v = cond b (set t.v k (O.sub (get_or t.v k O.out) d)) t.v } ≡ paid O used p d s (k + 1)
    unfolding paid
    by b h =
        ap (λ (x : Bool). record { u = cond x (set t.u (get_or p k 0) (O.add (get_or t.u (get_or p k 0) O.out) d)) t.u; v = cond x (set t.v k (O.sub (get_or t.v k O.out) d)) t.v }) (sym h)
        ∙ ap (λ (x : Pots N). pay_at O used p d k x) q
        ∙ sym (ap (λ (i : ℕ). paid O used p d s i) (add-one k))

    pub paid_on : get_or used k false ≡ true → pots (set t.u (get_or p k 0) (O.add (get_or t.u (get_or p k 0) O.out) d)) (set t.v k (O.sub (get_or t.v k O.out) d)) ≡ paid O used p d s (k + 1)
    paid_on h = by true h

    pub paid_off : get_or used k false ≡ false → t ≡ paid O used p d s (k + 1)
    paid_off h = by false h

  -- what `quiet` computes
  module _ (m : List N) (k : ℕ) (d : N) where
    abbrev f : ℕ → Bool
    f i = O.lt (get_or m (k + i) O.out) d

    at8 : f 1 ≡ false → f 2 ≡ false → f 3 ≡ false → f 4 ≡ false → f 5 ≡ false → f 6 ≡ false → f 7 ≡ false → f 8 ≡ false → Quiet O m k d
    at8 p1 p2 p3 p4 p5 p6 p7 p8 zero l = p1
    at8 p1 p2 p3 p4 p5 p6 p7 p8 (suc zero) l = p2
    at8 p1 p2 p3 p4 p5 p6 p7 p8 (suc (suc zero)) l = p3
    at8 p1 p2 p3 p4 p5 p6 p7 p8 (suc (suc (suc zero))) l = p4
    at8 p1 p2 p3 p4 p5 p6 p7 p8 (suc (suc (suc (suc zero)))) l = p5
    at8 p1 p2 p3 p4 p5 p6 p7 p8 (suc (suc (suc (suc (suc zero))))) l = p6
    at8 p1 p2 p3 p4 p5 p6 p7 p8 (suc (suc (suc (suc (suc (suc zero)))))) l = p7
    at8 p1 p2 p3 p4 p5 p6 p7 p8 (suc (suc (suc (suc (suc (suc (suc zero))))))) l = p8
    at8 p1 p2 p3 p4 p5 p6 p7 p8 (suc (suc (suc (suc (suc (suc (suc (suc i)))))))) l = absurd (omega (arith, l))

    go8 : (b : Bool) → (((((((f 1 || f 2) || f 3) || f 4) || f 5) || f 6) || f 7) || f 8) ≡ b → QuietIf O (not b) m k d
    go8 true e8 = tt
    go8 false e8 =
        let e7 : ((((((f 1 || f 2) || f 3) || f 4) || f 5) || f 6) || f 7) ≡ false = or_first ((((((f 1 || f 2) || f 3) || f 4) || f 5) || f 6) || f 7) (f 8) e8 in
        let e6 : (((((f 1 || f 2) || f 3) || f 4) || f 5) || f 6) ≡ false = or_first (((((f 1 || f 2) || f 3) || f 4) || f 5) || f 6) (f 7) e7 in
        let e5 : ((((f 1 || f 2) || f 3) || f 4) || f 5) ≡ false = or_first ((((f 1 || f 2) || f 3) || f 4) || f 5) (f 6) e6 in
        let e4 : (((f 1 || f 2) || f 3) || f 4) ≡ false = or_first (((f 1 || f 2) || f 3) || f 4) (f 5) e5 in
        let e3 : ((f 1 || f 2) || f 3) ≡ false = or_first ((f 1 || f 2) || f 3) (f 4) e4 in
        let e2 : (f 1 || f 2) ≡ false = or_first (f 1 || f 2) (f 3) e3 in
        at8 (or_first (f 1) (f 2) e2) (or_second (f 1) (f 2) e2) (or_second (f 1 || f 2) (f 3) e3) (or_second ((f 1 || f 2) || f 3) (f 4) e4) (or_second (((f 1 || f 2) || f 3) || f 4) (f 5) e5) (or_second ((((f 1 || f 2) || f 3) || f 4) || f 5) (f 6) e6) (or_second (((((f 1 || f 2) || f 3) || f 4) || f 5) || f 6) (f 7) e7) (or_second ((((((f 1 || f 2) || f 3) || f 4) || f 5) || f 6) || f 7) (f 8) e8)

    pub quiet8 : QuietIf O (not (((((((f 1 || f 2) || f 3) || f 4) || f 5) || f 6) || f 7) || f 8)) m k d
    quiet8 = go8 (((((((f 1 || f 2) || f 3) || f 4) || f 5) || f 6) || f 7) || f 8) refl

module _ (used : List Bool) (k : ℕ) where
  free_at_lem : get_or used k false ≡ false → get_or used (k + 1) false ≡ false → get_or used (k + 2) false ≡ false → get_or used (k + 3) false ≡ false → get_or used (k + 4) false ≡ false → get_or used (k + 5) false ≡ false → get_or used (k + 6) false ≡ false → get_or used (k + 7) false ≡ false → FreeIf true used k
  free_at_lem p0 p1 p2 p3 p4 p5 p6 p7 zero l = let e : k + 0 ≡ k = omega arith in rw e p0
  free_at_lem p0 p1 p2 p3 p4 p5 p6 p7 (suc zero) l = p1
  free_at_lem p0 p1 p2 p3 p4 p5 p6 p7 (suc (suc zero)) l = p2
  free_at_lem p0 p1 p2 p3 p4 p5 p6 p7 (suc (suc (suc zero))) l = p3
  free_at_lem p0 p1 p2 p3 p4 p5 p6 p7 (suc (suc (suc (suc zero)))) l = p4
  free_at_lem p0 p1 p2 p3 p4 p5 p6 p7 (suc (suc (suc (suc (suc zero))))) l = p5
  free_at_lem p0 p1 p2 p3 p4 p5 p6 p7 (suc (suc (suc (suc (suc (suc zero)))))) l = p6
  free_at_lem p0 p1 p2 p3 p4 p5 p6 p7 (suc (suc (suc (suc (suc (suc (suc zero))))))) l = p7
  free_at_lem p0 p1 p2 p3 p4 p5 p6 p7 (suc (suc (suc (suc (suc (suc (suc (suc i)))))))) l = absurd (omega (arith, l))

  free_go : (b : Bool) → (((((((get_or used k false || get_or used (k + 1) false) || get_or used (k + 2) false) || get_or used (k + 3) false) || get_or used (k + 4) false) || get_or used (k + 5) false) || get_or used (k + 6) false) || get_or used (k + 7) false) ≡ b → FreeIf (not b) used k
  free_go true e8 = tt
  free_go false e8 =
      let e7 : ((((((get_or used k false || get_or used (k + 1) false) || get_or used (k + 2) false) || get_or used (k + 3) false) || get_or used (k + 4) false) || get_or used (k + 5) false) || get_or used (k + 6) false) ≡ false = or_first ((((((get_or used k false || get_or used (k + 1) false) || get_or used (k + 2) false) || get_or used (k + 3) false) || get_or used (k + 4) false) || get_or used (k + 5) false) || get_or used (k + 6) false) (get_or used (k + 7) false) e8 in
      let e6 : (((((get_or used k false || get_or used (k + 1) false) || get_or used (k + 2) false) || get_or used (k + 3) false) || get_or used (k + 4) false) || get_or used (k + 5) false) ≡ false = or_first (((((get_or used k false || get_or used (k + 1) false) || get_or used (k + 2) false) || get_or used (k + 3) false) || get_or used (k + 4) false) || get_or used (k + 5) false) (get_or used (k + 6) false) e7 in
      let e5 : ((((get_or used k false || get_or used (k + 1) false) || get_or used (k + 2) false) || get_or used (k + 3) false) || get_or used (k + 4) false) ≡ false = or_first ((((get_or used k false || get_or used (k + 1) false) || get_or used (k + 2) false) || get_or used (k + 3) false) || get_or used (k + 4) false) (get_or used (k + 5) false) e6 in
      let e4 : (((get_or used k false || get_or used (k + 1) false) || get_or used (k + 2) false) || get_or used (k + 3) false) ≡ false = or_first (((get_or used k false || get_or used (k + 1) false) || get_or used (k + 2) false) || get_or used (k + 3) false) (get_or used (k + 4) false) e5 in
      let e3 : ((get_or used k false || get_or used (k + 1) false) || get_or used (k + 2) false) ≡ false = or_first ((get_or used k false || get_or used (k + 1) false) || get_or used (k + 2) false) (get_or used (k + 3) false) e4 in
      let e2 : (get_or used k false || get_or used (k + 1) false) ≡ false = or_first (get_or used k false || get_or used (k + 1) false) (get_or used (k + 2) false) e3 in
      free_at_lem (or_first (get_or used k false) (get_or used (k + 1) false) e2) (or_second (get_or used k false) (get_or used (k + 1) false) e2) (or_second (get_or used k false || get_or used (k + 1) false) (get_or used (k + 2) false) e3) (or_second ((get_or used k false || get_or used (k + 1) false) || get_or used (k + 2) false) (get_or used (k + 3) false) e4) (or_second (((get_or used k false || get_or used (k + 1) false) || get_or used (k + 2) false) || get_or used (k + 3) false) (get_or used (k + 4) false) e5) (or_second ((((get_or used k false || get_or used (k + 1) false) || get_or used (k + 2) false) || get_or used (k + 3) false) || get_or used (k + 4) false) (get_or used (k + 5) false) e6) (or_second (((((get_or used k false || get_or used (k + 1) false) || get_or used (k + 2) false) || get_or used (k + 3) false) || get_or used (k + 4) false) || get_or used (k + 5) false) (get_or used (k + 6) false) e7) (or_second ((((((get_or used k false || get_or used (k + 1) false) || get_or used (k + 2) false) || get_or used (k + 3) false) || get_or used (k + 4) false) || get_or used (k + 5) false) || get_or used (k + 6) false) (get_or used (k + 7) false) e8)

  pub free8 : FreeIf (not (((((((get_or used k false || get_or used (k + 1) false) || get_or used (k + 2) false) || get_or used (k + 3) false) || get_or used (k + 4) false) || get_or used (k + 5) false) || get_or used (k + 6) false) || get_or used (k + 7) false)) used k
  free8 = free_go (((((((get_or used k false || get_or used (k + 1) false) || get_or used (k + 2) false) || get_or used (k + 3) false) || get_or used (k + 4) false) || get_or used (k + 5) false) || get_or used (k + 6) false) || get_or used (k + 7) false) refl

module _ {N : Type 0} (O : Ops N) (used : List Bool) (p : List ℕ) (d : N) (s : Pots N) (k : ℕ) (h : FreeIf true used k) where
  free_upto : (i : ℕ) → i ≤ 8 → paid O used p d s k ≡ paid O used p d s (k + i)
  free_upto zero l = let z : k ≡ k + 0 = omega arith in ap (λ (x : ℕ). paid O used p d s x) z
  free_upto (suc i) l =
      let z : k + i + 1 ≡ k + suc i = omega arith in
      free_upto i (omega arith) ∙ paid_off O used p d s (paid O used p d s (k + i)) (k + i) refl (h i (omega arith)) ∙ ap (λ (x : ℕ). paid O used p d s x) z

  pub paid_free : paid O used p d s k ≡ paid O used p d s (k + 8)
  paid_free = free_upto 8 (omega arith)
