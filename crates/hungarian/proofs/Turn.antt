-- One turn of the code, from its arrays, is one turn of the definition. Any numbers with the laws of `out`.
use mathlib.Core.Path.{◌≡◌, refl, sym, ap, ◌∙◌}
use mathlib.Core.Bool.{Bool, true, false}
use mathlib.Core.List.{List}
use Prim.Native.Nat.{ℕ, zero, suc, ◌+◌, ◌<◌}
use native.Mathlib.Omega.{arith}
use lib.ListN.{get_or, set, length, length-set}
use Rattle.kuhn_munkres.specs.Ops.{Ops}
use Rattle.kuhn_munkres.specs.Steps.{State, scan, shift_at, shift, mark, look, go_on, step}
use Rattle.kuhn_munkres.proofs.Ranges.{shift_p}
use Rattle.kuhn_munkres.proofs.Places.{keep_length, scan_kept}
use Rattle.hungarian.specs.Ends.{st}
use Rattle.hungarian.specs.Passes.{Two, Least, Pots, relaxed, chosen, lowered, paid, two, pots}
use Rattle.hungarian.proofs.Mask.{Outside, mask, mask_mark, scan_two, scan_least, shift_used, shift_delta, shift_paid, shift_lowered}

-- s is the state of these arrays: minv is m behind the mask
pub record Holds {N : Type 0} (O : Ops N) (s : State N) (u v minv : List N) (p way : List ℕ) (used : List Bool) (j0 : ℕ) (b : Least N) : Type 0 where
  pub m : List N
  pub is : s ≡ st u v m p way used j0 b
  pub masked : mask O used m ≡ minv
  pub long : length m ≡ 129
  pub way_long : length way ≡ 129
  pub used_long : length used ≡ 129

same : {N : Type 0} (s : State N) (u v m : List N) (p way : List ℕ) (used : List Bool) (j0 : ℕ) (b : Least N)
    → s.u ≡ u → s.v ≡ v → s.minv ≡ m → s.p ≡ p → s.way ≡ way → s.used ≡ used → s.j0 ≡ j0 → s.delta ≡ b.delta → s.j1 ≡ b.j1
    → s ≡ st u v m p way used j0 b
same s u v m p way used j0 b e1 e2 e3 e4 e5 e6 e7 e8 e9 = rw (← e1, ← e2, ← e3, ← e4, ← e5, ← e6, ← e7, ← e8, ← e9)

module _ {N : Type 0} (O : Ops N) (L : Outside O) (a : ℕ → ℕ → N) (n : ℕ) (few : n < 129) where
  -- the mark and the scan
  pub looked : (s : State N) (u v minv : List N) (p way : List ℕ) (used : List Bool) (j0 : ℕ) (b : Least N) → Holds O s u v minv p way used j0 b → j0 < 129
      → (minv' : List N) (way' : List ℕ) (b' : Least N)
      → two minv' way' ≡ relaxed O (a (get_or p j0 0)) (get_or u (get_or p j0 0) O.out) v j0 (two (set minv j0 O.out) way) n
      → b' ≡ chosen O minv' n
      → Holds O (look O a n s) u v minv' p way' (set used j0 true) j0 b'
  unfolding look mark
  looked s u v minv p way used j0 b h lt minv' way' b' ht hb =
      let x = mark O (st u v h.m p way used j0 b) in
      let i = get_or p j0 0 in
      let S = scan O (a i) (get_or u i O.out) x n in
      let K = scan_kept O (a i) (get_or u i O.out) x n in
      let e : set minv j0 O.out ≡ mask O (set used j0 true) h.m = ap (λ (l : List N). set l j0 O.out) (sym h.masked) ∙ mask_mark O used h.m j0 (omega (arith, h.used_long)) in
      let T : two minv' way' ≡ two (mask O (set used j0 true) S.minv) S.way = ht ∙ ap (λ (l : List N). relaxed O (a i) (get_or u i O.out) v j0 (two l way) n) e ∙ scan_two O L (a i) (get_or u i O.out) x n in
      let M : minv' ≡ mask O (set used j0 true) S.minv = ap (λ (t : Two N). t.minv) T in
      let B : b' ≡ record { delta = S.delta; j1 = S.j1 } = hb ∙ ap (λ (l : List N). chosen O l n) M ∙ scan_least O L (a i) (get_or u i O.out) x n n (omega arith) (omega (arith, h.long)) (omega (arith, h.way_long)) refl refl in
      record {
        m = S.minv;
        is = ap (λ (y : State N). look O a n y) h.is
            ∙ same S u v S.minv p way' (set used j0 true) j0 b' K.u_is K.v_is refl K.p_is (sym (ap (λ (t : Two N). t.way) T)) K.used_is K.j0_is (sym (ap (λ (t : Least N). t.delta) B)) (sym (ap (λ (t : Least N). t.j1) B));
        masked = sym M;
        long = K.minv_long ∙ h.long;
        way_long = ap (λ (t : Two N). length t.way) T ∙ K.way_long ∙ h.way_long;
        used_long = length-set used j0 true ∙ h.used_long;
      }

  shift_way : (s : State N) (k : ℕ) → (shift O s k).way ≡ s.way
  unfolding shift shift_at
  shift_way s zero = refl
  shift_way s (suc k) = shift_way s k

  shift_j1 : (s : State N) (k : ℕ) → (shift O s k).j1 ≡ s.j1
  unfolding shift shift_at
  shift_j1 s zero = refl
  shift_j1 s (suc k) = shift_j1 s k

  shift_long : (s : State N) (k : ℕ) → length (shift O s k).minv ≡ length s.minv
  unfolding shift shift_at
  shift_long s zero = refl
  shift_long s (suc k) = keep_length (get_or (shift O s k).used k false) (shift O s k).minv k (O.sub (get_or (shift O s k).minv k O.out) (shift O s k).delta) ∙ shift_long s k

  -- the step by delta, and on to the nearest column
  pub stepped : (s : State N) (u v minv : List N) (p way : List ℕ) (used : List Bool) (j0 : ℕ) (b : Least N) → Holds O s u v minv p way used j0 b
      → (u' v' minv' : List N)
      → pots u' v' ≡ paid O used p b.delta (pots u v) (n + 1)
      → minv' ≡ lowered O b.delta minv (n + 1)
      → Holds O (step O n s) u' v' minv' p way used b.j1 b
  unfolding step go_on
  stepped s u v minv p way used j0 b h u' v' minv' hp hl =
      let x = st u v h.m p way used j0 b in
      let X = shift O x (n + 1) in
      let P : pots u' v' ≡ pots X.u X.v = hp ∙ shift_paid O L x (n + 1) in
      let M : minv' ≡ mask O used X.minv = hl ∙ ap (λ (l : List N). lowered O b.delta l (n + 1)) (sym h.masked) ∙ shift_lowered O L x (n + 1) in
      record {
        m = X.minv;
        is = ap (λ (y : State N). step O n y) h.is
            ∙ same (go_on O X) u' v' X.minv p way used b.j1 b (sym (ap (λ (t : Pots N). t.u) P)) (sym (ap (λ (t : Pots N). t.v) P)) refl (shift_p O x (n + 1)) (shift_way x (n + 1)) (shift_used O L x (n + 1)) (shift_j1 x (n + 1)) (shift_delta O L x (n + 1)) (shift_j1 x (n + 1));
        masked = sym M;
        long = shift_long x (n + 1) ∙ h.long;
        way_long = h.way_long;
        used_long = h.used_long;
      }
