-- What a search leaves as it was, and how long the list of the columns' rows is: as long as the code's array.
use mathlib.Core.Path.{◌≡◌, refl, ap, ◌∙◌, subst}
use mathlib.Core.Bool.{Bool, true, false}
use Prim.Native.Nat.{ℕ, zero, suc, ◌+◌}
use lib.Dec.{eqb}
use lib.ListN.{get_or, set, length, length-set}
use Rattle.kuhn_munkres.specs.Ops.{Ops}
use Rattle.kuhn_munkres.specs.Steps.{State, Search, found, stopped, spent, mark, look, go_on, step, turned, search, start, settle, fresh, enter, leave, rows, size}
use Rattle.kuhn_munkres.proofs.Ranges.{shift_p, back_length}
use Rattle.kuhn_munkres.proofs.Places.{scan_kept, shift_kept}

module _ {N : Type 0} (O : Ops N) where
  -- the same holds of a state that is found
  unfoldable pub AllFound : (State N → Type 0) → Search N → Type 0
  AllFound P (found s) = P s
  AllFound P stopped = Unit {0}
  AllFound P spent = Unit {0}

  pub of_found : (P : State N → Type 0) (x : Search N) (s : State N) → x ≡ found s → AllFound P x → P s
  unfolding AllFound
  of_found P x s e h = subst (AllFound P) e h

  -- ---- a turn: the column looked at is marked, the step leaves the marks and the paths, and goes on at the column chosen
  pub look_used : (a : ℕ → ℕ → N) (n : ℕ) (s : State N) → (look O a n s).used ≡ set s.used s.j0 true
  unfolding look mark
  look_used a n s = (scan_kept O (a (get_or s.p s.j0 0)) (get_or s.u (get_or s.p s.j0 0) O.out) (mark O s) n).used_is

  pub turn_used : (a : ℕ → ℕ → N) (n : ℕ) (s : State N) → (step O n (look O a n s)).used ≡ set s.used s.j0 true
  unfolding step go_on
  turn_used a n s = (shift_kept O (look O a n s) (n + 1)).used_same ∙ look_used a n s

  pub turn_way : (a : ℕ → ℕ → N) (n : ℕ) (s : State N) → (step O n (look O a n s)).way ≡ (look O a n s).way
  unfolding step go_on
  turn_way a n s = (shift_kept O (look O a n s) (n + 1)).way_same

  pub turn_j0 : (a : ℕ → ℕ → N) (n : ℕ) (s : State N) → (step O n (look O a n s)).j0 ≡ (look O a n s).j1
  unfolding step go_on
  turn_j0 a n s = (shift_kept O (look O a n s) (n + 1)).j1_same

  pub turn_p : (a : ℕ → ℕ → N) (n : ℕ) (s : State N) → (step O n (look O a n s)).p ≡ s.p
  unfolding step go_on look mark
  turn_p a n s = shift_p O (look O a n s) (n + 1) ∙ (scan_kept O (a (get_or s.p s.j0 0)) (get_or s.u (get_or s.p s.j0 0) O.out) (mark O s) n).p_is

  turned_all : (P : State N → Type 0) (b free : Bool) (s : State N) (r : Search N) → P s → AllFound P r → AllFound P (turned O b free s r)
  unfolding AllFound
  turned_all P false free s r h g = tt
  turned_all P true true s r h g = h
  turned_all P true false s r h g = g

  pub all_map : (P Q : State N → Type 0) (x : Search N) → ((s : State N) → P s → Q s) → AllFound P x → AllFound Q x
  unfolding AllFound
  all_map P Q (found s) f h = f s h
  all_map P Q stopped f h = tt
  all_map P Q spent f h = tt

  pub search_p : (a : ℕ → ℕ → N) (n k : ℕ) (s : State N) → AllFound (λ t. t.p ≡ s.p) (search O a n k s)
  unfolding search AllFound
  search_p a n zero s = tt
  search_p a n (suc k) s =
      let x = step O n (look O a n s) in
      let e = turn_p a n s in
      turned_all (λ t. t.p ≡ s.p) (O.finite (look O a n s).delta) (eqb (get_or x.p x.j0 0) 0) x (search O a n k x) e
      (all_map (λ t. t.p ≡ x.p) (λ t. t.p ≡ s.p) (search O a n k x) (λ t q. q ∙ e) (search_p a n k x))

  pub rows_long : (a : ℕ → ℕ → N) (n k : ℕ) → AllFound (λ t. length t.p ≡ size) (rows O a n k)
  unfolding rows fresh AllFound
  rows_long a n zero = refl
  rows_long a n (suc k) = go (rows O a n k) (rows_long a n k)
    where
      settled : (x : Search N) → AllFound (λ t. length t.p ≡ size) x → AllFound (λ t. length t.p ≡ size) (leave O n x)
      settled (found s) h = unfold leave settle in (back_length O (n + 1) s.way s.p s.j0 ∙ h)
      settled stopped h = unfold leave in tt
      settled spent h = unfold leave in tt

      go : (x : Search N) → AllFound (λ t. length t.p ≡ size) x → AllFound (λ t. length t.p ≡ size) (leave O n (enter O a n (k + 1) x))
      go (found s) h = settled (enter O a n (k + 1) (found s)) (unfold enter start in all_map (λ t. t.p ≡ (start O (k + 1) s).p) (λ t. length t.p ≡ size) (search O a n (n + 1) (start O (k + 1) s)) (λ t q. ap length q ∙ length-set s.p 0 (k + 1) ∙ h) (search_p a n (n + 1) (start O (k + 1) s)))
      go stopped h = unfold enter leave in tt
      go spent h = unfold enter leave in tt
