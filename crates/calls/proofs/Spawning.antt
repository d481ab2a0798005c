-- Births: what they leave alone, what they tell, and that with some detections last the births before them are as without those. Assumes nothing.
use Rattle.std.specs.Prelude.{None, Option, Some}
use mathlib.Core.Path.{◌≡◌, refl, sym, ap, ◌∙◌, subst}
use mathlib.Core.List.Memᴰ
use mathlib.Core.List.{List, [], ◌∷◌, map, Memᴰ}
use mathlib.Core.Logic.{◌⊎◌, inl, inr}
use mathlib.Core.Bool.{Bool, true, false, ◌&&◌}
use Prim.Native.Nat.{ℕ, suc, ◌≤◌, ◌<◌, ◌^◌, ◌-◌}
use native.Mathlib.Omega.{arith}
use lib.Dec.{ltb}
use lib.IntN.{ℤ}
use lib.ListN.{length}
use Rattle.number.specs.Reply.{given}
use Rattle.settings.specs.declared.Cartesian3DTrackerConfig.{Cartesian3DTrackerConfig}
use Rattle.matrix.specs.Matrix.{Vector}
use Rattle.detections.specs.declared.Detection.{Detection}
use Rattle.types.specs.declared.track.Track3D.{Track3D}
use Rattle.types.specs.declared.tracker.BirthCandidate.{BirthCandidate}
use Rattle.types.specs.States.{State}
use Rattle.calls.specs.Numbers.{track_of, Numbered}
use Rattle.calls.specs.Update.{moving, Match, Column}
use Rattle.calls.specs.Births.{Fate, updated, spawned, unmatched, Born, Births, sighted, born_filter, born_track, born_under, spawned_by, with_candidates, born_if_enough, born_or_sighted, born_unless_low, born_unless_taken, births_of}
use Rattle.number.proofs.Replies.{given_same, bound, past_test}
use Rattle.calls.proofs.Ascends.{ascend_last, track_before, track_last}

abbrev pub match_in : Fate → Option Match
match_in (updated m) = Some m
match_in (spawned n) = None
match_in unmatched = None

-- b comes after a: the numbers below a's next one have the tracks that they had
pub record Later (a b : State) : Type 0 where
  pub rises : a.next ≤ b.next
  pub stays : (n : ℕ) → n < a.next → track_of n b.tracks ≡ track_of n a.tracks

pub later_refl : (a : State) → Later a a
later_refl a = record { rises = omega arith; stays = λ n h. refl }

pub later_trans : (a b c : State) → Later a b → Later b c → Later a c
later_trans a b c p q = record { rises = omega (arith, p.rises, q.rises); stays = λ n h. q.stays n (omega (arith, p.rises)) ∙ p.stays n h }

-- one detection, whose column had the pair p
record Told (p : Option Match) (s : State) (r : Born) : Type 0 where
  later : Later s r.state
  told : match_in r.fate ≡ p
  ascends : Numbered s → Numbered r.state
  found : (n : ℕ) → r.fate ≡ spawned n → (n < r.state.next) × ((t : Track3D) × (track_of n r.state.tracks ≡ Some t))

module _ (c : Cartesian3DTrackerConfig) (sensor : ℕ) (now : ℤ) where
  still : (s : State) (l : List BirthCandidate) → Told None s (record { state = with_candidates l s; fate = unmatched })
  still s l =
      record { later = record { rises = omega arith; stays = λ n h. refl }; told = refl; ascends = λ h. h; found = λ n e. absurd (let z : ◌≡◌ {A = ℕ} 0 1 = cc in omega arith) }

  spawned_told : (sightings : ℕ) (d : Detection) (s : State) (r : Born) → spawned_by c sensor now sightings d s ≡ given r → Told None s r
  unfolding spawned_by
  spawned_told sightings d s r e =
      let q = past_test (ltb (length s.tracks) 64 && ltb s.next (2 ^ 64 - 1)) 11 _ r e in
      let p = bound (born_filter c.initial_velocity_variance (moving c d) d) _ r q.1 in
      let t : Track3D = born_under c sensor now s sightings d p.0 in
      let number : t.id ≡ s.next = (unfold born_track in refl) in
      subst (Told None s) (given_same _ r p.2)
      (record {
        later = record { rises = omega arith; stays = λ n h. track_before n s.tracks t (omega (arith, number)) };
        told = refl;
        ascends = ascend_last s.tracks t s.next number;
        found = λ n z. let same : s.next ≡ n = cc in rw (← same) (omega arith, track_last s.next s.tracks t number);
      })

  born_told : (o : Option ℕ) (d : Detection) (s : State) (l : List BirthCandidate) (r : Born) → born_if_enough c sensor now d (with_candidates l s) o ≡ given r → Told None s r
  unfolding born_if_enough
  born_told None d s l r e = subst (Told None s) (given_same _ r e) (still s l)
  born_told (Some n) d s l r e =
      let q = spawned_told n d (with_candidates l s) r e in
      record { later = record { rises = q.later.rises; stays = q.later.stays }; told = q.told; ascends = q.ascends; found = q.found }

  near_told : (b : Bool) (d : Detection) (s : State) (r : Born) → born_or_sighted c sensor now b d s ≡ given r → Told None s r
  unfolding born_or_sighted
  near_told false d s r e = spawned_told 1 d s r e
  near_told true d s r e =
      let p = bound (sighted c now d s.candidates) _ r e in
      born_told p.0.enough d s p.0.candidates r p.2

  low_told : (b near : Bool) (d : Detection) (s : State) (r : Born) → born_unless_low c sensor now b near d s ≡ given r → Told None s r
  unfolding born_unless_low
  low_told true near d s r e = subst (Told None s) (given_same _ r e) (still s s.candidates)
  low_told false near d s r e = near_told near d s r e

  module _ (places : List Vector) where
    from_told : (p : Option Match) (d : Detection) (s : State) (r : Born) → born_unless_taken c sensor now places p d s ≡ given r → Told p s r
    unfolding born_unless_taken
    from_told None d s r e = low_told _ _ d s r e
    from_told (Some m) d s r e =
        subst (Told (Some m) s) (given_same _ r e)
        (record { later = later_refl s; told = refl; ascends = λ h. h; found = λ n q. absurd (let z : ◌≡◌ {A = ℕ} 0 1 = cc in omega arith) })

    -- ---- a column, then the others

    pub record Walk (k : Column) (l : List Column) (s : State) (w : Births) : Type 0 where
      pub one : Born
      pub rest : Births
      pub first : born_unless_taken c sensor now places k.pair k.detection s ≡ given one
      pub then : births_of c sensor now places l one.state ≡ given rest
      pub whole : w ≡ record { state = rest.state; fates = one.fate ∷ rest.fates }

    pub births_nil : (s : State) (w : Births) → births_of c sensor now places [] s ≡ given w → w ≡ record { state = s; fates = [] }
    unfolding births_of
    births_nil s w e = cc

    pub births_walk : (k : Column) (l : List Column) (s : State) (w : Births) → births_of c sensor now places (k ∷ l) s ≡ given w → Walk k l s w
    unfolding births_of
    births_walk k l s w e =
        let p = bound (born_unless_taken c sensor now places k.pair k.detection s) _ w e in
        let q = bound (births_of c sensor now places l p.0.state) _ w p.2 in
        record { one = p.0; rest = q.0; first = p.1; then = q.1; whole = sym (given_same _ w q.2) }

    pub walk_births : (k : Column) (l : List Column) (s : State) (w : Births) → Walk k l s w → births_of c sensor now places (k ∷ l) s ≡ given w
    unfolding births_of
    walk_births k l s w p = rw (p.first, p.then, p.whole)

    walk_told : (k : Column) (l : List Column) (s : State) (w : Births) (p : Walk k l s w) → Told k.pair s p.one
    walk_told k l s w p = from_told k.pair k.detection s p.one p.first

    -- ---- what all births leave alone and tell

    pub births_later : (l : List Column) (s : State) (w : Births) → births_of c sensor now places l s ≡ given w → Later s w.state
    births_later [] s w e = rw (births_nil s w e) (later_refl s)
    births_later (k ∷ l) s w e =
        let p = births_walk k l s w e in
        rw p.whole (later_trans s p.one.state p.rest.state (walk_told k l s w p).later (births_later l p.one.state p.rest p.then))

    pub births_ascend : (l : List Column) (s : State) (w : Births) → births_of c sensor now places l s ≡ given w → Numbered s → Numbered w.state
    births_ascend [] s w e h = rw (births_nil s w e) h
    births_ascend (k ∷ l) s w e h =
        let p = births_walk k l s w e in
        rw p.whole (births_ascend l p.one.state p.rest p.then ((walk_told k l s w p).ascends h))

    pub births_length : (l : List Column) (s : State) (w : Births) → births_of c sensor now places l s ≡ given w → length w.fates ≡ length l
    births_length [] s w e = rw (births_nil s w e)
    births_length (k ∷ l) s w e =
        let p = births_walk k l s w e in rw p.whole (ap suc (births_length l p.one.state p.rest p.then))

    pub births_told : (l : List Column) (s : State) (w : Births) → births_of c sensor now places l s ≡ given w → map match_in w.fates ≡ map (λ k. k.pair) l
    births_told [] s w e = rw (births_nil s w e)
    births_told (k ∷ l) s w e =
        let p = births_walk k l s w e in
        rw (p.whole, (walk_told k l s w p).told, births_told l p.one.state p.rest p.then)

    -- the track of a birth is in the table
    abbrev Found : ℕ → State → Type 0
    Found n s = (n < s.next) × ((t : Track3D) × (track_of n s.tracks ≡ Some t))

    found_first : (k : Column) (l : List Column) (s : State) (w : Births) (p : Walk k l s w) (n : ℕ) → p.one.fate ≡ spawned n → Found n p.rest.state
    found_first k l s w p n q =
        let r = (walk_told k l s w p).found n q in
        let a = births_later l p.one.state p.rest p.then in
        (omega (arith, r.0, a.rises), (r.1.0, a.stays n r.0 ∙ r.1.1))

    found_walk : (k : Column) (l : List Column) (s : State) (w : Births) (p : Walk k l s w) (n : ℕ) → (Memᴰ (spawned n) p.rest.fates → Found n p.rest.state)
        → Memᴰ (spawned n) w.fates → Found n w.state
    found_walk k l s w p n f m =
        subst (λ (v : Births). Found n v.state) (sym p.whole)
        (go (Memᴰ.cases_cons (subst (λ (v : Births). Memᴰ (spawned n) v.fates) p.whole m)))
      where
        go : (spawned n ≡ p.one.fate) ⊎ Memᴰ (spawned n) p.rest.fates → Found n p.rest.state
        go (inr m) = f m
        go (inl q) = found_first k l s w p n (sym q)

    pub births_found : (l : List Column) (s : State) (w : Births) → births_of c sensor now places l s ≡ given w → (n : ℕ) → Memᴰ (spawned n) w.fates
        → (n < w.state.next) × ((t : Track3D) × (track_of n w.state.tracks ≡ Some t))
    births_found [] s w e n m = absurd (Memᴰ.not-nil (subst (λ (v : Births). Memᴰ (spawned n) v.fates) (births_nil s w e) m))
    births_found (k ∷ l) s w e n m =
        let p = births_walk k l s w e in
        found_walk k l s w p n (births_found l p.one.state p.rest p.then n) m
