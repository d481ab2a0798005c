-- The candidates aged: the turns of a loop that weeds them, and what it answers, at a refusal and at its end. Assumes nothing.
use mathlib.Core.Path.{◌≡◌, sym, ap, ◌∙◌}
use mathlib.Core.Bool.{Bool, true, false}
use mathlib.Core.List.{List}
use Prim.Native.Nat.{ℕ, ◌+◌, ◌≤◌, ◌<◌}
use native.Mathlib.Omega.{arith}
use lib.IntN.{ℤ}
use lib.ListN.{length, take, get_or, set, length-take}
use lib.Seq.{get_or-take}
use Rattle.number.specs.Reply.{Reply, refused, given}
use Rattle.lists.specs.Masks.{left_by}
use Rattle.lists.specs.Each.{each}
use Rattle.lists.proofs.Weeding.{Weeded, weeded_read, weeded_keep, weeded_drop, weeded_stops}
use Rattle.types.specs.declared.tracker.BirthCandidate.{BirthCandidate}
use Rattle.calls.specs.Births.{stays, remaining}
use Rattle.birth_candidates.specs.declared.Candidates.{Candidates}
use Rattle.birth_candidates.specs.Candidates.{list_of, over, no_candidate, after_aging}
use Rattle.birth_candidates.proofs.Listing.{front}

-- ---- the turns of the loop, which goes over the first n of l
module _ (f : BirthCandidate → Reply Bool) (l m : List BirthCandidate) (n i j : ℕ) (s : Weeded f l m i j) (inside : i < length (take n l)) where
  among : i < n
  among = omega (arith, inside, length-take n l)

  whole : i < length l
  whole = omega (arith, inside, length-take n l)

  abbrev x : BirthCandidate
  x = get_or (take n l) i no_candidate

  same : x ≡ get_or m i no_candidate
  same = get_or-take n l i no_candidate among ∙ sym (weeded_read f l m i j no_candidate s)

  pub kept_more : f x ≡ given true → Weeded f l (set m j x) (i + 1) (j + 1)
  kept_more e = rw same (weeded_keep f l m i j no_candidate s whole (ap f (sym same) ∙ e))

  pub gone_more : f x ≡ given false → Weeded f l m (i + 1) j
  gone_more e = weeded_drop f l m i j no_candidate s whole (ap f (sym same) ∙ e)

  pub gone_stops : n ≤ length l → (k : ℕ) → f x ≡ refused k → each f (take n l) ≡ refused k
  gone_stops h k e = weeded_stops f l m n i j no_candidate k s among h (ap f (sym same) ∙ e)

-- ---- what it answers
module _ (timeout now : ℤ) (c : Candidates) (n : ℕ) (size : length c.items ≡ 64) (long : n ≡ length (list_of c)) where
  pub age_refused : (k : ℕ) → each (stays timeout now) (take n c.items) ≡ refused k → refused k ≡ after_aging c (remaining timeout now (list_of c))
  unfolding remaining
  age_refused k e = rw (front c n size long, e)

  pub age_done : (items : List BirthCandidate) (kept : ℕ) → Weeded (stays timeout now) c.items items n kept
      → given (record { items = items; count = kept }) ≡ after_aging c (remaining timeout now (list_of c))
  unfolding remaining
  age_done items kept w =
      let l : List BirthCandidate = left_by w.keep (take n c.items) in
      let left : ◌≡◌ {A = Candidates} (record { items = items; count = kept }) (over c l) = (λ k. record { items = w.slots k; count = w.count k }) in
      rw (front c n size long, w.gives) (ap given left)
