-- The candidates as a list, by the places that are taken: how many there are, and what stores make of it. Assumes nothing.
use mathlib.Core.Path.{◌≡◌, refl, sym, ap, ◌∙◌}
use mathlib.Core.List.{List, [], ◌∷◌, ◌++◌}
use Prim.Native.Nat.{ℕ, min, ◌+◌, ◌-◌, ◌≤◌, ◌<◌}
use native.Mathlib.Omega.{arith}
use borrow.Author.Tests.{lt-ltb}
use lib.ListN.{length, take, drop, set, get_or, length-take}
use Rattle.number.specs.Reply.{Reply, refused, given}
use Rattle.number.proofs.Replies.{given_same, never_given}
use Rattle.lists.specs.Lay.{lay}
use Rattle.lists.specs.Table.{table, pushed, swap_remove}
use Rattle.lists.proofs.Laying.{take_lay}
use Rattle.lists.proofs.Tables.{rows, replaced, swapped, pushed_room, pushed_fits, unchanged}
use Rattle.types.specs.declared.tracker.BirthCandidate.{BirthCandidate}
use Rattle.birth_candidates.specs.declared.Candidates.{Candidates}
use Rattle.birth_candidates.specs.Candidates.{list_of, held, over, no_candidate, after_aging}

module _ (c : Candidates) (n : ℕ) (size : length c.items ≡ 64) where
  pub list_length : n ≡ min c.count 64 → (n ≡ length (list_of c)) × (n ≤ 64)
  unfolding list_of
  list_length taken = (omega (arith, length-take c.count c.items), omega arith)

  module _ (long : n ≡ length (list_of c)) where
    taken : n ≡ min c.count 64
    unfolding list_of
    taken = omega (arith, length-take c.count c.items)

    pub few : n ≤ 64
    few = omega (arith, taken)

    pub front : list_of c ≡ take n c.items
    unfolding list_of
    front = rows c.items 64 c.count n size taken

    pub replace_at : (k : ℕ) (x : BirthCandidate) → k < n → held (table (set c.items k x) n) ≡ over c (set (list_of c) k x)
    unfolding list_of
    replace_at k x h = ap held (replaced c.items 64 c.count n size taken k x h)

    pub remove_at : (k : ℕ) → k < n → held (table (set c.items k (get_or c.items (n - 1) no_candidate)) (n - 1)) ≡ over c (swap_remove k (list_of c))
    unfolding list_of
    remove_at k h = ap held (swapped c.items 64 c.count n size taken k no_candidate h)

    pub push_at : (x : BirthCandidate) → n < 64 → held (table (set c.items n x) (n + 1)) ≡ over c (list_of c ++ (x ∷ []))
    push_at x h = room ∙ ap (over c) (pushed_fits 64 x (list_of c) (lt-ltb (length (list_of c)) 64 (omega (arith, long))))
      where
        room : held (table (set c.items n x) (n + 1)) ≡ over c (pushed 64 x (list_of c))
        room = unfold list_of in ap held (pushed_room c.items 64 c.count n size taken x h)

    pub same_at : held (table c.items n) ≡ over c (list_of c)
    unfolding list_of
    same_at = ap held (unchanged c.items 64 c.count n size taken (λ l. l) refl)

-- the first n places of others, over those of c
pub laid_at : (c kept : Candidates) (n : ℕ) (m : List BirthCandidate) → length kept.items ≡ 64 → n ≡ length (list_of kept) → m ≡ take n kept.items
    → record { items = m ++ drop n c.items; count = n } ≡ over c (list_of kept)
unfolding lay
laid_at c kept n m size long e =
    let f : m ≡ list_of kept = e ∙ sym (front kept n size long) in
    (λ q. record { items = f q ++ drop (long q) c.items; count = long q })

-- ---- what is answered, as the list that is left

pub listed : (c : Candidates) (l : List BirthCandidate) → list_of (over c l) ≡ l
unfolding list_of
listed c l = take_lay l c.items

pub aged_is : (c u : Candidates) (reply : Reply (List BirthCandidate)) → given u ≡ after_aging c reply → reply ≡ given (list_of u)
aged_is c u (refused n) e = never_given n u (sym e)
aged_is c u (given l) e = ap given (sym (ap list_of (given_same u (over c l) e) ∙ listed c l))

pub aged_not : (c : Candidates) (n : ℕ) (reply : Reply (List BirthCandidate)) → refused n ≡ after_aging c reply → reply ≡ refused n
aged_not c n (refused m) e = cc
aged_not c n (given l) e = never_given n (over c l) e
