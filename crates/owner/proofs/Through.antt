-- Elements that are kept in another form: what is done to each as it is meant is done to the list of what they mean, and put back. Assumes nothing.
use Rattle.std.specs.Prelude.{None, Option, Some}
use mathlib.Core.Path.{◌≡◌, refl, ap}
use mathlib.Core.List.{List, [], ◌∷◌, map}
use Prim.Native.Nat.{ℕ, zero, suc}
use lib.ListN.{take}
use Rattle.number.specs.Reply.{Reply, refused, given, and_then}
use Rattle.lists.specs.Sift.{sift, kept}
use Rattle.lists.specs.Each.{each, each_at}

pub map_take : {A B : Type 0} (f : A → B) (n : ℕ) (l : List A) → map f (take n l) ≡ take n (map f l)
map_take f zero l = refl
map_take f (suc n) [] = refl
map_take {A} {B} f (suc n) (x ∷ l) = ap {B = List B} (λ q. f x ∷ q) (map_take f n l)

abbrev pub kept_as : {A B : Type 0} (to : B → A) → Option B → Option A
kept_as to None = None
kept_as to (Some y) = Some (to y)

abbrev pub stored_as : {A B : Type 0} (put : B → A) → Reply B → Reply A
stored_as put r = and_then r (λ y. given (put y))

module _ {A B : Type 0} (of : A → B) (to put : B → A) (back : (x : B) → of (to x) ≡ x) where
  by_rest : (z : B) (r : Reply (List A)) (q : Reply (List B)) → r ≡ and_then q (λ ys. given (map put ys))
      → and_then r (λ m. given (put z ∷ m)) ≡ and_then (and_then q (λ m. given (z ∷ m))) (λ ys. given (map put ys))
  by_rest z r (refused n) e = rw e
  by_rest z r (given ys) e = rw e

  by_moved : (v : Reply B) (r : Reply (List A)) (q : Reply (List B)) → r ≡ and_then q (λ ys. given (map put ys))
      → and_then (stored_as put v) (λ z. and_then r (λ m. given (z ∷ m))) ≡ and_then (and_then v (λ z. and_then q (λ m. given (z ∷ m)))) (λ ys. given (map put ys))
  by_moved (refused n) r q e = refl
  by_moved (given z) r q e = by_rest z r q e

  -- each element that g keeps, changed by f
  pub sift_through : (g : B → Option B) (f : B → Reply B) (l : List A)
      → each (λ a. stored_as put (f (of a))) (sift (λ a. kept_as to (g (of a))) l) ≡ and_then (each f (sift g (map of l))) (λ ys. given (map put ys))
  unfolding each sift
  sift_through g f [] = refl
  sift_through g f (x ∷ l) = by_kept (g (of x)) (sift_through g f l)
    where
      by_kept : (o : Option B) → each (λ a. stored_as put (f (of a))) (sift (λ a. kept_as to (g (of a))) l) ≡ and_then (each f (sift g (map of l))) (λ ys. given (map put ys))
          → each (λ a. stored_as put (f (of a))) (kept (kept_as to o) (sift (λ a. kept_as to (g (of a))) l)) ≡ and_then (each f (kept o (sift g (map of l)))) (λ ys. given (map put ys))
      by_kept None e = e
      by_kept (Some y) e = rw (back y) (by_moved (f y) (each (λ a. stored_as put (f (of a))) (sift (λ a. kept_as to (g (of a))) l)) (each f (sift g (map of l))) e)

  -- each element at its place
  pub each_through : (f : ℕ → B → Reply B) (i : ℕ) (l : List B) → each_at (λ k a. stored_as put (f k (of a))) i (map to l) ≡ and_then (each_at f i l) (λ ys. given (map put ys))
  unfolding each_at
  each_through f i [] = refl
  each_through f i (x ∷ l) = rw (back x) (by_moved (f i x) (each_at (λ k a. stored_as put (f k (of a))) (suc i) (map to l)) (each_at f (suc i) l) (each_through f (suc i) l))
