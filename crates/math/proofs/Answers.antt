-- What the tests on the way of an answer say of the definition, whatever the size. Assumes nothing.
use mathlib.Core.Path.{◌≡◌, refl}
use mathlib.Core.Bool.{Bool, true, false}
use Prim.Native.Nat.{ℕ}
use lib.Ieee.{Float, lt}
use lib.Ieee.Scale.{finite}
use Rattle.number.specs.Reply.{Reply, refused, given, refuse_unless}
use Rattle.matrix.specs.Matrix.{Vector, Matrix, nought, dot}
use Rattle.finite.specs.Finite.{finite_vector, finite_matrix}
use Rattle.symmetry.specs.Symmetry.{is_symmetric}
use Rattle.solving.specs.Solving.{solved}
use Rattle.math.specs.Linalg.{entries_checked, entries_reply, distance_reply, distance_by}

-- ---- a squared distance

module _ (d : Float) where
  pub distance_above : finite d ≡ true → lt nought d ≡ true → given d ≡ distance_reply d
  unfolding distance_reply
  distance_above f t = rw (f, t)

  pub distance_nought : finite d ≡ true → lt nought d ≡ false → given nought ≡ distance_reply d
  unfolding distance_reply
  distance_nought f t = rw (f, t)

  pub distance_infinite : finite d ≡ false → refused 9 ≡ distance_reply d
  unfolding distance_reply
  distance_infinite f = rw f

module _ (n : ℕ) (l : Matrix) (u : Vector) where
  pub solution_finite : {r : Reply Float} → finite_vector n (solved n l u) ≡ true → r ≡ distance_reply (dot n u (solved n l u)) → r ≡ distance_by n l u
  unfolding distance_by
  solution_finite f e = rw f e

  pub solution_infinite : finite_vector n (solved n l u) ≡ false → refused 9 ≡ distance_by n l u
  unfolding distance_by
  solution_infinite f = rw f

-- ---- a covariance

module _ (n : ℕ) (a : Matrix) where
  -- what the entries' own check says of every reply behind it
  pub entries_pass : {A : Type 0} (r : Reply A) → given tt ≡ entries_reply n a → r ≡ entries_checked n a r
  unfolding entries_checked
  entries_pass {A} r e = go (finite_matrix n n a) (is_symmetric n a) e
    where
      go : (b c : Bool) → given tt ≡ refuse_unless {A = Unit {0}} b 5 (refuse_unless c 6 (given tt)) → r ≡ refuse_unless b 5 (refuse_unless c 6 r)
      go true true h = refl
      go true false h = cc
      go false c h = cc

  pub entries_stop : {A : Type 0} (r : Reply A) {m : ℕ} → refused m ≡ entries_reply n a → refused m ≡ entries_checked n a r
  unfolding entries_checked
  entries_stop {A} r {m} e = go (finite_matrix n n a) (is_symmetric n a) e
    where
      go : (b c : Bool) → refused m ≡ refuse_unless {A = Unit {0}} b 5 (refuse_unless c 6 (given tt)) → refused m ≡ refuse_unless b 5 (refuse_unless c 6 r)
      go true true h = cc
      go true false h = cc
      go false c h = cc
