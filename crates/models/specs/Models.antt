-- Motion at constant velocity and what is measured of it. A state has the positions of its axes first, then their velocities.
use Rattle.std.specs.Prelude.{ℕ, ◌+◌, cond, ltb, eqb, Float}
use Rattle.std.specs.Float.{binary64}
use Rattle.std.specs.Float.Ieee.{add, mul, div, of_bits}
use Rattle.matrix.specs.Matrix.{Matrix, tabulate, nought, one}

-- each axis moves by dt times its velocity
unfoldable pub transition : ℕ → Float → Matrix
transition axes dt = tabulate (axes + axes) (λ i. tabulate (axes + axes) (λ j. cond (eqb i j) one (cond (eqb j (i + axes)) dt nought)))

-- 01, Matrix: "Prediction noise for dt, q: position (q × dt³) / 3 with dt³ = (dt × dt) × dt, cross (q × dt²) / 2, velocity q × dt, each added to +0."
abbrev pub noise_of_position : Float → Float → Float
noise_of_position dt q = add binary64 nought (div binary64 (mul binary64 q (mul binary64 (mul binary64 dt dt) dt)) (of_bits binary64 0x4008_0000_0000_0000))

abbrev pub noise_across : Float → Float → Float
noise_across dt q = add binary64 nought (div binary64 (mul binary64 q (mul binary64 dt dt)) (of_bits binary64 0x4000_0000_0000_0000))

abbrev pub noise_of_velocity : Float → Float → Float
noise_of_velocity dt q = add binary64 nought (mul binary64 q dt)

unfoldable pub noise : ℕ → Float → Float → Matrix
noise axes dt q =
    tabulate (axes + axes) (λ i. tabulate (axes + axes) (λ j.
    cond (eqb i j) (cond (ltb i axes) (noise_of_position dt q) (noise_of_velocity dt q))
    (cond (eqb j (i + axes)) (noise_across dt q) (cond (eqb i (j + axes)) (noise_across dt q) nought))))

-- the k items of a state of n from place `first` on
unfoldable pub selection : ℕ → ℕ → ℕ → Matrix
selection k n first = tabulate k (λ i. tabulate n (λ j. cond (eqb j (i + first)) one nought))

-- the covariance of k items measured apart from each other: the identity times a variance
unfoldable pub isotropic : ℕ → Float → Matrix
isotropic k variance = tabulate k (λ i. tabulate k (λ j. mul binary64 (cond (eqb i j) one nought) variance))
