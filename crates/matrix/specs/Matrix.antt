-- Matrices of binary64 numbers as lists of rows, of any size, with every operation rounded once and in a fixed order.
-- 01, Matrix: "A matrix is passed by value as rows of numbers. Each product entry is summed from its first term to its last, every operation rounded once, none fused."
use Rattle.std.specs.Prelude.{ℕ, zero, suc, Bool, true, ◌&&◌, cond, List, [], ◌∷◌, eqb, get_or, Float}
use Rattle.std.specs.Float.{nan, binary64}
use Rattle.std.specs.Float.Ieee.{add, sub, mul, of_bits}

abbrev pub Vector : Type 0
Vector = List Float

abbrev pub Matrix : Type 0
Matrix = List (List Float)

-- what stands at place k of a vector, in row i, and in row i and column j
abbrev pub item : Vector → ℕ → Float
item x k = get_or x k nan

abbrev pub row : Matrix → ℕ → Vector
row a i = get_or a i []

abbrev pub entry : Matrix → ℕ → ℕ → Float
entry a i j = item (row a i) j

-- f 0, f 1, .. of n items
abbrev pub tabulate : {A : Type 0} → ℕ → (ℕ → A) → List A
tabulate zero f = []
tabulate (suc n) f = f 0 ∷ tabulate n (λ k. f (suc k))

-- +0, 0.5 and 1
abbrev pub nought : Float
nought = of_bits binary64 0

abbrev pub half : Float
half = of_bits binary64 0x3fe0_0000_0000_0000

abbrev pub one : Float
one = of_bits binary64 0x3ff0_0000_0000_0000

-- f 0 + f 1 + .. + f n, from the first to the last
abbrev pub sum_to : ℕ → (ℕ → Float) → Float
sum_to zero f = f 0
sum_to (suc n) f = add binary64 (sum_to n f) (f (suc n))

-- the sum of n terms. It starts at the first term, so nothing is added to 0, and it is +0 only where there is no term.
abbrev pub sum_of : ℕ → (ℕ → Float) → Float
sum_of zero f = nought
sum_of (suc n) f = sum_to n f

-- the sum of all entries of an n by p matrix, column by column
abbrev pub total : ℕ → ℕ → Matrix → Float
total n p a = sum_of p (λ j. sum_of n (λ i. entry a i j))

-- f 0, f 1, .. of n tests, all true
abbrev pub all_of : ℕ → (ℕ → Bool) → Bool
all_of zero f = true
all_of (suc n) f = all_of n f && f n

-- the product of two vectors of n items
abbrev pub dot : ℕ → Vector → Vector → Float
dot n x y = sum_of n (λ k. mul binary64 (item x k) (item y k))

-- a row of m items times an m by p matrix
unfoldable pub row_times : ℕ → ℕ → Vector → Matrix → Vector
row_times m p x b = tabulate p (λ j. sum_of m (λ k. mul binary64 (item x k) (entry b k j)))

-- an n by m matrix times an m by p matrix
unfoldable pub product : ℕ → ℕ → ℕ → Matrix → Matrix → Matrix
product n m p a b = tabulate n (λ i. row_times m p (row a i) b)

-- an n by m matrix times a vector
unfoldable pub times_vector : ℕ → ℕ → Matrix → Vector → Vector
times_vector n m a x = tabulate n (λ i. dot m (row a i) x)

-- the transpose of an n by p matrix
unfoldable pub transposed : ℕ → ℕ → Matrix → Matrix
transposed n p a = tabulate p (λ j. tabulate n (λ i. entry a i j))

-- 01, Filter: "(I−KH)P(I−KH)ᵀ + K R Kᵀ". What a, of n by m, makes of p, of m by m: (a p) aᵀ, the left product first.
unfoldable pub congruence : ℕ → ℕ → Matrix → Matrix → Matrix
congruence n m a p = product n m n (product n m m a p) (transposed n m a)

-- item by item, over n items
unfoldable pub plus_vector : ℕ → Vector → Vector → Vector
plus_vector n x y = tabulate n (λ k. add binary64 (item x k) (item y k))

unfoldable pub minus_vector : ℕ → Vector → Vector → Vector
minus_vector n x y = tabulate n (λ k. sub binary64 (item x k) (item y k))

unfoldable pub plus : ℕ → ℕ → Matrix → Matrix → Matrix
plus n p a b = tabulate n (λ i. plus_vector p (row a i) (row b i))

unfoldable pub minus : ℕ → ℕ → Matrix → Matrix → Matrix
minus n p a b = tabulate n (λ i. minus_vector p (row a i) (row b i))

-- 01, Matrix: "Symmetrize: 0.5 × (m + mᵀ)": row i of it, and the whole
unfoldable pub mean_row : ℕ → Matrix → ℕ → Vector
mean_row n a i = tabulate n (λ j. mul binary64 half (add binary64 (entry a i j) (entry a j i)))

unfoldable pub symmetrized : ℕ → Matrix → Matrix
symmetrized n a = tabulate n (λ i. mean_row n a i)

-- 1 where row and column are equal, else +0
unfoldable pub identity : ℕ → Matrix
identity n = tabulate n (λ i. tabulate n (λ j. cond (eqb i j) one nought))
