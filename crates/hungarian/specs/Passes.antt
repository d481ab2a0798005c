-- The steps of a turn as the code takes them: the columns that are used have `out` in minv, so no step asks which they are; the scan is two passes. Any numbers.
use Rattle.std.specs.Prelude.{◌≡◌, Bool, true, false, cond, List, ℕ, zero, suc, ◌+◌, ◌≤◌, ◌<◌, get_or, set}
use Rattle.kuhn_munkres.specs.Ops.{Ops}

pub record Two (N : Type 0) : Type 0 where
  pub minv : List N
  pub way : List ℕ

pub record Least (N : Type 0) : Type 0 where
  pub delta : N
  pub j1 : ℕ

pub record Pots (N : Type 0) : Type 0 where
  pub u : List N
  pub v : List N

module _ {N : Type 0} (O : Ops N) where
  abbrev pub relax_at : ℕ → N → ℕ → Two N → Two N
  relax_at j cur j0 t =
      let m = get_or t.minv j O.out in
      record { minv = set t.minv j (cond (O.lt cur m) cur m); way = set t.way j (cond (O.lt cur m) j0 (get_or t.way j 0)) }

  -- columns 1 .. k of a row with costs a
  unfoldable pub relaxed : (ℕ → N) → N → List N → ℕ → Two N → ℕ → Two N
  relaxed a ui v j0 s zero = s
  relaxed a ui v j0 s (suc k) = relax_at (k + 1) (O.sub (O.sub (a (k + 1)) ui) (get_or v (k + 1) O.out)) j0 (relaxed a ui v j0 s k)

  abbrev pub better : ℕ → N → Least N → Least N
  better j x d = record { delta = cond (O.lt x d.delta) x d.delta; j1 = cond (O.lt x d.delta) j d.j1 }

  -- the least of columns 1 .. k, the first on a tie
  unfoldable pub chosen : List N → ℕ → Least N
  chosen m zero = record { delta = O.top; j1 = 0 }
  chosen m (suc k) = better (k + 1) (get_or m (k + 1) O.out) (chosen m k)

  -- places 0 .. k - 1
  unfoldable pub lowered : N → List N → ℕ → List N
  lowered d m zero = m
  lowered d m (suc k) = let t = lowered d m k in set t k (O.sub (get_or t k O.out) d)

  abbrev pub pay_at : List Bool → List ℕ → N → ℕ → Pots N → Pots N
  pay_at used p d k t =
      let i = get_or p k 0 in
      record {
        u = cond (get_or used k false) (set t.u i (O.add (get_or t.u i O.out) d)) t.u;
        v = cond (get_or used k false) (set t.v k (O.sub (get_or t.v k O.out) d)) t.v;
      }

  unfoldable pub paid : List Bool → List ℕ → N → Pots N → ℕ → Pots N
  paid used p d s zero = s
  paid used p d s (suc k) = pay_at used p d k (paid used p d s k)

  -- t' is the work on columns 1 .. hi if t is that on columns 1 .. lo, from whatever start
  abbrev pub Relaxes : (ℕ → N) → N → List N → ℕ → ℕ → ℕ → Two N → Two N → Type 0
  Relaxes a ui v j0 lo hi t t' = (s : Two N) → t ≡ relaxed a ui v j0 s lo → t' ≡ relaxed a ui v j0 s hi

  -- the same where columns lo + 1 .. hi cost e
  abbrev pub Evenly : N → N → List N → ℕ → ℕ → ℕ → Two N → Two N → Type 0
  Evenly e ui v j0 lo hi t t' = (a : ℕ → N) → ((k : ℕ) → lo ≤ k → k < hi → a (k + 1) ≡ e) → Relaxes a ui v j0 lo hi t t'

  -- the same where their costs stand in the table from at + lo
  abbrev pub Listed : List N → ℕ → N → N → List N → ℕ → ℕ → ℕ → Two N → Two N → Type 0
  Listed costs at far ui v j0 lo hi t t' =
      (a : ℕ → N) → ((k : ℕ) → lo ≤ k → k < hi → a (k + 1) ≡ (let c = get_or costs (at + k) O.out in cond (O.finite c) c far)) → Relaxes a ui v j0 lo hi t t'

  abbrev pub Pays : List Bool → List ℕ → N → ℕ → ℕ → Pots N → Pots N → Type 0
  Pays used p d lo hi t t' = (s : Pots N) → t ≡ paid used p d s lo → t' ≡ paid used p d s hi

  -- none of columns k + 1 .. k + 8 is below d
  abbrev pub Quiet : List N → ℕ → N → Type 0
  Quiet m k d = (i : ℕ) → i < 8 → O.lt (get_or m (k + (i + 1)) O.out) d ≡ false

  abbrev pub QuietIf : Bool → List N → ℕ → N → Type 0
  QuietIf true m k d = Quiet m k d
  QuietIf false m k d = Unit {0}

-- none of places k .. k + 7 is used
abbrev pub FreeIf : Bool → List Bool → ℕ → Type 0
FreeIf true used k = (i : ℕ) → i < 8 → get_or used (k + i) false ≡ false
FreeIf false used k = Unit {0}

-- what the code's arrays and structs are
abbrev pub two : {N : Type 0} → List N → List ℕ → Two N
two m w = record { minv = m; way = w }

abbrev pub pots : {N : Type 0} → List N → List N → Pots N
pots u v = record { u = u; v = v }
