-- The steps of `hungarian_square`, over any numbers. Rows and columns count from 1; place 0 of p is the row that is being put in.
use Rattle.std.specs.Prelude.{Bool, true, false, List, set, replicate, eqb}
use Rattle.std.proofs.Math.Bool.{cond}
use Prim.Native.Nat.{ℕ, zero, suc, ◌+◌}
use Rattle.std.proofs.Math.ListN.{get_or}
use Rattle.kuhn_munkres.specs.Ops.{Ops}

pub record State (N : Type 0) : Type 0 where
  pub u : List N
  pub v : List N
  pub minv : List N
  pub p : List ℕ
  pub way : List ℕ
  pub used : List Bool
  pub j0 : ℕ
  pub delta : N
  pub j1 : ℕ

-- a free column was reached; the smallest step was not finite; more turns than there are columns, which does not happen
pub data Search (N : Type 0) : Type 0 where
  found : State N → Search N
  stopped : Search N
  spent : Search N

-- as many places as the code's arrays have
abbrev pub size : ℕ
size = 129

module _ {N : Type 0} (O : Ops N) where
  -- column j, not used, with the reduced cost cur
  unfoldable pub relax : ℕ → N → State N → State N
  relax j cur s =
      let m = get_or s.minv j O.out in
      let b = O.lt cur m in
      let m' = cond b cur m in
      let d = O.lt m' s.delta in
      record {
        u = s.u;
        v = s.v;
        minv = cond b (set s.minv j cur) s.minv;
        p = s.p;
        way = cond b (set s.way j s.j0) s.way;
        used = s.used;
        j0 = s.j0;
        delta = cond d m' s.delta;
        j1 = cond d j s.j1;
      }

  -- columns 1 .. k of the scan of a row with costs a and potential ui
  unfoldable pub scan : (ℕ → N) → N → State N → ℕ → State N
  unfolding relax
  scan a ui s zero = s
  scan a ui s (suc k) =
      let t = scan a ui s k in
      cond (get_or s.used (k + 1) false) t (relax (k + 1) (O.sub (O.sub (a (k + 1)) ui) (get_or s.v (k + 1) O.out)) t)

  -- place k of the step by delta
  unfoldable pub shift_at : ℕ → State N → State N
  shift_at k s =
      let i = get_or s.p k 0 in
      let on = get_or s.used k false in
      record {
        u = cond on (set s.u i (O.add (get_or s.u i O.out) s.delta)) s.u;
        v = cond on (set s.v k (O.sub (get_or s.v k O.out) s.delta)) s.v;
        minv = cond on s.minv (set s.minv k (O.sub (get_or s.minv k O.out) s.delta));
        p = s.p;
        way = s.way;
        used = s.used;
        j0 = s.j0;
        delta = s.delta;
        j1 = s.j1;
      }

  -- places 0 .. k - 1
  unfoldable pub shift : State N → ℕ → State N
  unfolding shift_at
  shift s zero = s
  shift s (suc k) = shift_at k (shift s k)

  -- a turn: mark the column, scan its row
  unfoldable pub mark : State N → State N
  mark s =
      record { u = s.u; v = s.v; minv = s.minv; p = s.p; way = s.way; used = set s.used s.j0 true; j0 = s.j0; delta = O.top; j1 = 0 }

  unfoldable pub look : (ℕ → ℕ → N) → ℕ → State N → State N
  unfolding mark scan
  look a n s = let i0 = get_or s.p s.j0 0 in scan (a i0) (get_or s.u i0 O.out) (mark s) n

  -- and go on at the nearest column
  unfoldable pub go_on : State N → State N
  go_on s = record { u = s.u; v = s.v; minv = s.minv; p = s.p; way = s.way; used = s.used; j0 = s.j1; delta = s.delta; j1 = s.j1 }

  -- what a turn gives: the step is finite; the column reached is free; the state reached; what more turns give
  abbrev pub turned : Bool → Bool → State N → Search N → Search N
  turned false free s r = stopped
  turned true true s r = found s
  turned true false s r = r

  unfoldable pub step : ℕ → State N → State N
  unfolding shift go_on
  step n t = go_on (shift t (n + 1))

  unfoldable pub search : (ℕ → ℕ → N) → ℕ → ℕ → State N → Search N
  unfolding look step
  search a n zero s = spent
  search a n (suc k) s =
      let t = look a n s in
      let s' = step n t in
      let r = search a n k s' in
      turned (O.finite t.delta) (eqb (get_or s'.p s'.j0 0) 0) s' r

  -- the path back along way
  abbrev pub ended : Bool → List ℕ → List ℕ → List ℕ
  ended true p r = p
  ended false p r = r

  unfoldable pub back : ℕ → List ℕ → List ℕ → ℕ → List ℕ
  back zero way p j = p
  back (suc k) way p j =
      let j1 = get_or way j 0 in
      let p' = set p j (get_or p j1 0) in
      let r = back k way p' j1 in
      ended (eqb j1 0) p' r

  unfoldable pub start : ℕ → State N → State N
  start i s =
      record { u = s.u; v = s.v; minv = replicate size O.top; p = set s.p 0 i; way = s.way; used = replicate size false; j0 = 0; delta = s.delta; j1 = s.j1 }

  abbrev pub with_p : State N → List ℕ → State N
  with_p s p = record { u = s.u; v = s.v; minv = s.minv; p = p; way = s.way; used = s.used; j0 = s.j0; delta = s.delta; j1 = s.j1 }

  unfoldable pub settle : ℕ → State N → State N
  unfolding back
  settle n s = with_p s (back (n + 1) s.way s.p s.j0)

  unfoldable pub fresh : State N
  fresh =
      record {
        u = replicate size O.zer;
        v = replicate size O.zer;
        minv = replicate size O.top;
        p = replicate size 0;
        way = replicate size 0;
        used = replicate size false;
        j0 = 0;
        delta = O.zer;
        j1 = 0;
      }

  unfoldable pub enter : (ℕ → ℕ → N) → ℕ → ℕ → Search N → Search N
  unfolding start search
  enter a n i (found s) = search a n (n + 1) (start i s)
  enter a n i stopped = stopped
  enter a n i spent = spent

  unfoldable pub leave : ℕ → Search N → Search N
  unfolding settle
  leave n (found s) = found (settle n s)
  leave n stopped = stopped
  leave n spent = spent

  -- rows 1 .. k put in
  unfoldable pub rows : (ℕ → ℕ → N) → ℕ → ℕ → Search N
  unfolding enter leave fresh
  rows a n zero = found fresh
  rows a n (suc k) = leave n (enter a n (k + 1) (rows a n k))
