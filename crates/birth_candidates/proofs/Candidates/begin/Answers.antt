use mir.Facts.{to_z-of_z}
use native.Mathlib.Omega.{arith}
use Rattle.birth_candidates.proofs.Seeing.{first_seen, no_room}
use Rattle.birth_candidates.proofs.Candidates.begin.Goals as goal

pub returns-then-len-eq-MAX_CANDIDATES : goal.returns-then-len-eq-MAX_CANDIDATES
returns-then-len-eq-MAX_CANDIDATES c =
    let a = c.args in
    λ radius required. no_room a.self.now radius a.time a.d required (omega (arith, c.len.ensures.0, c.if-len-eq-MAX_CANDIDATES.true))

pub returns : goal.returns
returns c =
    let a = c.args in
    λ radius required. first_seen a.self.now radius a.time a.d required c.push.new.self (omega (arith, c.len.ensures, c.if-len-eq-MAX_CANDIDATES.false)) (rw (to_z-of_z c.ranges.time) at c.push.ensures)

pub push-requires : goal.push-requires
push-requires c = omega (arith, c.len.ensures, c.if-len-eq-MAX_CANDIDATES.false)
