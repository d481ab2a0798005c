-- Four ends, each a law of Nearing: seen at this time, the first within the radius or nearer than the best, no nearer, not within the radius.
use Rattle.std.specs.Prelude.{None, Some}
use mathlib.Core.Path.{◌≡◌}
use mathlib.Core.Bool.{true}
use lib.Ieee.{lt}
use mir.Syntax.{w64}
use mir.Val.{SFits}
use borrow.Author.Rules.{rules}
use Rattle.number.proofs.Signed.{same_of, other_of}
use Rattle.birth_candidates.specs.declared.Near.{Near}
use Rattle.birth_candidates.proofs.Nearing.{seen_now, too_far, chosen, passed_over}
use Rattle.birth_candidates.proofs.nearer.Goals as goal
use Rattle.birth_candidates.proofs.nearer.Goals.{else-distance-radius-via-then-distance-radius+else-is_none_or, else-distance-radius-via-else-distance-radius}

pub returns-then-x-time : goal.returns-then-x-time
returns-then-x-time c =
    let a = c.args in
    let f : SFits w64 a.x.last_seen = search rules in
    λ o q. seen_now a.radius a.time a.d a.at a.x a.best o (same_of a.x.last_seen a.time f c.ranges.time c.if-x-time.true) q

pub returns-then-is_none_or : goal.returns-then-is_none_or
returns-then-is_none_or c =
    let a = c.args in
    let z = c.distance-distance.ensures in
    let other = other_of a.x.last_seen a.time c.if-x-time.false in
    let h : (b : Near) → a.best ≡ Some b → c.is_none_or.result ≡ lt c.distance-distance.result b.distance = λ b k. search rules in
    λ o q. rw z (chosen a.radius a.time a.d a.at a.x a.best _ o other (rw z at c.if-distance-radius.true) (rw z at h) c.if-is_none_or.true q)

pub returns-else-distance-radius : goal.returns-else-distance-radius
returns-else-distance-radius c =
    let a = c.args in
    let z = c.distance-distance.ensures in
    let other = other_of a.x.last_seen a.time c.if-x-time.false in
    elim c.else-distance-radius.branch [
      | else-distance-radius-via-then-distance-radius+else-is_none_or w ↦
          let n : a.best ≡ None → w.is_none_or.result ≡ true = λ k. search rules in
          let h : (b : Near) → a.best ≡ Some b → w.is_none_or.result ≡ lt c.distance-distance.result b.distance = λ b k. search rules in
          λ o q. passed_over a.radius a.time a.d a.at a.x a.best _ o other (rw z at w.if-distance-radius.true) n (rw z at h) w.if-is_none_or.false q
      | else-distance-radius-via-else-distance-radius w ↦ λ o q. too_far a.radius a.time a.d a.at a.x a.best o other (rw z at w.if-distance-radius.false) q
    ]
