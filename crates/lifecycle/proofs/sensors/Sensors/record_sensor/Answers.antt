use Rattle.std.proofs.Common.{◌≡◌, List, ℕ, ◌-◌, ◌≤◌, ◌<◌, length, take, set, refl, ap, sym, ◌∙◌, rules, arith, Bool, true, false}
use Rattle.lists.specs.First.{any}
use Rattle.lists.proofs.Firsts.{list_any_is}
use Rattle.lists.proofs.Loops.{shifted_copy, shifted_store}
use Rattle.lifecycle.specs.Sensors.{is}
use Rattle.lifecycle.proofs.sensors.Recorded.{bound_least, known, full, room}
use Rattle.lifecycle.proofs.sensors.Sensors.record_sensor.Goals as goal

pub returns-then-known : goal.returns-then-known
returns-then-known c =
    let s = c.args.self in
    let n = c.min-n in
    let l : length s.ids ≡ 16 = search rules in
    let h : any (is c.args.sensor) (take n.result s.ids) ≡ true = sym (list_any_is (is c.args.sensor) (take n.result s.ids)) ∙ sym c.contains-known.ensures.value ∙ found c.contains-known.result refl in
    known s c.args.sensor c.args.limit n.result l n.ensures h
  where
    found : (b : Bool) → c.contains-known.result ≡ b → c.contains-known.result ≡ true
    found true q = q
    found false q =
        let w : false ≡ true = (rw q at c.if-known.true) in
        q ∙ w

pub returns-then-bound-n : goal.returns-then-bound-n
returns-then-bound-n c =
    let s = c.args.self in
    let n = c.min-n in
    let l : length s.ids ≡ 16 = search rules in
    let h : any (is c.args.sensor) (take n.result s.ids) ≡ false = sym (list_any_is (is c.args.sensor) (take n.result s.ids)) ∙ sym c.contains-known.ensures.value ∙ missed c.contains-known.result refl in
    let z : 0 < n.result = omega (arith, c.if-bound-n.true, c.bound.ensures, bound_least c.args.limit) in
    let k : n.result ≤ length s.ids = omega (arith, n.ensures, l) in
    full s c.args.sensor c.args.limit n.result l n.ensures h (omega (arith, c.if-bound-n.true, c.bound.ensures)) _
    (ap (λ (m : List ℕ). set m (n.result - 1) c.args.sensor) c.copy_within.ensures.after ∙ shifted_store s.ids _ n.result c.args.sensor z k (shifted_copy s.ids n.result z k))
  where
    missed : (b : Bool) → c.contains-known.result ≡ b → c.contains-known.result ≡ false
    missed false q = q
    missed true q =
        let w : true ≡ false = (rw q at c.if-known.false) in
        q ∙ w

pub returns-else-bound-n : goal.returns-else-bound-n
returns-else-bound-n c =
    let s = c.args.self in
    let n = c.min-n in
    let l : length s.ids ≡ 16 = search rules in
    let h : any (is c.args.sensor) (take n.result s.ids) ≡ false = sym (list_any_is (is c.args.sensor) (take n.result s.ids)) ∙ sym c.contains-known.ensures.value ∙ missed c.contains-known.result refl in
    room s c.args.sensor c.args.limit n.result l n.ensures h (omega (arith, c.if-bound-n.false, c.bound.ensures))
  where
    missed : (b : Bool) → c.contains-known.result ≡ b → c.contains-known.result ≡ false
    missed false q = q
    missed true q =
        let w : true ≡ false = (rw q at c.if-known.false) in
        q ∙ w
