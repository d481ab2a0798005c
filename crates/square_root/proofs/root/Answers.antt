use Rattle.std.specs.Prelude.{Some}
use Rattle.std.proofs.Common.{◌≡◌, ℕ, suc, ◌*◌, ◌^◌, ◌<◌, true, false, T, ℤ, sym, ap, ◌∙◌, subst, rules}
use lib.Ieee.{Float, fin, binary64, to_bits, of_bits, lt, fits}
use lib.Ieee.Exact.{HasValue, odd_sign}
use lib.Ieee.Bits.{of_bits-to_bits}
use Rattle.number.specs.Reply.{given}
use Rattle.square_root.specs.Root.{NearestRoot, root_of, root_reply, RootAnswer}
use Rattle.square_root.specs.RootSteps.{PatternOf, weight, digits, power}
use Rattle.square_root.proofs.Patterns.{lt_no_nan}
use Rattle.square_root.proofs.Fields.{below_inf, above_zero, weighs, argument, root_value}
use Rattle.square_root.proofs.Digits.{is_function}
use Rattle.square_root.proofs.Midpoints.{lower, upper}
use Rattle.square_root.proofs.Cases.{zero_f, inf_f, when_positive, when_infinite, when_zero, when_refused}
use Rattle.square_root.proofs.root.Goals as goal

-- the pattern of a finite value above zero
abbrev Bits : Float → Type 0
Bits x = (0 < to_bits binary64 x) × (to_bits binary64 x < 0x7ff0_0000_0000_0000)

bits : (x : Float) → T (fits binary64 x) → lt zero_f x ≡ true → lt x inf_f ≡ true → Bits x
bits x f a b = when_positive (λ y. T (fits binary64 y) → Bits y) (λ m e g. (above_zero m e (to_bits binary64 (fin false (suc m) e)) (of_bits-to_bits binary64 (fin false (suc m) e) g), below_inf m e (to_bits binary64 (fin false (suc m) e)) (of_bits-to_bits binary64 (fin false (suc m) e) g))) x a b f

-- the answer at a finite value above zero, from the pattern r of the root
module _ (r m : ℕ) (e : ℤ) (g : T (fits binary64 (fin false (suc m) e))) (k : PatternOf (weight (to_bits binary64 (fin false (suc m) e))) r) where
  abbrev x : Float
  x = fin false (suc m) e

  abbrev w : ℕ
  w = weight (to_bits binary64 x)

  is : given (of_bits binary64 r) ≡ root_reply x
  unfolding root_reply
  is = ap given (root_value w r k ∙ is_function w (digits r) (power r) k.rounded ∙ ap root_of (sym (weighs m e (to_bits binary64 x) (of_bits-to_bits binary64 x g))))

  near : NearestRoot x (of_bits binary64 r)
  near =
      record {
        w = w;
        q = digits r;
        j = power r;
        argument = argument m e (to_bits binary64 x) (of_bits-to_bits binary64 x g);
        result = subst (λ (v : Float). HasValue v false (digits r * 2 ^ power r) (2 ^ 1074)) (sym (root_value w r k)) (odd_sign 53 false (digits r) (power r) 1074);
        least = k.rounded.least_root;
        most = k.rounded.most_root;
        lower = lower w (digits r) (power r) k.rounded;
        upper = upper w (digits r) (power r) k.rounded;
      }

  answer : RootAnswer x (Some (of_bits binary64 r))
  answer = record { is = is; nearest = λ v p h. subst (λ (v : Float). NearestRoot x v) (same v (is ∙ h)) near }
    where
      same : (v : Float) → given (of_bits binary64 r) ≡ given v → of_bits binary64 r ≡ v
      same v h = cc

pub float_to_bits-x : goal.float_to_bits-x
float_to_bits-x c = lt_no_nan _ _ c.if-x-2.true

pub finite_root-requires : goal.finite_root-requires
finite_root-requires c =
    let at = c.before.before in
    bits at.args.x (search rules) c.if-x.true c.if-x-2.true

pub returns-then-x-2 : goal.returns-then-x-2
returns-then-x-2 c =
    let at = c.before.before.before in
    let v = c.finite_root.ensures in
    when_positive (λ y. T (fits binary64 y) → PatternOf (weight (to_bits binary64 y)) v.pattern → RootAnswer y (Some c.finite_root.result))
    (λ m e g k. subst (λ (u : Float). RootAnswer (fin false (suc m) e) (Some u)) (sym v.is) (answer v.pattern m e g k))
    at.args.x c.if-x.true c.if-x-2.true (search rules) v.right

pub returns-else-x-2 : goal.returns-else-x-2
returns-else-x-2 c = when_infinite _ c.if-x.true c.if-x-2.false

pub returns-then-x-3 : goal.returns-then-x-3
returns-then-x-3 c = when_zero _ c.if-x-3.true

pub returns-else-x-3 : goal.returns-else-x-3
returns-else-x-3 c = when_refused _ c.if-x.false c.if-x-3.false
