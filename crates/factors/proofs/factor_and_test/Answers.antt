use Rattle.factors.proofs.Steps.{all_given, all_fail, all_found}
use Rattle.factors.proofs.factor_and_test.Goals as goal

pub returns-then-s-p : goal.returns-then-s-p
returns-then-s-p c =
    let l22 = c.before.before.before.before in
    let l11 = l22.before.before.before.before in
    let m11 = l11.before in
    let l00 = m11.before.before.before.before.before.before.before in
    let m00 = l00.before.before in
    let a = m00.args in
    let found = all_found a.r m00.root_or_zero-m00.result m11.root_or_zero-m11.result m00.root_or_zero-m00.ensures m11.root_or_zero-m11.ensures in
    let is = all_given a.s l00.root_or_zero-l00.result l11.root_or_zero-l11.result l00.root_or_zero-l00.ensures l11.root_or_zero-l11.ensures l22.root_or_zero-l22.result l22.root_or_zero-l22.ensures c.if-s-p.true in
    record { is = is; found = found }

pub returns-else-s-p : goal.returns-else-s-p
returns-else-s-p c =
    let l22 = c.before.before.before.before in
    let l11 = l22.before.before.before.before in
    let m11 = l11.before in
    let l00 = m11.before.before.before.before.before.before.before in
    let m00 = l00.before.before in
    let a = m00.args in
    let found = all_found a.r m00.root_or_zero-m00.result m11.root_or_zero-m11.result m00.root_or_zero-m00.ensures m11.root_or_zero-m11.ensures in
    let is = all_fail a.s l00.root_or_zero-l00.result l11.root_or_zero-l11.result l00.root_or_zero-l00.ensures l11.root_or_zero-l11.ensures c.if-s-p.false in
    record { is = is; found = found }
