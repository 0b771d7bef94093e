use Rattle.std.proofs.Common.{◌≡◌, ◌+◌, ◌-◌, take, sym, ◌∙◌, arith, length-drop, ltb-false}
use Rattle.octets.proofs.Search.{found, not_found}
use Rattle.book.proofs.Parts.{rest_of}
use Rattle.book.proofs.Searches.{beyond, answer, nothing}
use Rattle.book.proofs.scan.find.Goals as goal

pub loop-at-init : goal.loop-at-init
loop-at-init c =
    let a = c.args in
    (omega arith, beyond a.x a.s.now 0 16 (omega arith) (omega (arith, not_found a.x (take 16 a.s.now) c.in_default.ensures)))

pub loop-at-preserved : goal.loop-at-preserved
loop-at-preserved c =
    let a = c.args in
    let at = c.loop-at.at in
    let n : at + 64 - at ≡ 64 = omega arith in
    let lacks = rw n at (ltb-false _ _ (sym c.has.ensures ∙ c.if-not-has.true)) in
    (omega arith, omega (arith, c.loop-at.invariant.1, beyond a.x a.s.now at 64 (omega arith) lacks))

pub returns-in_err-i : goal.returns-in_err-i
returns-in_err-i c =
    let a = c.args in
    let l = c.loop-at in
    let e = rw (rest_of a.s.now l.at) at (not_found a.x _ c.in_err-i.ensures) in
    c.from_residual.ensures ∙ nothing a.x a.s.now (omega (arith, l.invariant, e, length-drop l.at a.s.now))

pub returns : goal.returns
returns c =
    let a = c.args in
    let l = c.loop-at in
    let f = rw (rest_of a.s.now l.at) at (found a.x _ c.in_ok-i.i c.in_ok-i.ensures) in
    answer a.x a.s.now (l.at + c.in_ok-i.i) (omega (arith, l.invariant, f)) (omega (arith, f, length-drop l.at a.s.now))
