-- The tests one by one, those of the header as the callee made them.
use mathlib.Core.Path.{sym, ap, ◌∙◌}
use Prim.Native.Nat.{ℕ, ◌-◌}
use native.Mathlib.Omega.{arith}
use lib.ListN.{length}
use Rattle.rules.specs.Answers.{outside}
use Rattle.ccmp.proofs.Headers.{fields_of}
use Rattle.ccmp.proofs.Verdicts.{headed}
use Rattle.table.proofs.serving.form_tests.Goals as goal

pub overflow_sub-frame : goal.overflow_sub-frame
overflow_sub-frame c =
    let f = c.args.frame.now in
    let q = headed c.args.wrong f c.in_ok-header.header c.in_ok-header.ensures in
    omega (arith, (fields_of f _ q.is).length_is, q.whole)

pub returns-then-outside : goal.returns-then-outside
returns-then-outside c =
    let a = c.args in
    let f = a.frame.now in
    let q = headed a.wrong f c.in_ok-header.header c.in_ok-header.ensures in
    let body = ap (λ (k : ℕ). outside a.least a.most (length f - k)) (sym (fields_of f _ q.is).length_is) ∙ sym c.outside.ensures in
    rw (sym c.sound_table.ensures ∙ c.if-not-sound_table.false, q.short, q.kind, q.mark, q.cut, body ∙ c.if-outside.true)

pub returns : goal.returns
returns c =
    let a = c.args in
    let f = a.frame.now in
    let q = headed a.wrong f c.in_ok-header.header c.in_ok-header.ensures in
    let body = ap (λ (k : ℕ). outside a.least a.most (length f - k)) (sym (fields_of f _ q.is).length_is) ∙ sym c.outside.ensures in
    rw (sym c.sound_table.ensures ∙ c.if-not-sound_table.false, q.short, q.kind, q.mark, q.cut, body ∙ c.if-outside.false, q.is)
