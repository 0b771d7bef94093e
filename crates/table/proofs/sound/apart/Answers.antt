use mathlib.Core.Path.{◌≡◌, sym, ap, refl, ◌∙◌}
use mathlib.Core.Bool.{true, false, not}
use mathlib.Core.List.{◌∷◌}
use borrow.Author.Rules.{rules}
use borrow.Author.Tests.{tests}
use Rattle.std.proofs.lemmas.Iterator.{YieldsList-from_slice, cases_from_any}
use Rattle.rules.specs.Table.{clash, apart_from, apart}
use Rattle.table.proofs.Loops.{by_any}
use Rattle.table.proofs.sound.apart.Goals as goal

pub returns-then-any : goal.returns-then-any
returns-then-any c =
    let a = c.in-Some.a.now in
    let es = c.in-Some.after.now in
    let one =
    by_any (apart_from a) (λ b. not (clash a b)) refl (λ b es. refl) es c.any.result
    (cases_from_any _ _ c.any.result (λ b. not (clash a b) ≡ false) (λ b. not (clash a b) ≡ true) c.any.ensures.ran (YieldsList-from_slice es cc)
    (λ b q k. search (rules, tests)) (λ b q k. search (rules, tests))) in
    let split : c.loop-a.rest.now ≡ a ∷ es = search rules in
    sym (c.loop-a.invariant ∙ ap apart split ∙ rw (one, c.if-any.true))

pub loop-a-preserved : goal.loop-a-preserved
loop-a-preserved c =
    let a = c.in-Some.a.now in
    let es = c.in-Some.after.now in
    let one =
    by_any (apart_from a) (λ b. not (clash a b)) refl (λ b es. refl) es c.any.result
    (cases_from_any _ _ c.any.result (λ b. not (clash a b) ≡ false) (λ b. not (clash a b) ≡ true) c.any.ensures.ran (YieldsList-from_slice es cc)
    (λ b q k. search (rules, tests)) (λ b q k. search (rules, tests))) in
    let split : c.loop-a.rest.now ≡ a ∷ es = search rules in
    c.loop-a.invariant ∙ ap apart split ∙ rw (one, c.if-any.false)
