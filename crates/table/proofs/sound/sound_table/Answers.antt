use mathlib.Core.Path.{◌≡◌, refl}
use mathlib.Core.Bool.{true, false}
use borrow.Author.Rules.{rules}
use borrow.Author.Tests.{tests}
use Rattle.std.proofs.lemmas.Iterator.{YieldsList-from_slice, cases_from_all}
use Rattle.rules.specs.Table.{sound_entry, all_sound, sound_table}
use Rattle.table.proofs.Loops.{by_all}
use Rattle.table.proofs.sound.sound_table.Goals as goal

pub returns-then-all : goal.returns-then-all
unfolding sound_table
returns-then-all c =
    let es = c.args.t.now.entries in
    let each =
    by_all all_sound sound_entry refl (λ e es. refl) es c.all.result
    (cases_from_all _ _ c.all.result (λ e. sound_entry e ≡ true) (λ e. sound_entry e ≡ false) c.all.ensures.ran (YieldsList-from_slice es cc)
    (λ e q k. search (rules, tests)) (λ e q k. search (rules, tests))) in
    rw (each, c.if-all.true) c.apart.ensures

pub returns-else-all : goal.returns-else-all
unfolding sound_table
returns-else-all c =
    let es = c.args.t.now.entries in
    let each =
    by_all all_sound sound_entry refl (λ e es. refl) es c.all.result
    (cases_from_all _ _ c.all.result (λ e. sound_entry e ≡ true) (λ e. sound_entry e ≡ false) c.all.ensures.ran (YieldsList-from_slice es cc)
    (λ e q k. search (rules, tests)) (λ e q k. search (rules, tests))) in
    rw (each, c.if-all.false)
