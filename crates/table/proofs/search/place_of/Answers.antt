use Rattle.std.proofs.Common.{rules, ◌≡◌, true, false}
use borrow.Author.Tests.{tests}
use Rattle.std.proofs.lemmas.Iterator.{YieldsList-from_slice, IsFirst-from_position}
use Rattle.rules.specs.Table.{is_for, place_of}
use Rattle.table.proofs.Loops.{first_found}
use Rattle.table.proofs.search.place_of.Goals as goal

pub returns-clause-value : goal.returns-clause-value
unfolding place_of
returns-clause-value c =
    let es = c.args.t.now.entries in
    first_found (is_for c.args.x.now) es c.position.result
    (IsFirst-from_position _ _ c.position.result (λ e. (is_for c.args.x.now) e ≡ true) (λ e. (is_for c.args.x.now) e ≡ false) c.position.ensures.ran
    (YieldsList-from_slice es cc)
    (λ e q k. search (rules, tests)) (λ e q k. search (rules, tests)))
