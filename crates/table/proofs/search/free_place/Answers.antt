use Rattle.std.proofs.Common.{rules, ◌≡◌, true, false}
use borrow.Author.Tests.{tests}
use Rattle.std.proofs.lemmas.Iterator.{YieldsList-from_slice, IsFirst-from_position}
use Rattle.rules.specs.Table.{is_free}
use Rattle.table.proofs.Loops.{first_found}
use Rattle.table.proofs.search.free_place.Goals as goal

pub returns : goal.returns
returns c =
    let es = c.args.t.now.entries in
    first_found is_free es c.position.result
    (IsFirst-from_position _ _ c.position.result (λ e. is_free e ≡ true) (λ e. is_free e ≡ false) c.position.ensures.ran
    (YieldsList-from_slice es cc)
    (λ e q k. search (rules, tests)) (λ e q k. search (rules, tests)))
