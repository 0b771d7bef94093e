use Rattle.std.proofs.Common.{rules, ◌≡◌, true, false}
use borrow.Author.Tests.{tests}
use Rattle.std.proofs.lemmas.Iterator.{YieldsList-from_slice, IsFirst-from_position}
use Rattle.rules.specs.Table.{has_key}
use Rattle.table.proofs.Loops.{first_found}
use Rattle.table.proofs.search.key_place.Goals as goal

pub returns : goal.returns
returns c =
    let es = c.args.t.now.entries in
    first_found (has_key c.args.key.now) es c.position.result
    (IsFirst-from_position _ _ c.position.result (λ e. (has_key c.args.key.now) e ≡ true) (λ e. (has_key c.args.key.now) e ≡ false) c.position.ensures.ran
    (YieldsList-from_slice es cc)
    (λ e q k. search (rules, tests)) (λ e q k. search (rules, tests)))
