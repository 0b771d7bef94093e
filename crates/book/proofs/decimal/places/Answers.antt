use Rattle.std.proofs.Common.{◌+◌, ◌/◌, ◌%◌, [], ◌∷◌, length, ap, arith, length-append}
use Rattle.book.specs.Decimal.{decimal}
use Rattle.book.proofs.Decimals.{length_decimal, decimal_small, decimal_more}
use Rattle.book.proofs.decimal.places.Goals as goal

pub overflow_add-count : goal.overflow_add-count
overflow_add-count c = omega (arith, length_decimal c.args.n)

pub loop-rest-preserved : goal.loop-rest-preserved
loop-rest-preserved c =
    let m = c.loop-rest.rest in
    let e = ap length (decimal_more m c.loop-rest-test.true (omega arith)) in
    (omega arith, omega (arith, e, length-append (decimal (m / 10)) ((48 + m % 10) ∷ [])))

pub returns : goal.returns
returns c = omega (arith, ap length (decimal_small c.loop-rest.rest c.loop-rest-test.false))
