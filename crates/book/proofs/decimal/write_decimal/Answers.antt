use Rattle.std.proofs.Common.{◌≡◌, ◌+◌, ◌-◌, ◌/◌, ◌%◌, [], ◌∷◌, length, sym, ap, ◌∙◌, arith, length-append, length-set}
use Rattle.book.specs.Decimal.{decimal}
use Rattle.book.specs.Put.{put}
use Rattle.book.proofs.Decimals.{length_decimal, decimal_small, decimal_more}
use Rattle.book.proofs.Puts.{stored, put_last, put_all}
use Rattle.book.proofs.decimal.write_decimal.Goals as goal

pub overflow_sub-i : goal.overflow_sub-i
overflow_sub-i c = omega (arith, length_decimal c.loop-rest.rest)

pub bounds-out-i : goal.bounds-out-i
bounds-out-i c = omega (arith, length_decimal c.loop-rest.rest)

pub bounds-out-0 : goal.bounds-out-0
bounds-out-0 c = omega (arith, length_decimal c.args.n)

pub loop-rest-preserved : goal.loop-rest-preserved
loop-rest-preserved c =
    let l = c.loop-rest in
    let m = l.rest in
    let d = decimal_more m c.loop-rest-test.true (omega arith) in
    let n = ap length d ∙ length-append (decimal (m / 10)) ((48 + m % 10) ∷ []) in
    let e : l.i - 1 ≡ 0 + length (decimal (m / 10)) = omega arith in (
      omega arith,
      omega arith,
      omega arith,
      simp length-set l.invariant.3,
      rw e (put_last 0 (decimal (m / 10)) l.out (48 + m % 10) (omega (arith, length_decimal m)) ∙ ap (λ t. put 0 t l.out) (sym d) ∙ l.invariant.4),
    )

pub returns : goal.returns
returns c =
    let l = c.loop-rest in
    let o = c.args.out.now in
    let n = c.args.n in
    stored 0 ((48 + l.rest) ∷ []) l.out (omega (arith, length_decimal n))
    ∙ ap (λ t. put 0 t l.out) (sym (decimal_small l.rest c.loop-rest-test.false)) ∙ l.invariant.4 ∙ put_all (decimal n) o c.requires
