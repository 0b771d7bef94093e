use Rattle.std.proofs.Common.{◌∙◌, arith}
use Rattle.book.proofs.Turns.{read_turn, filled_all}
use Rattle.book.proofs.hex.read_all.Goals as goal

pub loop-i-preserved : goal.loop-i-preserved
loop-i-preserved c =
    let high = c.digit_of-high in
    let low = c.digit_of-low in
    let l = c.loop-i in
    l.invariant ∙ read_turn c.args.digits.now l.out l.i l.good high.result low.result (omega arith) (omega arith) high.ensures low.ensures

pub returns : goal.returns
returns c =
    let l = c.loop-i in
    let f = filled_all c.args.digits.now l.out l.i l.good (omega arith) (omega arith) l.invariant in
    record { value = f.0; out_after = f.1 }
