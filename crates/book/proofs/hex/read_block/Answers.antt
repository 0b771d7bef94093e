use Rattle.std.proofs.Common.{◌+◌, ◌*◌, ap, ◌∙◌, arith}
use Rattle.book.specs.Hex.{digit}
use Rattle.book.proofs.Turns.{read_turn, filled_all}
use Rattle.book.proofs.Blocks.{pair_digits}
use Rattle.book.proofs.hex.read_block.Goals as goal

pub loop-i-preserved : goal.loop-i-preserved
loop-i-preserved c =
    let high = c.digit_of-high in
    let low = c.digit_of-low in
    let l = c.loop-i in
    let digits = c.args.digits.now in
    let p =
    pair_digits digits _ _ l.i c.pairs_of.ensures (omega arith) (omega (arith, c.type_inv.digits (2 * l.i))) (omega (arith, c.type_inv.digits (2 * l.i + 1)))
    c.to_le_bytes.ensures in
    l.invariant ∙ read_turn digits l.out l.i l.good high.result low.result (omega arith) (omega arith) (high.ensures ∙ ap digit p.0) (low.ensures ∙ ap digit p.1)

pub returns : goal.returns
returns c =
    let l = c.loop-i in
    let f = filled_all c.args.digits.now l.out l.i l.good (omega arith) (omega arith) l.invariant in
    record { value = f.0; out_after = f.1 }
