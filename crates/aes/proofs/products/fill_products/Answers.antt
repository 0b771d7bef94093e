use Rattle.std.proofs.Common.{arith, refl, ◌∙◌}
use Rattle.aes.proofs.Entries.{filled, half_of, word_of, half_is, word_is}
use Rattle.aes.proofs.products.fill_products.Goals as goal

pub loop-i-preserved : goal.loop-i-preserved
loop-i-preserved c =
    let l = c.loop-i in
    let s = c.table-sbox.ensures.entry l.i c.loop-i-test.true in
    filled half_of l.halves l.i _ c.loop-i-test.true l.invariant (c.half.ensures ∙ half_is l.i _ _ s refl)

pub loop-i-2-preserved : goal.loop-i-2-preserved
loop-i-2-preserved c =
    let l = c.loop-i-2 in
    let half = c.loop-i.invariant.1 l.i (omega arith) in
    filled word_of l.words l.i _ c.loop-i-2-test.true l.invariant (c.word.ensures ∙ word_is l.i _ half)
