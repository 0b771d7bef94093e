use Rattle.std.proofs.Common.{◌≡◌, length, ◌∙◌, arith}
use Rattle.octets.proofs.Lists.{lay, laid_all}
use Rattle.book.specs.Handed.{block, pairs}
use Rattle.book.proofs.Blocks.{length_pairs, pair_at}
use Rattle.book.proofs.hex.pairs_of.Goals as goal

pub loop-i-preserved : goal.loop-i-preserved
loop-i-preserved c =
    let l = c.loop-i in
    let digits = c.args.digits.now in
    let size = length_pairs digits block c.requires in
    lay l.i (pairs digits) _ l.pair-items _ (omega arith) (omega arith) (omega (arith, c.from_le_bytes.ensures, pair_at digits l.i (omega arith))) l.invariant

pub returns : goal.returns
returns c =
    let l = c.loop-i in
    let digits = c.args.digits.now in
    let size = length_pairs digits block c.requires in
    let e : l.i ≡ length (pairs digits) = omega arith in
    l.invariant ∙ rw e (laid_all (pairs digits) _ (omega arith))
