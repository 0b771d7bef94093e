use Rattle.std.proofs.Common.{◌≡◌, ◌+◌, ◌*◌, length, ◌∙◌, arith}
use lib.Seq.{drop-length}
use Rattle.book.specs.Hex.{hex_of}
use Rattle.book.proofs.Hexadecimals.{length_hex}
use Rattle.book.proofs.Puts.{stored, put_all}
use Rattle.book.proofs.Turns.{put_turn}
use Rattle.book.proofs.hex.write_hex.Goals as goal

pub loop-i-preserved : goal.loop-i-preserved
loop-i-preserved c =
    let l = c.loop-i in
    let e : 2 * (l.i + 1) ≡ 2 * l.i + 2 = omega arith in
    rw (e, c.letter_of.ensures, c.letter_of-in-loop-i.ensures) (put_turn c.args.octets.now l.out l.i (2 * l.i) (omega arith) ∙ l.invariant)

pub returns : goal.returns
unfolding hex_of
returns c =
    let l = c.loop-i in
    let a = c.args in
    let e : l.i ≡ length a.octets.now = omega arith in
    let size = length_hex a.octets.now in
    rw (e, drop-length) at l.invariant ∙ stored 0 (hex_of a.octets.now) a.out.now (omega arith) ∙ put_all (hex_of a.octets.now) a.out.now (omega arith)
