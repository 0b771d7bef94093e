use Rattle.std.proofs.Common.{◌≡◌, ◌*◌, take, drop}
use Rattle.book.specs.Hex.{octets_of}
use Rattle.book.proofs.Turns.{so_far}
use Rattle.book.proofs.hex.read_block.Given as goal

-- As in read_all, with each two digits from their pair.
abbrev pub invariant-loop-i : goal.invariant-loop-i
invariant-loop-i l = octets_of l.digits ≡ so_far l.good (take l.i l.out) (drop (2 * l.i) l.digits)
