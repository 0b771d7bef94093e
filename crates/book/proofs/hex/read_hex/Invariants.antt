use Rattle.std.proofs.Common.{◌≡◌, ◌*◌, take, drop}
use Rattle.book.specs.Hex.{octets_of}
use Rattle.book.specs.Handed.{block}
use Rattle.book.proofs.Turns.{so_far}
use Rattle.book.proofs.hex.read_hex.Given as goal

-- As in read_all, with a block of the octets in each turn.
abbrev pub invariant-loop-j : goal.invariant-loop-j
invariant-loop-j l = octets_of l.digits ≡ so_far l.good (take (block * l.j) l.out) (drop (2 * (block * l.j)) l.digits)
