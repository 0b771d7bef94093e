use Rattle.std.proofs.Common.{◌≡◌, ◌*◌, take, drop}
use Rattle.book.specs.Hex.{octets_of}
use Rattle.book.proofs.Turns.{so_far}
use Rattle.book.proofs.hex.read_all.Given as goal

-- The octets so far, before those that the digits left write, are what all the digits write, as long as each was a digit.
abbrev pub invariant-loop-i : goal.invariant-loop-i
invariant-loop-i l = octets_of l.digits ≡ so_far l.good (take l.i l.out) (drop (2 * l.i) l.digits)
