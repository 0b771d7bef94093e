use Rattle.std.proofs.Common.{◌≡◌, ◌*◌, drop}
use lib.Seq.{sets}
use Rattle.book.specs.Hex.{hex_of}
use Rattle.book.proofs.hex.write_hex.Given as goal

-- Storing the digits that are left into the room so far gives the same after each turn.
abbrev pub invariant-loop-i : goal.invariant-loop-i
invariant-loop-i l = sets l.out (2 * l.i) (hex_of (drop l.i l.octets)) ≡ sets l.initial.out 0 (hex_of l.octets)
