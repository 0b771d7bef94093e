use Rattle.std.proofs.Common.{◌≡◌, ◌≤◌, length}
use Rattle.book.specs.Decimal.{decimal}
use Rattle.book.specs.Put.{put}
use Rattle.book.proofs.decimal.write_decimal.Given as goal

-- Writing the digits of what is left of the number into the room so far gives the same after each turn.
abbrev pub invariant-loop-rest : goal.invariant-loop-rest
invariant-loop-rest l = (l.rest ≤ l.n) × (l.i ≤ length l.initial.out) × (l.i ≡ length (decimal l.rest)) × (length l.out ≡ length l.initial.out) × (put 0 (decimal l.rest) l.out ≡ put 0 (decimal l.n) l.initial.out)

abbrev pub decreases-loop-rest : goal.decreases-loop-rest
decreases-loop-rest l = l.rest
