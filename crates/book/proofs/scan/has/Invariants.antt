use Rattle.std.proofs.Common.{◌≡◌, take}
use Rattle.book.proofs.Searches.{among}
use Rattle.book.proofs.scan.has.Given as goal

-- It is whether x is among the octets so far.
abbrev pub invariant-loop-y : goal.invariant-loop-y
invariant-loop-y l = l.seen ≡ among l.x (take l.y-index l.s)
