use Rattle.std.proofs.Common.{◌≡◌}
use Rattle.octets.proofs.Lists.{laid}
use Rattle.book.specs.Handed.{pairs}
use Rattle.book.proofs.hex.pairs_of.Given as goal

-- The first i pairs are laid.
abbrev pub invariant-loop-i : goal.invariant-loop-i
invariant-loop-i l = l.pair-items ≡ laid l.i (pairs l.digits) l.initial.pair-items
