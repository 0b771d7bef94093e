use Rattle.std.proofs.Common.{◌≡◌, ◌+◌, ◌-◌, ◌≤◌, length, drop}
use Rattle.octets.specs.Search.{index_of}
use Rattle.book.proofs.scan.find.Given as goal

-- Up to `at` there is no x, so that the first one from there on is the first of all.
abbrev pub invariant-loop-at : goal.invariant-loop-at
invariant-loop-at l = (l.at ≤ length l.s) × (index_of l.x l.s ≡ l.at + index_of l.x (drop l.at l.s))

abbrev pub decreases-loop-at : goal.decreases-loop-at
decreases-loop-at l = length l.s - l.at
