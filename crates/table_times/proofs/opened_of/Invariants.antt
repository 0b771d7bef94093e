use Rattle.std.proofs.Common.{◌≤◌, length}
use Rattle.table_times.proofs.opened_of.Given as goal

-- Each frame lies in air.
abbrev pub invariant-loop : goal.invariant-loop
invariant-loop g l = goal.F-IsAlwaysCallable g l.call × (l.size ≤ length l.air) × (l.end ≤ length l.air)
