use Rattle.std.proofs.Common.{◌-◌, ◌≤◌, length}
use Rattle.table_times.proofs.read_full.Given as goal

-- What was read lies in the room, and each read takes from what is left of it.
abbrev pub invariant-loop-done : goal.invariant-loop-done
invariant-loop-done l = l.done ≤ length l.room

abbrev pub decreases-loop-done : goal.decreases-loop-done
decreases-loop-done l = length l.room - l.done
