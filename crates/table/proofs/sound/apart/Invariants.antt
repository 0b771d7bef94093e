use mathlib.Core.Path.{◌≡◌}
use lib.ListN.{length}
use Rattle.rules.specs.Table.{apart}
use Rattle.table.proofs.sound.apart.Given as goal

-- Those that are left decide.
abbrev pub invariant-loop-a : goal.invariant-loop-a
invariant-loop-a l = apart l.fn.es ≡ apart l.rest

abbrev pub decreases-loop-a : goal.decreases-loop-a
decreases-loop-a l = length l.rest
