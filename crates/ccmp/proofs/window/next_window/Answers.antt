use Rattle.std.proofs.Common.{arith}
use Rattle.ccmp.proofs.Windows.{next_far, next_near, late_below, next_late}
use Rattle.ccmp.proofs.window.next_window.Goals as goal

-- The greatest moves not at all, by less than the size, or by the size or more.
pub overflow_cast-v : goal.overflow_cast-v
overflow_cast-v c = record { fits = omega (arith, late_below c.args.w c.args.n c.requires.0 c.requires.2 c.if-n-w.true) }

pub overflow_shl-v : goal.overflow_shl-v
overflow_shl-v c = late_below c.args.w c.args.n c.requires.0 c.requires.2 c.if-n-w.true

pub returns-then-n-w : goal.returns-then-n-w
returns-then-n-w c =
    next_late c.args.w c.args.n c.requires.0 c.requires.2 c.if-n-w.true c.requires.1

pub returns-then-up-from : goal.returns-then-up-from
returns-then-up-from c =
    next_near c.args.w c.args.n c.requires.0 c.if-n-w.false (rw c.from.ensures at c.if-up-from.true)

pub returns-else-up-from : goal.returns-else-up-from
returns-else-up-from c =
    next_far c.args.w c.args.n c.requires.0 c.if-n-w.false (rw c.from.ensures at c.if-up-from.false)
