use Rattle.std.proofs.Common.{arith}
use Rattle.rules.specs.Records.{count_of}
use Rattle.ccmp.proofs.Counts.{moves}
use Rattle.ccmp.proofs.record.count_of.Goals as goal

-- In each arm the refusals are a run of numbers, at each of which the count is computed.
pub returns-in-10 : goal.returns-in-10
unfolding count_of
returns-in-10 c = moves 10 1 2 tt c.args.refusal (omega arith) (omega arith)

pub returns-in-11 : goal.returns-in-11
unfolding count_of
returns-in-11 c = moves 11 1 3 tt c.args.refusal (omega arith) (omega arith)

pub returns-in-2 : goal.returns-in-2
unfolding count_of
returns-in-2 c = moves 2 4 1 tt c.args.refusal (omega arith) (omega arith)

pub returns-in-2-2 : goal.returns-in-2-2
unfolding count_of
returns-in-2-2 c = moves 7 3 1 tt c.args.refusal (omega arith) (omega arith)

pub returns-in_default : goal.returns-in_default
unfolding count_of
returns-in_default c = moves 0 2 0 tt c.args.refusal (omega arith) (omega arith)

pub returns-in_default-2 : goal.returns-in_default-2
unfolding count_of
returns-in_default-2 c = moves 6 1 0 tt c.args.refusal (omega arith) (omega arith)

pub returns-in_default-3 : goal.returns-in_default-3
unfolding count_of
returns-in_default-3 c = moves 12 244 0 tt c.args.refusal (omega arith) c.ranges.refusal.fits
