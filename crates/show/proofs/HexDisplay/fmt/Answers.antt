use Rattle.std.proofs.Common.{rules}
use Rattle.std.proofs.Output.{has_written_append, has_written_of_eq}
use Rattle.show.proofs.Digits.{digits_more}
use Rattle.show.proofs.HexDisplay.fmt.Goals as goal

pub loop-x-preserved : goal.loop-x-preserved
loop-x-preserved g c = λ p. has_written_of_eq _ _ _ _ _ (digits_more c.args.self.now.0.now c.loop-x.x-index (search rules) (search rules)) (has_written_append _ _ _ _ _ _ (c.loop-x.invariant p) (search rules))
