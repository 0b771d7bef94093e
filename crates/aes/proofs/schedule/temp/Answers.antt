use Rattle.aes.specs.KeyExpansion.{round_constants}
use Rattle.aes.proofs.Expansion.{temp_turned, temp_same}
use Rattle.aes.proofs.schedule.temp.Goals as goal

-- By the test of the branch: at a multiple of four the standard turns, substitutes and adds the constant.
pub returns-then-i-eq0 : goal.returns-then-i-eq0
unfolding round_constants
returns-then-i-eq0 c h =
    temp_turned c.args.i _ _ _ c.if-i-eq0.true (c.sub_word.ensures h) c.rot_word.ensures

pub returns-else-i-eq0 : goal.returns-else-i-eq0
returns-else-i-eq0 c h = temp_same c.args.i _ c.if-i-eq0.false
