use Rattle.aes.proofs.Bytes.{added}
use Rattle.aes.proofs.schedule.next_word.Goals as goal

-- XOR of words is XOR of their bytes.
pub returns : goal.returns
returns c h = added _ _ c.word_at.ensures (c.temp.ensures h)
