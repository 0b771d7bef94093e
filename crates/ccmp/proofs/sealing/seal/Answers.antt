use Rattle.ccmp.proofs.Answering.{seal_number}
use Rattle.ccmp.proofs.sealing.seal.Goals as goal

pub after_sealing-sender-requires : goal.after_sealing-sender-requires
after_sealing-sender-requires c = let a = c.args in seal_number a.s a.frame.now a.out.now c.seal_whole-answer.result c.seal_whole-answer.ensures.value
