use Rattle.ccmp.proofs.Answering.{parts_number}
use Rattle.ccmp.proofs.sealing.seal_parts.Goals as goal

pub after_sealing-sender-requires : goal.after_sealing-sender-requires
after_sealing-sender-requires c =
    let a = c.args in
    parts_number a.s a.head.now a.body.now a.out.now c.seal_both-answer.result c.seal_both-answer.ensures.value
