use Rattle.ccmp.proofs.Answering.{open_takes}
use Rattle.ccmp.proofs.opening.open.Goals as goal

pub after_opening-receiver-requires : goal.after_opening-receiver-requires
after_opening-receiver-requires c =
    let a = c.args in
    open_takes a.r a.frame.now a.out.now c.open_frame-answer.result c.open_frame-answer.ensures.value
