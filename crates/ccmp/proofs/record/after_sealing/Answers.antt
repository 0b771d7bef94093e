use Rattle.rules.specs.Records.{sender_next}
use Rattle.ccmp.proofs.record.after_sealing.Goals as goal

pub returns-in-Ok : goal.returns-in-Ok
unfolding sender_next
returns-in-Ok c = rw (c.in-Ok.is, rw c.in-Ok.is at c.requires)

pub returns-in-Err : goal.returns-in-Err
unfolding sender_next
returns-in-Err c = rw c.in-Err.is
