use Rattle.std.proofs.Common.{le-leb}
use borrow.Author.Tests.{lt-leb}
use Rattle.rules.specs.Limits.{most_key_id}
use Rattle.rules.specs.Records.{fresh_answer, fresh_sender}
use Rattle.ccmp.proofs.record.fresh_sender.Goals as goal

-- The key ID is over 3 or it is not.
pub returns-then-key_id-gt-MOST_KEY_ID : goal.returns-then-key_id-gt-MOST_KEY_ID
unfolding fresh_answer fresh_sender
returns-then-key_id-gt-MOST_KEY_ID c = let e = lt-leb c.args.key_id most_key_id c.if-key_id-gt-MOST_KEY_ID.true in record { answer_value = rw e; sender_value = rw e c.new_sender-sender.ensures }

pub returns : goal.returns
unfolding fresh_answer fresh_sender
returns c = let e = le-leb c.args.key_id most_key_id c.if-key_id-gt-MOST_KEY_ID.false in record { answer_value = rw e; sender_value = rw e c.new_sender-sender-2.ensures }
