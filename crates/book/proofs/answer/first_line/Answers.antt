use Rattle.std.proofs.Common.{sym}
use Rattle.book.proofs.Answered.{first_bad, first_good}
use Rattle.book.proofs.answer.first_line.Goals as goal

-- A bad line 1 ends the run; a good one makes the two records.
pub returns-in_default-clause-book_value : goal.returns-in_default-clause-book_value
returns-in_default-clause-book_value c = first_bad c.args.b _ (sym c.in_default.ensures.good_value)

pub returns-clause-book_value : goal.returns-clause-book_value
returns-clause-book_value c =
    let k = c.in-Some in
    first_good c.args.b _ (sym k.ensures.good_value) k.k k.ensures.given _ _ c.fresh_sender.ensures.sender_value c.fresh_receiver.ensures.receiver_value
