use Rattle.std.proofs.Common.{◌≡◌, ◌-◌, ◌≤◌, length, take}
use Rattle.book.specs.Limits.{most_answer, most_kept}
use Rattle.book.specs.Pieces.{after, cut, held, ended, left}
use Rattle.framebook.proofs.feed_all.Given as goal

-- Between two calls the reader is where the part of the piece before it leads.
abbrev pub invariant-loop-at : goal.invariant-loop-at
invariant-loop-at l =
    record {
      book : l.reader.book ≡ after l.initial.reader.book (ended (held l.initial.reader) (take l.at l.piece));
      line : held l.reader ≡ cut (left (held l.initial.reader) (take l.at l.piece));
      within : l.at ≤ length l.piece;
      room : most_answer ≤ length l.out;
      whole : length l.reader.line ≡ most_kept;
    }

abbrev pub decreases-loop-at : goal.decreases-loop-at
decreases-loop-at l = length l.piece - l.at
