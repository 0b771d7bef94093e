use Rattle.std.proofs.Common.{◌≡◌, ◌-◌, length}
use Rattle.book.specs.Pieces.{held}
use Rattle.book.proofs.Feeding.{Here}
use Rattle.book.proofs.pieces.feed.Given as goal

-- Between two lines `Here` holds.
abbrev pub invariant-loop-taken : goal.invariant-loop-taken
invariant-loop-taken l =
    record {
      same_room : l.page.room.ghost_name ≡ l.initial.page.room.ghost_name;
      here : Here l.fn.r.book (held l.fn.r) l.piece l.initial.page.room.now l.line l.book l.kept l.taken l.page;
    }

abbrev pub decreases-loop-taken : goal.decreases-loop-taken
decreases-loop-taken l = length l.piece - l.taken
