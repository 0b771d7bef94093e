use Rattle.std.proofs.Common.{◌≡◌, length, take, refl, sym, ◌∙◌, arith, rules}
use Rattle.octets.proofs.Search.{found, not_found}
use Rattle.book.specs.Limits.{most_kept}
use Rattle.book.specs.declared.Stage.TheVariants.{First}
use Rattle.book.specs.Text.{line_feed}
use Rattle.book.specs.Pieces.{held, Gave, Enough}
use Rattle.book.proofs.Answered.{at_stage, nothing_left, bad_left, sealed_left, opened_left}
use Rattle.book.proofs.Feeding.{start, rest, more, short, all_taken}
use Rattle.book.proofs.Held.{kept_held}
use Rattle.book.proofs.Parts.{rest_of}
use Rattle.book.proofs.pieces.feed.Goals as goal
use Rattle.book.proofs.pieces.feed.Goals.{then-loop-taken-test+else-page-ge-MOST_ANSWER, else-loop-taken-test, then-loop-taken-test+then-page-ge-MOST_ANSWER+in_default}

-- Each kind of line leaves what the book says of it.
pub loop-taken-init : goal.loop-taken-init
loop-taken-init c =
    let a = c.args in
    let k = c.min-kept in
    let size : length a.r.line ≡ most_kept = search rules in
    record {
      same_room = refl;
      here = start a.r.book (held a.r) a.piece.now a.out.now a.r.line k.result size (omega (arith, k.ensures)) (sym (kept_held a.r.line a.r.length k.result size k.ensures)) _ refl refl;
    }

pub loop-taken-preserved-in-First : goal.loop-taken-preserved-in-First
loop-taken-preserved-in-First c =
    let l = c.loop-taken in
    let k = c.keep-end in
    let t = c.first_line-book in
    let left = at_stage _ _ First _ _ _ c.in-First.is (t.ensures.book_value, t.ensures.page_after) in
    record {
      same_room = t.ensures.page_after.same_room ∙ l.invariant.same_room;
      here = more _ _ _ _ _ _ _ _ _ l.invariant.here _ (rest_of c.args.piece.now l.taken) _ _ _ (found line_feed _ _ c.in-Some.ensures) k.ensures.line_after _ _ left;
    }

pub loop-taken-preserved-in-None : goal.loop-taken-preserved-in-None
loop-taken-preserved-in-None c =
    let l = c.loop-taken in
    let k = c.keep-end in
    let t = c.put_bad in
    let left = bad_left _ _ c.in-Going.is _ _ c.in-None.ensures.frame_after t.ensures in
    record {
      same_room = t.ensures.same_room ∙ l.invariant.same_room;
      here = more _ _ _ _ _ _ _ _ _ l.invariant.here _ (rest_of c.args.piece.now l.taken) _ _ _ (found line_feed _ _ c.in-Some.ensures) k.ensures.line_after _ _ left;
    }

pub loop-taken-preserved-in-Some-Seal : goal.loop-taken-preserved-in-Some-Seal
loop-taken-preserved-in-Some-Seal c =
    let l = c.loop-taken in
    let k = c.keep-end in
    let t = c.seal_line-book in
    let asks = rw c.in-Some-Seal.field-0-is at c.in-Some-Seal.ensures.frame_after in
    let left = sealed_left _ _ c.in-Going.is _ _ _ asks _ t.ensures.sender_value t.ensures.page_after in
    record {
      same_room = t.ensures.page_after.same_room ∙ l.invariant.same_room;
      here = more _ _ _ _ _ _ _ _ _ l.invariant.here _ (rest_of c.args.piece.now l.taken) _ _ _ (found line_feed _ _ c.in-Some.ensures) k.ensures.line_after _ _ left;
    }

pub loop-taken-preserved-in-Some-Open : goal.loop-taken-preserved-in-Some-Open
loop-taken-preserved-in-Some-Open c =
    let l = c.loop-taken in
    let k = c.keep-end in
    let t = c.open_line-book in
    let asks = rw c.in-Some-Open.field-0-is at c.in-Some-Open.ensures.frame_after in
    let left = opened_left _ _ c.in-Going.is _ _ _ asks _ t.ensures.receiver_value t.ensures.page_after in
    record {
      same_room = t.ensures.page_after.same_room ∙ l.invariant.same_room;
      here = more _ _ _ _ _ _ _ _ _ l.invariant.here _ (rest_of c.args.piece.now l.taken) _ _ _ (found line_feed _ _ c.in-Some.ensures) k.ensures.line_after _ _ left;
    }

pub loop-taken-preserved : goal.loop-taken-preserved
loop-taken-preserved c =
    let l = c.loop-taken in
    let k = c.keep-end in
    record {
      same_room = l.invariant.same_room;
      here = more _ _ _ _ _ _ _ _ _ l.invariant.here _ (rest_of c.args.piece.now l.taken) _ _ _ (found line_feed _ _ c.in-Some.ensures) k.ensures.line_after _ _ (nothing_left _ _ _ c.in-Ended.is);
    }

-- what is said of a book's page is said of the room that it was made of
pub returns : goal.returns
returns c =
    let l = c.loop-taken in
    let a = c.args in
    let t = c.loop-taken-test in
    let same = l.invariant.same_room in
    let gave : Gave a.r.book (held a.r) (take t.taken a.piece.now) a.out.now l.book (take t.kept t.line) l.page.room.now l.page.end =
    elim t.branch [
      | then-loop-taken-test+else-page-ge-MOST_ANSWER w ↦ rw (w.taken-is, w.kept-is, w.line-is) l.invariant.here.gave
      | else-loop-taken-test w ↦ rw (w.taken-is, w.kept-is, w.line-is) l.invariant.here.gave
      | then-loop-taken-test+then-page-ge-MOST_ANSWER+in_default w ↦
          let k = w.keep-kept in
          rw (w.taken-is, w.kept-is, w.line-is)
          (rest _ _ _ _ _ _ _ _ _ l.invariant.here _ (rest_of a.piece.now l.taken) _ _ (not_found line_feed _ w.in_default.ensures) k.ensures.upper_bound k.ensures.line_after).gave
    ] in
    let enough : Enough (length a.piece.now) t.taken (length a.out.now) l.page.end =
    elim t.branch [
      | then-loop-taken-test+else-page-ge-MOST_ANSWER w ↦ rw w.taken-is (short _ _ _ _ _ _ _ _ _ l.invariant.here (omega (arith, l.invariant.here.out_size, w.if-page-ge-MOST_ANSWER.false)))
      | else-loop-taken-test w ↦ all_taken a.r.book (held a.r) a.piece.now a.out.now t.taken l.page.end (omega (arith, w.taken-is, w.loop-taken-test.false, l.invariant.here.place)) l.invariant.here.room
      | then-loop-taken-test+then-page-ge-MOST_ANSWER+in_default w ↦ all_taken a.r.book (held a.r) a.piece.now a.out.now t.taken l.page.end w.taken-is l.invariant.here.room
    ] in
    record { gave = search rules; enough = enough }
