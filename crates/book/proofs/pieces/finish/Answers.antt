use Rattle.std.proofs.Common.{◌≡◌, ℕ, ◌≤◌, [], ◌∷◌, length, take, sym, ap, ◌∙◌, arith, length-take, rules}
use Rattle.book.specs.Limits.{most_kept, most_answer}
use Rattle.book.specs.Put.{put}
use Rattle.book.specs.Text.{line_feed, unended}
use Rattle.book.specs.Pieces.{says, held, ended}
use Rattle.book.proofs.Held.{none_said}
use Rattle.book.proofs.Puts.{put_nothing}
use Rattle.book.proofs.Whole.{line_feed_lem}
use Rattle.book.proofs.pieces.finish.Goals as goal

-- A line feed after what is held ends the last line as the end of the text does.
pub returns-then-r-eq0 : goal.returns-then-r-eq0
returns-then-r-eq0 c =
    let a = c.args in
    let none = none_said a.r.book (held a.r) (omega (arith, length-take a.r.length a.r.line, c.if-r-eq0.true)) in
    record { value = ap length (sym none); upper_bound = search rules; out_after = sym (ap (λ t. put 0 t a.out.now) none ∙ put_nothing 0 a.out.now) }

pub returns : goal.returns
returns c =
    let a = c.args in
    let f = c.feed in
    let e = f.ensures.enough in
    let line : length a.r.line ≡ most_kept = search rules in
    let room : most_answer ≤ length a.out.now = search rules in
    let one : f.result.taken ≡ 1 = omega (arith, e.within, e.some (omega arith) room) in
    let said : says a.r.book (ended (held a.r) (take f.result.taken (line_feed ∷ []))) ≡ says a.r.book (unended (held a.r))
    = ap (λ (n : ℕ). says a.r.book (ended (held a.r) (take n (line_feed ∷ [])))) one
    ∙ line_feed_lem a.r.book (held a.r) (λ z. c.if-r-eq0.false (omega (arith, z, length-take a.r.length a.r.line))) in
    let room-size : length f.new.out ≡ length a.out.now = search rules in
    record { value = f.ensures.gave.written_is ∙ ap length said; upper_bound = omega (arith, e.fits); out_after = f.ensures.gave.room_is ∙ ap (λ t. put 0 t a.out.now) said }
