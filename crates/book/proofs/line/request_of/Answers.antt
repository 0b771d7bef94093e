use Rattle.std.proofs.Common.{sym, ◌∙◌, arith}
use Rattle.book.specs.Line.{seal_word, open_word, asked_of}
use Rattle.book.proofs.Forms.{too_long, too_short, asked_is, neither_is, seal_parts, open_parts}
use Rattle.book.proofs.line.request_of.Goals as goal

-- A line that begins with a word and a tab asks what the text after them reads as; any other is malformed.
pub returns-then-line-gt-MOST_LINE-clause-frame_after : goal.returns-then-line-gt-MOST_LINE-clause-frame_after
returns-then-line-gt-MOST_LINE-clause-frame_after c = too_long c.args.line.now (omega (arith, c.if-line-gt-MOST_LINE.true))

pub returns-in_err-word-clause-frame_after : goal.returns-in_err-word-clause-frame_after
returns-in_err-word-clause-frame_after c = rw c.from_residual.ensures (too_short c.args.line.now c.in_err-word.ensures.cases)

pub returns-in_err-read_hex-clause-frame_after : goal.returns-in_err-read_hex-clause-frame_after
unfolding asked_of
returns-in_err-read_hex-clause-frame_after c =
    rw c.from_residual-in_err-read_hex.ensures
    (asked_is seal_word seal_parts c.args.line.now _ _ c.if-line-gt-MOST_LINE.false c.in_ok-word.ensures.cases (sym c.equal.ensures ∙ c.if-equal.true) _ c.in_err-read_hex.ensures.out_after)

pub returns-then-equal-clause-frame_after : goal.returns-then-equal-clause-frame_after
unfolding asked_of
returns-then-equal-clause-frame_after c =
    asked_is seal_word seal_parts c.args.line.now _ _ c.if-line-gt-MOST_LINE.false c.in_ok-word.ensures.cases (sym c.equal.ensures ∙ c.if-equal.true) _ c.in_ok-read_hex.ensures.out_after

pub returns-in_err-read_hex-2-clause-frame_after : goal.returns-in_err-read_hex-2-clause-frame_after
unfolding asked_of
returns-in_err-read_hex-2-clause-frame_after c =
    rw c.from_residual-in_err-read_hex-2.ensures
    (asked_is open_word open_parts c.args.line.now _ _ c.if-line-gt-MOST_LINE.false c.in_ok-word.ensures.cases (sym c.equal-2.ensures ∙ c.if-equal-2.true) _ c.in_err-read_hex-2.ensures.out_after)

pub returns-then-equal-2-clause-frame_after : goal.returns-then-equal-2-clause-frame_after
unfolding asked_of
returns-then-equal-2-clause-frame_after c =
    asked_is open_word open_parts c.args.line.now _ _ c.if-line-gt-MOST_LINE.false c.in_ok-word.ensures.cases (sym c.equal-2.ensures ∙ c.if-equal-2.true) _ c.in_ok-read_hex-2.ensures.out_after

pub returns-clause-frame_after : goal.returns-clause-frame_after
returns-clause-frame_after c =
    let front = c.in_ok-word.ensures.cases.1 in
    neither_is c.args.line.now c.if-line-gt-MOST_LINE.false (rw front at (sym c.equal.ensures ∙ c.if-equal.false)) (rw front at (sym c.equal-2.ensures ∙ c.if-equal-2.false))
