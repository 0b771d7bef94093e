use Rattle.ccmp.proofs.Windows.{sound_empty, unsound_over, unsound_top, sound_rest}
use Rattle.ccmp.proofs.window.sound_window.Goals as goal

-- Each way out has its law.
pub returns-then-w-eq0 : goal.returns-then-w-eq0
returns-then-w-eq0 c = sound_empty c.args.w c.if-w-eq0.true

pub returns-then-w-gt-MOST_NUMBER : goal.returns-then-w-gt-MOST_NUMBER
returns-then-w-gt-MOST_NUMBER c = unsound_over c.args.w c.if-w-gt-MOST_NUMBER.true

pub returns-then-w-ne1 : goal.returns-then-w-ne1
returns-then-w-ne1 c = unsound_top c.args.w c.if-w-eq0.false c.if-w-gt-MOST_NUMBER.false c.if-w-ne1.true

pub returns : goal.returns
returns c = rw (c.places.ensures, c.from.ensures) (sound_rest c.args.w c.if-w-eq0.false c.if-w-gt-MOST_NUMBER.false c.if-w-ne1.false)
