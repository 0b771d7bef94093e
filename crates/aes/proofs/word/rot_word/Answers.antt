use Rattle.std.proofs.Common.{ap, ◌∙◌}
use Rattle.aes.specs.Word.{bytes}
use Rattle.aes.proofs.Bytes.{rotated}
use Rattle.aes.proofs.word.rot_word.Goals as goal

-- The low byte goes to the top, and the rest moves down.
pub returns : goal.returns
returns c = ap bytes c.rotate_right.ensures ∙ rotated c.args.x c.ranges.x.fits
