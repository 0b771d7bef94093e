use mathlib.Core.Path.{sym, ap}
use lib.Seq.{take_all}
use Rattle.aes.specs.Word.{bytes_of}
use Rattle.ccm.specs.Blocks.{padded}
use Rattle.ccm.proofs.blocks.clipped.Goals as goal

-- Sixteen octets need no padding.
pub returns : goal.returns
unfolding padded
returns c = sym (ap padded (take_all c.args.n (bytes_of c.args.x) c.if-n-lt16.false))
