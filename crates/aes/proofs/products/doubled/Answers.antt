use Rattle.aes.specs.Field.{◌⊕◌, xtime}
use Rattle.aes.proofs.Doubling.{doubling}
use Rattle.aes.proofs.products.doubled.Goals as goal

-- The test of every byte, computed with the definition open.
pub returns : goal.returns
unfolding ◌⊕◌ xtime
returns c = doubling _ _ tt c.args.x c.ranges.x.fits
