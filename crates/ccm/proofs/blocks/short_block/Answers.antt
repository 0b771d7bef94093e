use mathlib.Core.Path.{◌∙◌}
use Rattle.ccm.proofs.Padding.{over_zeros}
use Rattle.ccm.proofs.blocks.short_block.Goals as goal

-- The octets are copied over zeros.
pub returns : goal.returns
returns c =
    c.load.ensures ∙ c.copy.ensures.copied ∙ over_zeros c.args.s.now c.requires
