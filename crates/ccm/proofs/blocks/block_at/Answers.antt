use Rattle.std.proofs.Common.{◌∙◌}
use Rattle.ccm.proofs.Padding.{first_is}
use Rattle.ccm.proofs.blocks.block_at.Goals as goal

-- The last block by a copy, and any other whole.
pub returns-in-Some : goal.returns-in-Some
returns-in-Some c =
    c.load.ensures ∙ c.in-Some.ensures.cases.same ∙ first_is c.args.s.now c.args.at c.requires c.in-Some.ensures.cases.enough
