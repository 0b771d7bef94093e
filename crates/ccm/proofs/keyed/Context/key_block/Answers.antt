use mathlib.Core.Path.{ap, ◌∙◌}
use Rattle.aes.specs.KeyExpansion.{aes128}
use Rattle.ccm.specs.Ccm.{S}
use Rattle.ccm.proofs.keyed.Context.key_block.Goals as goal

-- S_i is the encryption of A_i.
pub returns : goal.returns
unfolding S
returns c =
    c.encrypt.ensures ∙ ap (aes128 c.args.self.now.cipher) c.formatted.ensures
