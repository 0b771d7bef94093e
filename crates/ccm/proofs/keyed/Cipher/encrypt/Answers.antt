use Rattle.std.proofs.Common.{List, ℕ, ap, ◌∙◌}
use Rattle.aes.specs.Word.{bytes_of}
use Rattle.ccm.proofs.Schedules.{under}
use Rattle.ccm.proofs.keyed.Cipher.encrypt.Goals as goal

pub returns : goal.returns
returns c =
    c.encrypt.ensures c.self.invariant.0 ∙ ap (λ (E : List ℕ → List ℕ). E (bytes_of c.args.block)) (under _ _ c.self.view_is c.self.invariant.1)
