use Rattle.std.proofs.Common.{List, ℕ, ap, ◌∙◌}
use Rattle.aes.specs.Word.{bytes_of}
use Rattle.ccm.proofs.Schedules.{under}
use Rattle.ccm.proofs.keyed.Cipher.encrypt_two.Goals as goal

pub returns : goal.returns
returns c =
    let e = under _ _ c.self.view_is c.self.invariant.1 in
    record {
      first_value = c.encrypt_two.ensures.first_value c.self.invariant.0 ∙ ap (λ (E : List ℕ → List ℕ). E (bytes_of c.args.first)) e;
      second_value = c.encrypt_two.ensures.second_value c.self.invariant.0 ∙ ap (λ (E : List ℕ → List ℕ). E (bytes_of c.args.second)) e;
    }
