use mathlib.Core.Path.{refl}
use Rattle.aes.specs.Cipher.{add_round_key}
use Rattle.aes.specs.KeyExpansion.{xor_word}
use Rattle.aes.proofs.Bytes.{added}
use Rattle.aes.proofs.States.{columns_are}
use Rattle.aes.proofs.rounds.add_round_key.Goals as goal

-- Column by column: XOR of words is XOR of their bytes.
pub returns : goal.returns
unfolding add_round_key xor_word
returns c =
    let s = c.args.s in
    columns_are (added s.a _ refl c.word_at.ensures) (added s.b _ refl c.word_at-2.ensures)
    (added s.c _ refl c.word_at-3.ensures) (added s.d _ refl c.word_at-4.ensures)
