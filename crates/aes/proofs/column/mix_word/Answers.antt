use mathlib.Core.Path.{ap, ◌∙◌}
use borrow.Author.Rules.{rules}
use Rattle.std.proofs.Common.{ℕ, List}
use Rattle.aes.specs.Cipher.{mix_column}
use Rattle.aes.specs.KeyExpansion.{sub_word}
use Rattle.aes.specs.Word.{bytes}
use Rattle.aes.proofs.Entries.{turned_0, turned_1, turned_2, turned_3}
use Rattle.aes.proofs.Laws.{octet_sbox}
use Rattle.aes.proofs.States.{mixed}
use Rattle.aes.proofs.column.mix_word.Goals as goal

-- Each column of the matrix is the first one turned, so four products, turned and added, are the mixed column.
pub returns : goal.returns
unfolding sub_word
returns c h =
    mixed _ _ _ _ _ _ _ _ (ap bytes c.low_half.ensures ∙ turned_0 _ _ (octet_sbox _) (h.entry _ (search rules)))
    (ap bytes c.low_half-2.ensures ∙ turned_3 _ _ (octet_sbox _) (h.entry _ (search rules)))
    (ap bytes c.low_half-3.ensures ∙ turned_2 _ _ (octet_sbox _) (h.entry _ (search rules)))
    (ap bytes c.low_half-4.ensures ∙ turned_1 _ _ (octet_sbox _) (h.entry _ (search rules)))
    ∙ ap (λ (l : List ℕ). mix_column (sub_word l)) c.unpack.ensures
