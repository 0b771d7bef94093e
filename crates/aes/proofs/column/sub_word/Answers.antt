use Rattle.std.proofs.Common.{[], ◌∷◌, ap, ◌∙◌}
use Rattle.aes.specs.KeyExpansion.{sub_word}
use Rattle.aes.proofs.column.sub_word.Goals as goal

-- Byte by byte, as `pack` puts them together.
pub returns : goal.returns
unfolding sub_word
returns c h =
    c.pack.ensures
    ∙ (λ i. c.substituted.ensures h i ∷ c.substituted-2.ensures h i ∷ c.substituted-3.ensures h i ∷ c.substituted-4.ensures h i ∷ [])
    ∙ ap sub_word c.unpack.ensures
