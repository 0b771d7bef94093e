use mathlib.Core.Path.{ap₂, ◌∙◌}
use lib.Dec.{eqb}
use Rattle.table.proofs.Words.{words_same, word_16}
use borrow.Author.Rules.{rules}
use Rattle.table.proofs.entry.same_key.Goals as goal

-- Two keys of sixteen octets are the same where their words are.
pub returns : goal.returns
returns c =
    let a = c.args.a.now in
    let b = c.args.b.now in
    ap₂ eqb (c.from_le_bytes.ensures ∙ word_16 a (search rules)) (c.from_le_bytes-2.ensures ∙ word_16 b (search rules))
    ∙ words_same a b (search rules) (search rules) (search rules)
