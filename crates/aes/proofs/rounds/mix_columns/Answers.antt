use Rattle.std.proofs.Common.{rules, ◌≡◌}
use Rattle.aes.specs.Cipher.{sub_bytes, mix_column, mix_columns}
use Rattle.aes.specs.KeyExpansion.{sub_word}
use Rattle.aes.specs.Word.{bytes}
use Rattle.aes.proofs.States.{columns_are}
use Rattle.aes.proofs.rounds.mix_columns.Goals as goal

-- Column by column.
pub returns : goal.returns
unfolding mix_columns sub_bytes sub_word
returns c h =
    let a : bytes c.map.result.a ≡ mix_column (sub_word (bytes c.args.s.a)) = search rules in
    let b : bytes c.map.result.b ≡ mix_column (sub_word (bytes c.args.s.b)) = search rules in
    let e : bytes c.map.result.c ≡ mix_column (sub_word (bytes c.args.s.c)) = search rules in
    let d : bytes c.map.result.d ≡ mix_column (sub_word (bytes c.args.s.d)) = search rules in
    columns_are a b e d
