use Rattle.std.proofs.Common.{rules, ◌≡◌}
use Rattle.aes.specs.Cipher.{sub_bytes}
use Rattle.aes.specs.KeyExpansion.{sub_word}
use Rattle.aes.specs.Word.{bytes}
use Rattle.aes.proofs.States.{columns_are}
use Rattle.aes.proofs.rounds.sub_bytes.Goals as goal

-- Column by column.
pub returns : goal.returns
unfolding sub_bytes sub_word
returns c h =
    let a : bytes c.map.result.a ≡ sub_word (bytes c.args.s.a) = search rules in
    let b : bytes c.map.result.b ≡ sub_word (bytes c.args.s.b) = search rules in
    let e : bytes c.map.result.c ≡ sub_word (bytes c.args.s.c) = search rules in
    let d : bytes c.map.result.d ≡ sub_word (bytes c.args.s.d) = search rules in
    columns_are a b e d
