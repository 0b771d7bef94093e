use Rattle.aes.proofs.States.{round_is}
use Rattle.aes.proofs.rounds.round.Goals as goal

-- ShiftRows may come before SubBytes.
pub returns : goal.returns
returns c h = round_is _ _ c.args.n c.shift_rows.ensures c.add_round_key.ensures (c.mix_columns.ensures h)
