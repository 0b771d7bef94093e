use Rattle.aes.proofs.States.{last_is}
use Rattle.aes.proofs.rounds.last_round.Goals as goal

-- ShiftRows may come before SubBytes.
pub returns : goal.returns
returns c h = last_is _ _ 10 c.shift_rows.ensures c.add_round_key.ensures (c.sub_bytes.ensures h)
