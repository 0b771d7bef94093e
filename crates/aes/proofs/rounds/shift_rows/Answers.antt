use Rattle.aes.specs.Cipher.{shift_rows}
use Rattle.aes.proofs.States.{columns_are}
use Rattle.aes.proofs.rounds.shift_rows.Goals as goal

-- Column by column.
pub returns : goal.returns
unfolding shift_rows
returns c = columns_are c.shifted.ensures c.shifted-2.ensures c.shifted-3.ensures c.shifted-4.ensures
