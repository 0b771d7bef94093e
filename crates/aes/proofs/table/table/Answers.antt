use mathlib.Core.Path.{refl}
use Rattle.aes.specs.Field.{◌⊕◌, xtime, sum_of_terms, ◌•◌, inverse}
use Rattle.aes.specs.Cipher.{affine_bit, affine, sbox}
use Rattle.aes.proofs.Entries.{tested}
use Rattle.aes.proofs.table.table.Goals as goal

-- The test of every entry, computed with the field's and the S-box's definitions open.
pub returns : goal.returns
unfolding ◌⊕◌ xtime sum_of_terms ◌•◌ inverse affine_bit affine sbox
returns c = tested _ refl tt
