use Rattle.std.proofs.Common.{ℕ, List, get_or, ap, ◌∙◌}
use Rattle.aes.proofs.Entries.{second}
use Rattle.aes.proofs.Laws.{octet_sbox}
use Rattle.aes.proofs.column.substituted.Goals as goal

-- The second byte of the table's entry at x.
pub returns : goal.returns
returns c h =
    ap (λ (l : List ℕ). get_or l 1 0) c.to_le_bytes.ensures ∙ second _ _ (octet_sbox c.args.x) (h.entry c.args.x c.ranges.x.fits)
