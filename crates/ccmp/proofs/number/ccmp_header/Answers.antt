use Rattle.std.proofs.Common.{sym}
use Rattle.ccmp.proofs.Numbers.{header_octets}
use Rattle.ccmp.proofs.number.ccmp_header.Goals as goal

-- Octet by octet; the one with the key ID is computed at each of the four.
pub returns : goal.returns
returns c = rw c.to_le_bytes.ensures (sym (header_octets c.args.n c.args.key_id c.requires))
