use Rattle.std.proofs.Common.{arith}
use Rattle.ccmp.proofs.Headers.{fields_of}
use Rattle.ccmp.proofs.Numbers.{number_octets}
use Rattle.ccmp.proofs.frame.Frame.number.Goals as goal

-- The six octets that are read are those of the CCMP header.
pub returns : goal.returns
returns c =
    let s = c.args.self in
    omega (arith, number_octets s.octets.now s.header.length (fields_of s.octets.now s.header s.is).length_is, c.from_le_bytes.ensures)
