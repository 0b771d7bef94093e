use Rattle.std.proofs.Common.{sym, arith}
use Rattle.ccmp.proofs.Numbers.{nonce_octets}
use Rattle.ccmp.proofs.frame.Frame.nonce.Goals as goal

-- The elements of A2, read one by one, are that part of the frame.
pub returns : goal.returns
returns c =
    let s = c.args.self in
    rw c.to_be_bytes.ensures (sym (nonce_octets s.header.priority s.octets.now c.args.n (omega (arith, s.least, s.whole))))
