use mathlib.Core.Path.{◌≡◌, ◌∙◌}
use native.Mathlib.Omega.{arith}
use borrow.Author.Rules.{rules}
use lib.ListN.{get_or}
use Rattle.rules.specs.Counts.{bit}
use Rattle.fragments.proofs.Heads.{bit_most, more_octet, number_octet, head_put, head_is}
use Rattle.fragments.proofs.splitting.Pieces.head.Goals as goal

-- The header is copied over the front, and two of its octets replaced.
pub returns : goal.returns
returns c =
    let a = c.args in
    let f = a.self.frame.now in
    let h = a.self.header.length in
    let m = bit a.more in
    let more_is : c.from.result ≡ m = search rules in
    rw (c.copy.ensures.copied, more_is)
    (head_put f _ h _ _ a.self.least a.self.whole
    ∙ head_is f h m a.i _ _ a.self.least (more_octet (get_or f 1 0) m (omega arith) (bit_most a.more)) (number_octet (get_or f 22 0) a.i (omega arith) c.requires))
