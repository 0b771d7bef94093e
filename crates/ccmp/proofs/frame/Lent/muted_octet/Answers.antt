use Rattle.std.proofs.Common.{arith, sym, ◌∙◌}
use Rattle.ccmp.proofs.Masks.{mask_87}
use Rattle.ccmp.proofs.frame.Lent.muted_octet.Goals as goal

-- Each branch has its mask.
pub returns : goal.returns
returns c = rw (sym c.has_qos.ensures ∙ c.if-has_qos.false) (mask_87 _ (omega arith))
