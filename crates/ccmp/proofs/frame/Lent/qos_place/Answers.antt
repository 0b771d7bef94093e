use Rattle.std.proofs.Common.{get_or, arith}
use Rattle.rules.specs.Header.{qos_place}
use Rattle.ccmp.proofs.Masks.{mask_03}
use Rattle.ccmp.proofs.frame.Lent.qos_place.Goals as goal

-- The mask is ToDS and FromDS.
pub returns-then-octets-eq3 : goal.returns-then-octets-eq3
unfolding qos_place
returns-then-octets-eq3 c = omega (arith, mask_03 (get_or c.args.self.octets.now 1 0) (omega arith))

pub returns : goal.returns
unfolding qos_place
returns c = omega (arith, mask_03 (get_or c.args.self.octets.now 1 0) (omega arith))
