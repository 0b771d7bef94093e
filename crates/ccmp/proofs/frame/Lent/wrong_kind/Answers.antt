use Rattle.std.proofs.Common.{arith}
use Rattle.rules.specs.Header.{wrong_kind}
use Rattle.ccmp.proofs.Masks.{test_4f}
use Rattle.ccmp.proofs.frame.Lent.wrong_kind.Goals as goal

-- The mask holds the bits of the version, of the type and of no data, so one comparison tests all three.
pub returns : goal.returns
unfolding wrong_kind
returns c = test_4f _ (omega arith)
