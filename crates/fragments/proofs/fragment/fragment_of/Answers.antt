use native.Mathlib.Omega.{arith}
use Rattle.rules.specs.Header.{address2}
use Rattle.fragments.proofs.Fragments.{fragment_octets}
use Rattle.fragments.proofs.fragment.fragment_of.Goals as goal

-- A2 is a part of the frame, and Sequence Control is read by a shift and a mask.
pub returns : goal.returns
unfolding address2
returns c = fragment_octets c.args.frame.now _ c.args.p c.from_le_bytes.result c.args.n c.octets_at.ensures c.requires.1 (omega (arith, c.from_le_bytes.ensures))
