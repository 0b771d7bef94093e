use Rattle.rules.specs.Joining.{fresh_joiner}
use Rattle.fragments.proofs.joining.new_joiner.Goals as goal

-- All zeros.
pub returns : goal.returns
unfolding fresh_joiner
returns c = rw c.no_fragment.ensures
