-- By the text's length, twice, and one more for `open_from`.
use Rattle.std.proofs.Common.{◌+◌, ◌*◌, length}
use Rattle.ccm.proofs.keyed.Context.+open_first_open_from.Given as goal

abbrev pub decreases-open_first : goal.decreases-open_first
decreases-open_first l = 2 * length l.text.now

abbrev pub decreases-open_from : goal.decreases-open_from
decreases-open_from l = 2 * length l.text.now + 1
