use Rattle.std.proofs.Common.{◌≡◌, ℕ, List, replicate}
use Rattle.octets.proofs.Lists.{laid}
use Rattle.rules.specs.Limits.{most_data}
use Rattle.rules.specs.Header.{authenticated}
use Rattle.ccmp.proofs.frame.Frame.authenticated_data.Given as goal

abbrev pub zeros : List ℕ
zeros = replicate most_data 0

-- After i turns the first i octets of the array are those of the authenticated data.
abbrev pub invariant-loop-i : goal.invariant-loop-i
invariant-loop-i l = l.data ≡ laid l.i (authenticated l.self.octets.now) zeros
