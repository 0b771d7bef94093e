use mathlib.Core.Path.{ap, ◌∙◌}
use Prim.Native.Nat.{ℕ, ◌+◌, ◌-◌, ◌*◌, ◌≤◌}
use native.Mathlib.Omega.{arith}
use lib.ListN.{length}
use Rattle.rules.specs.Limits.{most_header, most_fragments}
use Rattle.rules.specs.Mode.{added}
use Rattle.fragments.proofs.Counting.{message_is, most_added, octets_are}
use Rattle.fragments.proofs.splitting.Pieces.sealed_length.Goals as goal
use Rattle.fragments.proofs.splitting.Pieces.sealed_length.Goals.{After-count}

-- The message, and for each fragment a header and what sealing adds.
-- what the fragments have beside the message
beside : (c : After-count) → let h = c.args.self.header.length in c.count.result * (h + added) ≤ most_fragments * (most_header + added)
beside c =
    let a = c.args.self in
    rw c.count.ensures (most_added a.size a.frame.now a.header.length a.cut)

pub overflow_mul-result : goal.overflow_mul-result
overflow_mul-result c = let b = beside c in record { fits = omega arith }

pub overflow_add-result-2 : goal.overflow_add-result-2
overflow_add-result-2 c =
    let a = c.args.self in
    let b = beside c in
    record { fits = omega (arith, message_is a.size a.frame.now a.header.length a.cut, a.cut.fit.most) }

pub returns : goal.returns
returns c =
    let a = c.args.self in
    ap (λ (k : ℕ). length a.frame.now - a.header.length + k * (a.header.length + added)) c.count.ensures ∙ octets_are a.size a.frame.now a.header.length a.cut
