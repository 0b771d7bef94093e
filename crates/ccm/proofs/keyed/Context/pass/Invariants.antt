use mathlib.Core.Path.{◌≡◌}
use mathlib.Core.Bool.{cond}
use mathlib.Core.List.{◌++◌}
use Prim.Native.Nat.{◌≤◌, ◌+◌, ◌*◌}
use lib.ListN.{length, take, drop}
use Rattle.aes.specs.KeyExpansion.{aes128}
use Rattle.aes.specs.Word.{bytes_of}
use Rattle.ccm.specs.Limits.{most_message}
use Rattle.ccm.specs.Blocks.{blocks}
use Rattle.ccm.specs.Ccm.{S, masked, chain}
use Rattle.ccm.specs.Room.{counter_at}
use Rattle.ccm.proofs.keyed.Context.pass.Given as goal

-- At each turn what is written and what is left to mask make the whole text, the message's rest goes through the chain from where it stands, and the
-- key stream's next block is at hand.
abbrev pub invariant-loop-k : goal.invariant-loop-k
invariant-loop-k g l =
    (length l.initial.out ≡ length l.s) × (length l.out ≡ length l.s) × (16 * l.i + length l.s ≤ most_message + 16)
    × (bytes_of l.key ≡ S (aes128 l.self.cipher) l.self.nonce (counter_at (length l.s) (16 * l.k) (l.i + l.k) l.after))
    × (take (16 * l.k) l.out ++ masked (aes128 l.self.cipher) l.self.nonce (l.i + l.k) (drop (16 * l.k) l.s) ≡ masked (aes128 l.self.cipher) l.self.nonce l.i l.s)
    × (chain (aes128 l.self.cipher) (bytes_of l.initial.x) (blocks (cond g.D.Direction.opens (masked (aes128 l.self.cipher) l.self.nonce l.i l.s) l.s))
    ≡ chain (aes128 l.self.cipher) (bytes_of l.x) (blocks (cond g.D.Direction.opens (masked (aes128 l.self.cipher) l.self.nonce (l.i + l.k) (drop (16 * l.k) l.s)) (drop (16 * l.k) l.s))))
