use Rattle.std.proofs.Common.{◌≡◌, ◌*◌, drop}
use Rattle.aes.specs.KeyExpansion.{aes128}
use Rattle.aes.specs.Word.{bytes_of}
use Rattle.ccm.specs.Blocks.{blocks}
use Rattle.ccm.specs.Ccm.{chain}
use Rattle.ccm.proofs.keyed.Cipher.absorb.Given as goal

-- What is left to absorb goes through the chain from where it stands, so that at the end it stands at the result.
abbrev pub invariant-loop-k : goal.invariant-loop-k
invariant-loop-k l = chain (aes128 l.self) (bytes_of l.initial.y) (blocks l.s) ≡ chain (aes128 l.self) (bytes_of l.y) (blocks (drop (16 * l.k) l.s))
