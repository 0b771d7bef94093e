use mathlib.Core.Path.{ap, ap₂, ◌∙◌}
use mathlib.Core.List.{List}
use Prim.Native.Nat.{ℕ}
use Rattle.aes.specs.KeyExpansion.{aes128}
use Rattle.ccm.specs.Blocks.{blocks}
use Rattle.ccm.specs.Ccm.{flags, B₀, chain}
use Rattle.ccm.proofs.keyed.Context.begin.Goals as goal

-- The flags 0x59 are those of a code of `code_octets`, and the chain goes on from B_0 through the coded data.
pub returns : goal.returns
unfolding B₀ flags
returns c =
    let a = c.args in
    let E = aes128 a.self.now.cipher in
    c.absorb.ensures
    ∙ ap₂ (λ (x c : List ℕ). chain E x (blocks c)) (c.encrypt-first.ensures ∙ ap E c.formatted.ensures) c.coded-data.ensures
