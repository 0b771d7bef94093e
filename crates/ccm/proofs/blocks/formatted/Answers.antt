use mathlib.Core.Path.{◌≡◌, ap, ◌∙◌}
use mathlib.Core.List.{List, ◌∷◌, ◌++◌}
use Prim.Native.Nat.{ℕ, ◌/◌, ◌%◌}
use native.Mathlib.Omega.{arith}
use borrow.Author.Rules.{rules}
use Rattle.octets.proofs.Lists.{each_all}
use Rattle.ccm.specs.Blocks.{two_octets}
use Rattle.ccm.specs.Ccm.{formatted}
use Rattle.ccm.proofs.blocks.formatted.Goals as goal

-- A nonce of 13 octets is the list of them.
pub returns : goal.returns
unfolding formatted two_octets
returns c =
    let a = c.args in
    let high : a.n / 256 % 256 ≡ a.n / 256 = omega (arith, c.requires) in
    c.load.ensures ∙ rw (c.to_be_bytes.ensures, high) (ap (λ (l : List ℕ). a.flags ∷ (l ++ two_octets a.n)) (each_all a.nonce 13 (search rules)))
