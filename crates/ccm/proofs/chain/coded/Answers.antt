use mathlib.Core.Path.{◌≡◌, ap, ◌∙◌}
use mathlib.Core.List.{List, ◌∷◌}
use Prim.Native.Nat.{ℕ, ◌+◌, ◌/◌, ◌%◌, suc}
use native.Mathlib.Omega.{arith}
use lib.ListN.{length, length-take}
use lib.Seq.{take_at}
use Rattle.octets.proofs.Lists.{laid_all}
use Rattle.ccm.specs.Blocks.{two_octets}
use Rattle.ccm.specs.Ccm.{coded}
use Rattle.ccm.proofs.chain.coded.Goals as goal

-- The length and then the data, in the front of the array.
pub returns : goal.returns
unfolding coded two_octets
returns c =
    let a = c.args in
    let n = length a.aad.now in
    let ys = c.copy.new.to in
    let is : ys ≡ a.aad.now = c.copy.ensures.copied ∙ laid_all a.aad.now _ (simp length-take (omega arith)) in
    let e : n + 2 ≡ suc (suc n) = omega arith in
    let first : n / 256 % 256 ≡ n / 256 = omega arith in
    rw (c.to_be_bytes.ensures, first, e) (ap (λ (l : List ℕ). n / 256 ∷ n % 256 ∷ l) (take_at ys _ n (ap length is) ∙ is))
