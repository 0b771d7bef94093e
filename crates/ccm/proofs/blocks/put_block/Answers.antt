use mathlib.Core.Path.{refl, ap, ◌∙◌}
use mathlib.Core.List.{List, ◌++◌}
use Prim.Native.Nat.{ℕ, ◌-◌}
use native.Mathlib.Omega.{arith}
use lib.ListN.{length, take, drop, length-take, length-drop}
use Rattle.octets.proofs.Lists.{laid_all}
use Rattle.aes.specs.Word.{bytes_of}
use Rattle.ccm.proofs.Padding.{put_short}
use Rattle.ccm.proofs.blocks.put_block.Goals as goal

-- The room that the block is copied into ends with out or with the block.
pub returns-then-n-lt16 : goal.returns-then-n-lt16
returns-then-n-lt16 c =
    let out = c.args.out.now in
    let at = c.args.at in
    let ys = c.copy.ensures.copied ∙ laid_all _ _ (simp (length-take, length-drop) (omega arith)) ∙ ap (take (length out - at)) c.store-block.ensures in
    ap (λ (l : List ℕ). take at out ++ (l ++ drop (length out - at) (drop at out))) ys
    ∙ ap (λ (l : List ℕ). take at out ++ l) (put_short (bytes_of c.args.x) out at refl c.requires c.if-n-lt16.true)
