use mathlib.Core.Path.{◌≡◌, refl, ap, ap₂, ◌∙◌}
use mathlib.Core.List.{List, ◌++◌}
use Prim.Native.Nat.{ℕ, ◌-◌, ◌+◌}
use native.Mathlib.Omega.{arith}
use lib.ListN.{length, take, drop, length-take}
use Rattle.octets.proofs.Lists.{laid_all}
use Rattle.aes.specs.KeyExpansion.{aes128}
use Rattle.aes.specs.Word.{bytes_of}
use Rattle.aes.proofs.Laws.{length_aes128}
use Rattle.ccm.specs.Limits.{code_octets}
use Rattle.ccm.specs.Blocks.{xors}
use Rattle.ccm.proofs.Splitting.{length_masked}
use Rattle.ccm.proofs.Codes.{code_is}
use Rattle.ccm.proofs.Answers.{put_both}
use Rattle.ccm.proofs.keyed.Context.put.Goals as goal

-- The masked message and then the code stand in the front of out.
pub returns : goal.returns
returns c =
    let a = c.args in
    let E = aes128 a.self.now.cipher in
    let out = a.out.now in
    let m = a.body.now in
    let n = length m in
    let ys = c.pass-last.new.out in
    let zs = c.copy.new.to in
    let ly : length ys ≡ n = ap length c.pass-last.ensures.out_after ∙ length_masked E (length_aes128 a.self.now.cipher) a.self.now.nonce 1 m in
    let eₘ : n + code_octets - n ≡ code_octets = omega arith in
    let code = code_is E code_octets a.self.now.nonce a.self.now.aad.now m _ _ _ n refl c.start-first.ensures.x c.pass-last.ensures.x (c.code.ensures ∙ ap (xors (take code_octets (bytes_of c.pass-last.result.x))) c.pass-last.ensures.key) in
    ap (λ (k : ℕ). take n (ys ++ drop n out) ++ (zs ++ drop k (drop n (ys ++ drop n out)))) eₘ
    ∙ put_both out ys zs n code_octets ly
    ∙ ap₂ (λ (p q : List ℕ). (p ++ q) ++ drop (n + code_octets) out) c.pass-last.ensures.out_after (c.copy.ensures.copied ∙ laid_all _ _ (simp length-take (omega arith)) ∙ code)
