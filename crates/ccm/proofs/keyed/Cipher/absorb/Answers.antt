use Rattle.std.proofs.Common.{length, refl, sym, ap, ◌∙◌}
use Rattle.aes.specs.KeyExpansion.{aes128}
use Rattle.aes.specs.Word.{bytes_of}
use Rattle.ccm.specs.Blocks.{xors}
use Rattle.ccm.proofs.Turns.{within, behind, absorbs, absorbed}
use Rattle.ccm.proofs.keyed.Cipher.absorb.Goals as goal

pub loop-k-preserved : goal.loop-k-preserved
loop-k-preserved c =
    let l = c.loop-k in
    let s = c.args.s.now in
    let E = aes128 c.args.self.now in
    l.invariant
    ∙ absorbs E s l.k (bytes_of l.y) _ _ (within (length s) l.k _ c.div_ceil-k-end.ensures c.loop-k-test.true) refl
    (c.encrypt-y.ensures ∙ ap E (c.add.ensures ∙ ap (xors (bytes_of l.y)) c.block_at.ensures))

pub returns : goal.returns
returns c =
    let l = c.loop-k in
    let s = c.args.s.now in
    sym (l.invariant ∙ absorbed (aes128 c.args.self.now) s l.k (bytes_of l.y) (behind (length s) l.k _ c.div_ceil-k-end.ensures c.loop-k-test.false))
