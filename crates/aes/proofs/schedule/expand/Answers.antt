use Rattle.std.proofs.Common.{rules, arith, sym, ap, ◌∙◌, ◌≡◌, ◌-◌, ◌*◌}
use borrow.Rule.Slice.PartMut.{same_len_mid}
use lib.Seq.{take_all}
use Rattle.aes.specs.KeyExpansion.{schedule, key_expansion}
use Rattle.aes.proofs.Expansion.{whole, laid_word, at_hand, grown}
use Rattle.aes.proofs.schedule.expand.Goals as goal

pub loop-i-init : goal.loop-i-init
unfolding schedule
loop-i-init c = (search rules, c.word_at-last.ensures, λ h. whole c.copy.new.to c.args.key _ (search rules) c.copy.ensures.copied)

pub loop-i-preserved : goal.loop-i-preserved
loop-i-preserved c =
    let l = c.loop-i in
    let v = l.invariant in
    let is = c.copy-in-loop-i.ensures.copied ∙ laid_word _ _ _ _ (omega arith) c.unpack.ensures in (
      same_len_mid _ _ l.w _ c.copy-in-loop-i.auto.to ∙ v.0,
      at_hand l.w _ l.i _ _ v.0 l.auto.i c.loop-i-test.true is,
      λ h. grown l.w _ l.i _ _ v.0 l.auto.i c.loop-i-test.true is c.args.key l.last (v.2 h) v.1 (c.next_word-last.ensures h),
    )

pub returns : goal.returns
unfolding key_expansion
returns c h =
    let l = c.loop-i in
    let e : l.i - 4 ≡ 40 = omega arith in
    sym (take_all (4 * l.i) l.w (omega arith)) ∙ l.invariant.2 h ∙ ap (schedule 4 c.args.key) e
