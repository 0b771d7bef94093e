use mathlib.Core.Path.{◌≡◌, sym, ap, ◌∙◌}
use mathlib.Core.Bool.{Bool, true, false}
use mathlib.Core.List.{List}
use Prim.Native.Nat.{ℕ, ◌-◌, ◌≤◌}
use native.Mathlib.Omega.{arith}
use borrow.Author.Tests.{leb-true, lt-ltb, le-ltb}
use lib.Dec.{leb, ltb}
use lib.ListN.{length}
use Rattle.octets.specs.Octets.{same}
use Rattle.octets.proofs.Booleans.{both}
use Rattle.rules.specs.Limits.{most_number, most_key_id}
use Rattle.rules.specs.Header.{header_of, address2}
use Rattle.rules.specs.Records.{sound_sender}
use Rattle.rules.specs.Tests.{header_tests}
use Rattle.rules.specs.Splitting.{message, unfit}
use Rattle.rules.specs.declared.Header.{Header}
use Rattle.rules.specs.declared.Sender.{Sender}
use Rattle.rules.proofs.Fields.{header_range}
use Rattle.rules.proofs.Splits.{fit}
use Rattle.ccmp.specs.Verdict.{Pass, verdict}
use Rattle.ccmp.proofs.Headers.{Fields, fields_of}
use Rattle.ccmp.proofs.Verdicts.{Headed, headed}
use Rattle.fragments.specs.Cutting.{Cut}
use Rattle.fragments.proofs.Counting.{message_size}
use Rattle.fragments.proofs.splitting.later_tests.Goals as goal

-- Test by test, after those that passed before.
module _ (f : List ℕ) (h : Header) (e : Pass h ≡ verdict (header_tests 1 f) (header_of f)) where
  head : Headed 1 f h
  head = headed 1 f h e

  fields : Fields f h
  fields = fields_of f h head.is

  ends : h.length ≤ length f
  ends = omega (arith, fields.length_is, head.whole)

  -- the octets of the message
  message_is : length f - h.length ≡ length (message f)
  message_is = omega (arith, fields.length_is, message_size f)

  unfit_is : (size : ℕ) (r b : Bool) → r ≡ unfit size (length f - h.length) → r ≡ b → unfit size (length (message f)) ≡ b
  unfit_is size r b er eb = ap (unfit size) (sym message_is) ∙ sym er ∙ eb

  cut : (size : ℕ) (r : Bool) → r ≡ unfit size (length f - h.length) → r ≡ false → Cut size f h.length
  cut size r er eb = record { header = fields.length_is; whole = head.whole; fit = fit size (length (message f)) (unfit_is size r false er eb) }

-- a comparison with what a call gives
under : (x k n : ℕ) (b : Bool) → k ≡ n → ltb x k ≡ b → ltb x n ≡ b
under x k n b e l = ap (ltb x) (sym e) ∙ l

-- A2, as it is compared
own_is : (f a : List ℕ) (r b : Bool) → r ≡ same (address2 f) a → r ≡ b → same (address2 f) a ≡ b
own_is f a r b er eb = sym er ∙ eb

-- the numbers left
fresh : (s : Sender) → sound_sender s ≡ true → s.last ≤ most_number
unfolding sound_sender
fresh s e = leb-true _ _ (both (leb s.key_id most_key_id) (leb s.last most_number) e).1

pub invariant_of-pieces : goal.invariant_of-pieces
invariant_of-pieces c =
    let a = c.args in
    let f = a.frame.now in
    let e = c.requires.1 in
    let l = (fields f a.header e).length_is in
    record {
      is = (head f a.header e).is;
      least = omega (arith, l, header_range f);
      most = omega (arith, l, header_range f);
      whole = ends f a.header e;
      cut = cut f a.header e a.size _ c.unfit.ensures c.if-unfit.false;
    }

pub overflow_sub-frame : goal.overflow_sub-frame
overflow_sub-frame c = ends c.args.frame.now c.args.header c.requires.1

pub returns-then-unfit-clause-found : goal.returns-then-unfit-clause-found
returns-then-unfit-clause-found c =
    let a = c.args in
    let h = head a.frame.now a.header c.requires.1 in
    rw (c.requires.0, h.short, h.kind, h.mark, h.cut, unfit_is a.frame.now a.header c.requires.1 a.size _ _ c.unfit.ensures c.if-unfit.true)

pub returns-then-room-sealed_length-clause-found : goal.returns-then-room-sealed_length-clause-found
returns-then-room-sealed_length-clause-found c =
    let a = c.args in
    let h = head a.frame.now a.header c.requires.1 in
    rw (
      c.requires.0,
      h.short,
      h.kind,
      h.mark,
      h.cut,
      unfit_is a.frame.now a.header c.requires.1 a.size _ _ c.unfit.ensures c.if-unfit.false,
      under a.room _ _ _ c.sealed_length.ensures (lt-ltb _ _ c.if-room-sealed_length.true),
    )

pub returns-then-not-equal-clause-found : goal.returns-then-not-equal-clause-found
unfolding address2
returns-then-not-equal-clause-found c =
    let a = c.args in
    let h = head a.frame.now a.header c.requires.1 in
    rw (
      c.requires.0,
      h.short,
      h.kind,
      h.mark,
      h.cut,
      unfit_is a.frame.now a.header c.requires.1 a.size _ _ c.unfit.ensures c.if-unfit.false,
      under a.room _ _ _ c.sealed_length.ensures (le-ltb _ _ c.if-room-sealed_length.false),
      own_is a.frame.now a.s.address _ _ c.equal.ensures c.if-not-equal.true,
    )

pub overflow_sub-s : goal.overflow_sub-s
overflow_sub-s c = fresh c.args.s c.requires.0

pub returns-then-s-count-clause-found : goal.returns-then-s-count-clause-found
unfolding address2
returns-then-s-count-clause-found c =
    let a = c.args in
    let h = head a.frame.now a.header c.requires.1 in
    rw (
      c.requires.0,
      h.short,
      h.kind,
      h.mark,
      h.cut,
      unfit_is a.frame.now a.header c.requires.1 a.size _ _ c.unfit.ensures c.if-unfit.false,
      under a.room _ _ _ c.sealed_length.ensures (le-ltb _ _ c.if-room-sealed_length.false),
      own_is a.frame.now a.s.address _ _ c.equal.ensures c.if-not-equal.false,
      under (most_number - a.s.last) _ _ _ c.count.ensures (lt-ltb _ _ c.if-s-count.true),
    )

pub returns-clause-found : goal.returns-clause-found
unfolding address2
returns-clause-found c =
    let a = c.args in
    let h = head a.frame.now a.header c.requires.1 in
    rw (
      c.requires.0,
      h.short,
      h.kind,
      h.mark,
      h.cut,
      unfit_is a.frame.now a.header c.requires.1 a.size _ _ c.unfit.ensures c.if-unfit.false,
      under a.room _ _ _ c.sealed_length.ensures (le-ltb _ _ c.if-room-sealed_length.false),
      own_is a.frame.now a.s.address _ _ c.equal.ensures c.if-not-equal.false,
      under (most_number - a.s.last) _ _ _ c.count.ensures (le-ltb _ _ c.if-s-count.false),
      h.is,
    )
