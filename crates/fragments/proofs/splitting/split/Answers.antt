use mathlib.Core.Path.{◌≡◌}
use mathlib.Core.Bool.{true}
use mathlib.Core.List.{List}
use Prim.Native.Nat.{ℕ, ◌≤◌}
use native.Mathlib.Omega.{arith}
use lib.ListN.{length}
use Rattle.rules.specs.Header.{header_of}
use Rattle.rules.specs.Answers.{none_applies}
use Rattle.rules.specs.Splitting.{fragments, sealed_length, split_tests, Splittable}
use Rattle.rules.specs.declared.Header.{Header}
use Rattle.rules.specs.declared.Sender.{Sender}
use Rattle.rules.proofs.Splits.{split_passes}
use Rattle.ccmp.specs.Verdict.{Pass, verdict}
use Rattle.ccmp.proofs.Headers.{Fields, fields_of}
use Rattle.ccmp.proofs.Verdicts.{passes}
use Rattle.fragments.proofs.Splits.{split_refused, split_gives}
use Rattle.fragments.proofs.splitting.split.Goals as goal

-- A refusal is the answer; where no test applies, the fragments that are written are the rules'.
module _ (s : Sender) (size : ℕ) (f : List ℕ) (room : ℕ) (h : Header) (e : Pass h ≡ verdict (split_tests s size f room) (header_of f)) where
  passed : (h ≡ header_of f) × (none_applies (split_tests s size f room) ≡ true)
  passed = passes (split_tests s size f room) (header_of f) h e

  splittable : Splittable s size f × (sealed_length (fragments size f) ≤ room)
  splittable = split_passes s size f room passed.1

  fields : Fields f h
  fields = fields_of f h passed.0

pub put_all-sender-requires : goal.put_all-sender-requires
put_all-sender-requires c =
    let a = c.args in
    let e = c.in-Ok.ensures in
    rw (e.lent.0, e.lent.1) (splittable a.s a.size a.frame.now (length a.out.now) c.in-Ok.pieces.header e.found)

pub overflow_add-answer : goal.overflow_add-answer
overflow_add-answer c =
    let a = c.args in
    record { fits = omega (arith, (splittable a.s a.size a.frame.now (length a.out.now) c.in-Ok.pieces.header c.in-Ok.ensures.found).0.unspent) }

pub returns-in-Err : goal.returns-in-Err
returns-in-Err c =
    let a = c.args in
    split_refused a.s a.size a.frame.now a.out.now (header_of a.frame.now) _ c.in-Err.ensures.found

pub returns-in-Ok : goal.returns-in-Ok
returns-in-Ok c =
    let a = c.args in
    let f = a.frame.now in
    let e = c.in-Ok.ensures in
    let put = rw (e.lent.0, e.lent.1) at c.put_all-sender.ensures in
    split_gives a.s a.size f a.out.now _ c.in-Ok.pieces.header.priority _ _
    (passed a.s a.size f (length a.out.now) c.in-Ok.pieces.header e.found).1
    (fields a.s a.size f (length a.out.now) c.in-Ok.pieces.header e.found).priority_is (rw (e.lent.0, e.lent.1) at c.sealed_length.ensures) put.value put.out_after
