use Rattle.std.proofs.Common.{◌≡◌, ℕ, ◌+◌, ◌≤◌, true, List, ◌++◌, length, sym, arith, length-append}
use Rattle.std.proofs.lemmas.Result.{err_from_is_err_and}
use Rattle.rules.specs.Mode.{added}
use Rattle.rules.specs.Answers.{none_applies}
use Rattle.rules.specs.Sealing.{seal_tests, Sealable}
use Rattle.rules.specs.declared.Sender.{Sender}
use Rattle.rules.specs.declared.Header.{Header}
use Rattle.rules.proofs.Passing.{seal_passes}
use Rattle.ccmp.specs.Verdict.{Pass, verdict}
use Rattle.ccmp.proofs.Headers.{fields_of}
use Rattle.ccmp.proofs.Verdicts.{passes}
use Rattle.ccmp.proofs.Parts.{headed_whole}
use Rattle.ccmp.proofs.Answering.{seal_refused, seal_gives}
use Rattle.ccmp.proofs.sealing.seal_headed.Goals as goal

-- a frame f whose tests find a header
module _ (s : Sender) (f o : List ℕ) (h h' : Header) (e : Pass h' ≡ verdict (seal_tests s f (length o)) h) where
  passed : (h' ≡ h) × (none_applies (seal_tests s f (length o)) ≡ true)
  passed = passes (seal_tests s f (length o)) h h' e

  sealable : Sealable s f × (length f + added ≤ length o)
  sealable = seal_passes s f (length o) passed.1

pub returns-in_err-later_tests : goal.returns-in_err-later_tests
returns-in_err-later_tests c =
    let a = c.args in
    let p = err_from_is_err_and c.from_residual.result c.from_residual.ensures.1 in
    rw (p.1, p.2) (seal_refused a.s (a.head.frame.octets.now ++ a.body.now) a.out.now a.head.frame.header _ c.in_err-later_tests.ensures)

pub overflow_add-number : goal.overflow_add-number
overflow_add-number c =
    let a = c.args in
    record { fits = omega (arith, (sealable a.s (a.head.frame.octets.now ++ a.body.now) a.out.now a.head.frame.header _ c.in_ok-later_tests.ensures).0.unspent) }

pub put_sealed-requires : goal.put_sealed-requires
put_sealed-requires c =
    let a = c.args in
    let f = a.head.frame.octets.now ++ a.body.now in
    sealable a.s f a.out.now a.head.frame.header _ c.in_ok-later_tests.ensures

pub returns : goal.returns
returns c =
    let a = c.args in
    let f = a.head.frame.octets.now ++ a.body.now in
    let e = passed a.s f a.out.now a.head.frame.header _ c.in_ok-later_tests.ensures in
    rw (sym (length-append a.head.frame.octets.now a.body.now), e.0)
    (seal_gives a.s f a.out.now _ _ e.1
    (fields_of f a.head.frame.header (headed_whole a.head.frame.octets.now a.body.now a.head.frame.header a.head.heads).is).priority_is c.put_sealed.ensures)
