use Rattle.std.proofs.Common.{◌≡◌, ℕ, ◌-◌, Bool, true, cond, List, ◌++◌, length, drop, sym, ap, ◌∙◌, arith}
use Rattle.std.proofs.lemmas.Result.{err_from_is_err_and}
use borrow.Author.Tests.{not-true, not-false}
use Rattle.rules.specs.Header.{header_of}
use Rattle.rules.specs.Mode.{added}
use Rattle.rules.specs.Answers.{none_applies}
use Rattle.rules.specs.Opening.{opened_frame, earlier_tests, Openable}
use Rattle.rules.specs.declared.Header.{Header}
use Rattle.rules.specs.declared.Receiver.{Receiver}
use Rattle.rules.proofs.Passing.{open_passes}
use Rattle.ccmp.specs.Verdict.{Pass, verdict}
use Rattle.ccmp.proofs.Headers.{Fields, fields_of}
use Rattle.ccmp.proofs.Verdicts.{passes}
use Rattle.ccmp.proofs.Answering.{open_refused, open_wrong, open_gives}
use Rattle.ccmp.proofs.opening.open_frame.Goals as goal

-- A refusal by the earlier tests is the answer; where none applies the code decides.
-- what is in the output, where b says whether the code is right
abbrev outcome : Receiver → List ℕ → List ℕ → Bool → List ℕ
outcome r f o b = cond b (opened_frame r f ++ drop (length f - added) o) o

module _ (r : Receiver) (f o : List ℕ) (h : Header) (e : Pass h ≡ verdict (earlier_tests r f (length o)) (header_of f)) where
  passed : (h ≡ header_of f) × (none_applies (earlier_tests r f (length o)) ≡ true)
  passed = passes (earlier_tests r f (length o)) (header_of f) h e

  fields : Fields f h
  fields = fields_of f h passed.0

  openable : Openable r f (length o)
  openable = open_passes r f (length o) passed.1

pub returns-in_err-frame : goal.returns-in_err-frame
returns-in_err-frame c =
    let a = c.args in
    let p = err_from_is_err_and c.from_residual.result c.from_residual.ensures.1 in
    rw (p.1, p.2) (open_refused a.r a.frame.now a.out.now (header_of a.frame.now) _ c.in_err-frame.ensures.found)

pub number-number-requires : goal.number-number-requires
number-number-requires c =
    let a = c.args in
    let e = c.in_ok-frame.ensures in
    let q = openable a.r a.frame.now a.out.now _ e.found in
    rw e.lent (omega (arith, (fields a.r a.frame.now a.out.now _ e.found).length_is, q.least, q.whole))

pub put_opened-requires : goal.put_opened-requires
put_opened-requires c =
    let a = c.args in
    let e = c.in_ok-frame.ensures in
    (c.number-number.ensures, rw e.lent (openable a.r a.frame.now a.out.now _ e.found))

pub returns-then-not-put_opened : goal.returns-then-not-put_opened
returns-then-not-put_opened c =
    let a = c.args in
    let f = a.frame.now in
    let o = a.out.now in
    let e = c.in_ok-frame.ensures in
    let put = rw e.lent at c.put_opened.ensures in
    open_wrong a.r f o (passed a.r f o _ e.found).1 _ (not-false _ (sym put.value ∙ c.if-not-put_opened.true))
    (put.out_after ∙ ap (outcome a.r f o) c.if-not-put_opened.true)

pub returns : goal.returns
returns c =
    let a = c.args in
    let f = a.frame.now in
    let o = a.out.now in
    let e = c.in_ok-frame.ensures in
    let put = rw e.lent at c.put_opened.ensures in
    rw e.lent
    (open_gives a.r f o (passed a.r f o _ e.found).1 _ _ _ (not-true _ (sym put.value ∙ c.if-not-put_opened.false))
    (rw e.lent at c.number-number.ensures) (fields a.r f o _ e.found).priority_is
    (put.out_after ∙ ap (outcome a.r f o) c.if-not-put_opened.false))
