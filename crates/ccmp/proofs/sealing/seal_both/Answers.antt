use Rattle.std.proofs.Common.{◌≡◌, ℕ, ◌<◌, ◌≤◌, Bool, true, false, cond, ltb, List, [], ◌∷◌, length, arith, le-ltb, lt-ltb, sym}
use Rattle.std.proofs.lemmas.Result.{err_from_is_err_and}
use Rattle.rules.specs.Header.{header_length, header_of}
use Rattle.rules.specs.Answers.{◌⇒◌}
use Rattle.rules.specs.Refusals.{answer_of}
use Rattle.rules.specs.declared.Header.{Header}
use Rattle.rules.specs.declared.Sender.{Sender}
use Rattle.ccmp.specs.Verdict.{Refuse, Pass, verdict}
use Rattle.ccmp.specs.Parts.{head_tests}
use Rattle.ccmp.proofs.Headers.{fields_of}
use Rattle.ccmp.proofs.Verdicts.{Headed, headed, refuses, passes}
use Rattle.ccmp.proofs.Answering.{first_tests, first_pass, parts_refused, parts_give}
use Rattle.ccmp.proofs.sealing.seal_both.Goals as goal

-- a first part f whose tests find the header h
module _ (s : Sender) (f : List ℕ) (h : Header) (e : Pass h ≡ verdict (first_tests s f) (header_of f)) where
  t : Headed 1 f h
  t = headed 1 f h (first_pass s f h e).1

  length_is : h.length ≡ header_length f
  length_is = (fields_of f h t.is).length_is

  -- the last test of the first part decides, after those that passed before
  decides : (b : Bool) → ltb (header_length f) (length f) ≡ b → verdict (head_tests s f) (header_of f) ≡ cond b (Refuse 2) (Pass (header_of f))
  decides b q = rw ((first_pass s f h e).0, t.short, t.kind, t.mark, t.cut, q)

pub returns-in_err-frame : goal.returns-in_err-frame
returns-in_err-frame c =
    let a = c.args in
    let f = a.head.now in
    let p = err_from_is_err_and c.from_residual.result c.from_residual.ensures.1 in
    rw (p.1, p.2)
    (parts_refused a.s f a.body.now a.out.now (header_of f) _
    (refuses (first_tests a.s f) ((ltb (header_length f) (length f) ⇒ 2) ∷ []) (header_of f) _ c.in_err-frame.ensures.found))

pub returns-then-frame : goal.returns-then-frame
returns-then-frame c =
    let a = c.args in
    let f = a.head.now in
    let e = c.in_ok-frame.ensures in
    let longer : c.in_ok-frame.frame.header.length < length f = rw e.lent at c.if-frame.true in
    let l = lt-ltb (header_length f) (length f) (omega (arith, longer, length_is a.s f _ e.found)) in
    parts_refused a.s f a.body.now a.out.now (header_of f) 2 (sym (decides a.s f _ e.found true l))

pub returns : goal.returns
returns c =
    let a = c.args in
    let f = a.head.now in
    let e = c.in_ok-frame.ensures in
    let shorter : length f ≤ c.in_ok-frame.frame.header.length = rw e.lent at c.if-frame.false in
    let l = le-ltb (header_length f) (length f) (omega (arith, shorter, length_is a.s f _ e.found)) in
    parts_give a.s f a.body.now a.out.now (answer_of c.seal_headed.result) _
    (passes (head_tests a.s f) (header_of f) (header_of f) (sym (decides a.s f _ e.found false l))).1
    (rw e.lent at c.seal_headed.ensures)
