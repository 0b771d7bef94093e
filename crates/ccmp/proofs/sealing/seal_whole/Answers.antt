use Rattle.std.proofs.Common.{◌≡◌, ℕ, ◌≤◌, List, length, take, sym, subst, arith}
use Rattle.std.proofs.lemmas.Result.{err_from_is_err_and}
use Rattle.rules.specs.Header.{header_of}
use Rattle.rules.specs.declared.Header.{Header}
use Rattle.rules.specs.declared.Sender.{Sender}
use Rattle.rules.proofs.Fields.{header_range}
use Rattle.ccmp.specs.Verdict.{Pass, verdict}
use Rattle.ccmp.specs.Parts.{Heads}
use Rattle.ccmp.proofs.Headers.{fields_of}
use Rattle.ccmp.proofs.Verdicts.{headed}
use Rattle.ccmp.proofs.Parts.{heads_front}
use Rattle.ccmp.proofs.Answering.{first_tests, first_pass, seal_unheaded}
use Rattle.ccmp.proofs.sealing.seal_whole.Goals as goal

-- the front of the frame, as long as its header
front : (s : Sender) (f : List ℕ) (h : Header) → Pass h ≡ verdict (first_tests s f) (header_of f) → Heads (take h.length f) h
front s f h e = heads_front f h (headed 1 f h (first_pass s f h e).1)

pub returns-in_err-header : goal.returns-in_err-header
returns-in_err-header c =
    let a = c.args in
    let p = err_from_is_err_and c.from_residual.result c.from_residual.ensures.1 in
    rw (p.1, p.2) (seal_unheaded a.s a.frame.now a.out.now _ c.in_err-header.ensures.found)

pub invariant_of-frame : goal.invariant_of-frame
invariant_of-frame c =
    let h = c.in_ok-header.field-0.header in
    let q = front c.args.s c.args.frame.now h c.in_ok-header.ensures.found in
    let is = (headed 1 (take h.length c.args.frame.now) h q.passed).is in
    let e = sym c.split_at.ensures.front in
    record {
      is = subst (λ (l : List ℕ). h ≡ header_of l) e is;
      least = omega (arith, (fields_of (take h.length c.args.frame.now) h is).length_is, header_range (take h.length c.args.frame.now));
      whole = subst (λ (l : List ℕ). h.length ≤ length l) e (omega (arith, q.exact));
    }

pub invariant_of-seal_headed : goal.invariant_of-seal_headed
invariant_of-seal_headed c = rw c.split_at.ensures.front record { heads = front c.args.s c.args.frame.now _ c.in_ok-header.ensures.found }
