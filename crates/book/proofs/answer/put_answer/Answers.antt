use Rattle.std.proofs.Common.{◌≡◌, ℕ, ◌≤◌, List, length, take, Result, Ok, ap, ◌∙◌, arith, length-take-le}
use Rattle.rules.specs.declared.answer.Refusal.{Refusal}
use Rattle.rules.specs.Refusals.{refusal_number}
use Rattle.book.specs.Handed.{as_answer, octets_written}
use Rattle.book.proofs.Decimals.{length_decimal}
use Rattle.book.proofs.Hexadecimals.{length_hex}
use Rattle.book.proofs.Lines.{done_laid, refused_laid}
use Rattle.book.proofs.answer.put_answer.Goals as goal

-- the frame's octets, where the answer is done
taken : (a : Result ℕ Refusal) (k : ℕ) (res : List ℕ) → a ≡ Ok k → octets_written (as_answer a) ≤ length res → (k ≤ length res) × (length (take k res) ≡ k)
taken a k res e l = let h : k ≤ length res = omega (arith, ap (λ (x : Result ℕ Refusal). octets_written (as_answer x)) e) in (h, length-take-le k res h)

pub text-requires-in-Ok-2 : goal.text-requires-in-Ok-2
text-requires-in-Ok-2 c = let z = taken _ _ c.args.res.now c.in-Ok.is c.requires.a_in_bounds in omega (arith, c.requires, c.decimal.ensures, c.text.ensures, c.text-in-Ok.ensures, c.hex.ensures, length_hex (take c.in-Ok.k c.args.res.now), length_decimal c.args.n)

pub returns-in-Ok : goal.returns-in-Ok
returns-in-Ok c =
    let a = c.args in
    let pre = c.requires in
    let d = c.in-Ok in
    let z = taken _ _ a.res.now d.is pre.a_in_bounds in
    rw d.is (done_laid a.n _ _ pre.most_answer_in_bounds.0 c.decimal.ensures a.word.now pre.most_answer_in_bounds.1 _ c.text.ensures d.k a.res.now (omega arith) z.0 _ _ _ c.text-in-Ok.ensures c.hex.ensures c.text-in-Ok-2.ensures)

pub returns-in-Err : goal.returns-in-Err
returns-in-Err c =
    let a = c.args in
    let pre = c.requires in
    let d = c.in-Err in
    let e : c.from.result ≡ refusal_number d.refusal = c.from.ensures ∙ c.number.ensures in
    let w = refused_laid a.n _ _ pre.most_answer_in_bounds.0 c.decimal.ensures a.word.now pre.most_answer_in_bounds.1 _ c.text.ensures c.from.result a.res.now _ _ c.decimal-in-Err.ensures c.text-in-Err.ensures in
    rw d.is (rw e at w)
