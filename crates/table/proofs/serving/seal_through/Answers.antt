-- What the entry's own call gives is what the table's gives.
use mathlib.Core.Path.{◌≡◌, ap, ap₂, ◌∙◌}
use Rattle.std.proofs.lemmas.Result.{err_from_is_err_and}
use Rattle.rules.specs.Answers.{told}
use Rattle.rules.specs.Refusals.{answer_of}
use Rattle.rules.specs.Sealing.{seal_answer, seal_next, seal_output}
use Rattle.rules.specs.Table.{sender_of, with_sender, entry_at, put}
use Rattle.rules.specs.declared.Sender.{Sender}
use Rattle.table.proofs.Loops.{read_at}
use Rattle.table.proofs.Served.{seal_refused, seal_is_place, seal_served}
use Rattle.table.proofs.serving.seal_through.Goals as goal

pub returns-in_err-i : goal.returns-in_err-i
returns-in_err-i c =
    let a = c.args in
    let p = err_from_is_err_and c.from_residual.result c.from_residual.ensures.1 in
    rw (p.1, p.2) (seal_refused a.t.now a.key_id a.frame.now a.out.now _ c.in_err-i.ensures.value)

pub returns : goal.returns
returns c =
    let a = c.args in
    let t = a.t.now in
    let f = a.frame.now in
    let o = a.out.now in
    let i = c.in_ok-i.i in
    let given = c.in_ok-i.ensures.value in
    let same = read_at t i _ (seal_is_place t a.key_id f o i given) in
    let sender : c.sender_of.result ≡ sender_of (entry_at t i) = c.sender_of.ensures ∙ ap sender_of same in
    let e = c.seal-sealed.ensures in
    seal_served t a.key_id f o i given (answer_of c.seal-sealed.result.answer) _ _
    (e.answer_value ∙ ap (λ (s : Sender). told (seal_answer s f o)) sender)
    (ap (put t i) (ap₂ with_sender same (e.sender_value ∙ ap (λ (s : Sender). seal_next s f o) sender)))
    (e.out_after ∙ ap (λ (s : Sender). seal_output s f o) sender)
