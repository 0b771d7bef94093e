-- What the entry's own call gives is what the table's gives.
use mathlib.Core.Path.{ap, ap₂, ◌∙◌}
use Prim.Native.Nat.{ℕ}
use Rattle.rules.specs.Answers.{Refused, told}
use Rattle.rules.specs.Refusals.{answer_of}
use Rattle.rules.specs.Records.{format_count, count_of, counted}
use Rattle.rules.specs.Opening.{open_answer, open_next, open_output}
use Rattle.rules.specs.Table.{with_receiver, put}
use Rattle.rules.specs.declared.Receiver.{Receiver}
use Rattle.rules.specs.declared.Entry.{Entry}
use Rattle.table.proofs.Loops.{read_at}
use Rattle.table.proofs.Served.{open_refused, open_is_place, open_served}
use Rattle.table.proofs.serving.open.Goals as goal

pub returns-in-Ok : goal.returns-in-Ok
returns-in-Ok c =
    let t = c.args.t in
    let f = c.args.frame.now in
    let o = c.args.out.now in
    let i = c.in-Ok.i in
    let same = read_at t i _ (open_is_place t f o i c.in-Ok.ensures) in
    let receiver = ap (λ (e : Entry). e.receiver) same in
    let e = c.«open-opened».ensures in
    open_served t f o i c.in-Ok.ensures (answer_of c.«open-opened».result.answer) _ _
    (e.answer_value ∙ ap (λ (r : Receiver). told (open_answer r f o)) receiver)
    (ap (put t i) (ap₂ with_receiver same (e.receiver_value ∙ ap (λ (r : Receiver). open_next r f o) receiver)))
    (e.out_after ∙ ap (λ (r : Receiver). open_output r f o) receiver)

pub returns-in-Err : goal.returns-in-Err
returns-in-Err c =
    let t = c.args.t in
    let count =
    c.counted.ensures ∙ ap (λ (m : ℕ). counted format_count m t.format_errors) (c.count_of.ensures ∙ ap (λ (n : ℕ). count_of (Refused n)) c.number.ensures) in
    open_refused t c.args.frame.now c.args.out.now _ _ c.in-Err.ensures (λ i. record { entries = t.entries; format_errors = count i })
