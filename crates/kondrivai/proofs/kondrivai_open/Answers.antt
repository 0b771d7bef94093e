use mathlib.Core.Path.{refl, ap, ◌∙◌}
use Rattle.rules.specs.Refusals.{answer_of}
use Rattle.rules.specs.Opening.{open_answer, open_next, open_output}
use Rattle.kondrivai.specs.Layout1.{receiver_octets}
use Rattle.kondrivai.specs.Held.{held_receiver}
use Rattle.kondrivai.specs.Exports.{open_number, open_buffer, open_room}
use Rattle.kondrivai.proofs.Called.{called, held_is, held_none}
use Rattle.kondrivai.proofs.Fronts.{no_receiver}
use Rattle.kondrivai.proofs.kondrivai_open.Goals as goal

pub returns-in_default : goal.returns-in_default
unfolding open_number open_buffer open_room
returns-in_default c =
    let none = no_receiver _ c.in_default.ensures.cases in
    record { value = rw none refl; record_after = rw none refl; out_after = rw none refl }

pub returns-in_default-get_receiver : goal.returns-in_default-get_receiver
unfolding open_number open_buffer open_room
returns-in_default-get_receiver c =
    let same = c.in-Some.ensures.cases.same in
    let none = held_none _ _ (c.in_default-get_receiver.ensures ∙ ap held_receiver same) in
    record { value = rw none refl; record_after = rw none same; out_after = rw none refl }

pub returns : goal.returns
unfolding open_number open_buffer open_room
returns c =
    let beneath = c.«open-opened» in
    let f = c.args.frame.now in
    let o = c.args.out.now in
    let held = held_is _ _ _ (c.in-Some-get_receiver.ensures ∙ ap held_receiver c.in-Some.ensures.cases.same) in
    let all =
    called (λ s. open_answer s f o) (λ s. open_next s f o) receiver_octets (λ s. open_output s f o) (answer_of beneath.result.answer) held.1
    beneath.ensures.answer_value beneath.ensures.receiver_value beneath.ensures.out_after c.number_of.ensures c.put_receiver.ensures in
    record { value = rw held.0 all.0; record_after = rw held.0 all.1.0; out_after = rw held.0 all.1.1 }
