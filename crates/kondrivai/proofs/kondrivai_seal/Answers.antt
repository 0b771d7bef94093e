use mathlib.Core.Path.{refl, ap, ◌∙◌}
use Rattle.rules.specs.Refusals.{answer_of}
use Rattle.rules.specs.Sealing.{seal_answer, seal_next, seal_output}
use Rattle.kondrivai.specs.Layout1.{sender_octets}
use Rattle.kondrivai.specs.Held.{held_sender}
use Rattle.kondrivai.specs.Exports.{seal_number, seal_buffer, seal_room}
use Rattle.kondrivai.proofs.Called.{called, held_is, held_none}
use Rattle.kondrivai.proofs.Fronts.{no_sender}
use Rattle.kondrivai.proofs.kondrivai_seal.Goals as goal

pub returns-in_default : goal.returns-in_default
unfolding seal_number seal_buffer seal_room
returns-in_default c =
    let none = no_sender _ c.in_default.ensures.cases in
    record { value = rw none refl; record_after = rw none refl; out_after = rw none refl }

pub returns-in_default-get_sender : goal.returns-in_default-get_sender
unfolding seal_number seal_buffer seal_room
returns-in_default-get_sender c =
    let same = c.in-Some.ensures.cases.same in
    let none = held_none _ _ (c.in_default-get_sender.ensures ∙ ap held_sender same) in
    record { value = rw none refl; record_after = rw none same; out_after = rw none refl }

pub returns : goal.returns
unfolding seal_number seal_buffer seal_room
returns c =
    let beneath = c.seal-sealed in
    let f = c.args.frame.now in
    let o = c.args.out.now in
    let held = held_is _ _ _ (c.in-Some-get_sender.ensures ∙ ap held_sender c.in-Some.ensures.cases.same) in
    let all =
    called (λ s. seal_answer s f o) (λ s. seal_next s f o) sender_octets (λ s. seal_output s f o) (answer_of beneath.result.answer) held.1
    beneath.ensures.answer_value beneath.ensures.sender_value beneath.ensures.out_after c.number_of.ensures c.put_sender.ensures in
    record { value = rw held.0 all.0; record_after = rw held.0 all.1.0; out_after = rw held.0 all.1.1 }
