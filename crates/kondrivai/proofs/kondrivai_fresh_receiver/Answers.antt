use mathlib.Core.Path.{◌≡◌, refl, sym, ap, ◌∙◌}
use mathlib.Core.Bool.{true}
use mathlib.Core.List.{List}
use Prim.Native.Nat.{ℕ}
use Rattle.rules.specs.Records.{receiver_fits, receiver_answer, fresh_receiver}
use Rattle.rules.specs.Answers.{Answer, told, answer_number}
use Rattle.rules.specs.Refusals.{answer_of}
use Rattle.rules.proofs.Passing.{told_apart}
use Rattle.kondrivai.specs.Layout1.{receiver_size, receiver_octets}
use Rattle.kondrivai.specs.Exports.{can_hold, fresh_receiver_number, fresh_receiver_buffer}
use Rattle.kondrivai.proofs.Making.{done_number, refused_number, kept, can, no_buffer, no_key, made}
use Rattle.kondrivai.proofs.kondrivai_fresh_receiver.Goals as goal
use Rattle.kondrivai.proofs.kondrivai_fresh_receiver.Goals.{then-is_ok, else-is_ok}

number_is : (b key : List ℕ) (keyId size : ℕ) (a : Answer) {n : ℕ} → can_hold receiver_size b key ≡ true → told a ≡ told (receiver_answer keyId size) → n ≡ answer_number a
    → n ≡ fresh_receiver_number b key keyId size
unfolding fresh_receiver_number
number_is b key keyId size a held same is = rw held (is ∙ ap answer_number (told_apart a (receiver_answer keyId size) same))

pub returns-in_default : goal.returns-in_default
unfolding fresh_receiver_number fresh_receiver_buffer
returns-in_default c =
    let not = no_buffer receiver_size c.args.«record».now c.args.key.now c.in_default.ensures.cases in
    record { value = rw not refl; record_after = rw not refl }

pub returns-in_default-as_array : goal.returns-in_default-as_array
unfolding fresh_receiver_number fresh_receiver_buffer
returns-in_default-as_array c =
    let x = c.in-Some.ensures.cases in
    let not = no_key receiver_size c.args.«record».now c.args.key.now x.long c.in_default-as_array.ensures.cases in
    record { value = rw not refl; record_after = rw not x.same }

pub returns : goal.returns
unfolding fresh_receiver_buffer receiver_answer
returns c =
    let a = c.args in
    let x = c.in-Some.ensures.cases in
    let k = c.in-Some-as_array.ensures.cases in
    let held = can receiver_size a.«record».now a.key.now x.long k.long in
    let answer = c.fresh_receiver-made.result.answer in
    let same = c.fresh_receiver-made.ensures.answer_value in
    let is = number_is a.«record».now a.key.now a.key_id a.size (answer_of answer) held same c.number_of.ensures in
    record {
      value = is;
      record_after = elim c.if-is_ok.branch [
        | then-is_ok w ↦
            w.record-is
            ∙ made receiver_octets (λ k. fresh_receiver k a.key_id a.peer.now a.size) _ _ a.«record».now is
            (c.number_of.ensures ∙ done_number answer (sym c.is_ok.ensures.value ∙ w.if-is_ok.true)) k.same
            c.fresh_receiver-made.ensures.receiver_value w.put_receiver.ensures
        | else-is_ok w ↦
            w.record-is
            ∙ x.same
            ∙ kept _ _ _ _ is
            (c.number_of.ensures ∙ refused_number (receiver_fits a.key_id a.size) answer same (sym c.is_ok.ensures.value ∙ w.if-is_ok.false))
      ];
    }
