use mathlib.Core.Path.{◌≡◌, refl, sym, ap, ◌∙◌}
use mathlib.Core.Bool.{true}
use mathlib.Core.List.{List}
use Prim.Native.Nat.{ℕ}
use lib.Dec.{leb}
use Rattle.rules.specs.Limits.{most_key_id}
use Rattle.rules.specs.Records.{fresh_answer, fresh_sender}
use Rattle.rules.specs.Answers.{Answer, told, answer_number}
use Rattle.rules.specs.Refusals.{answer_of}
use Rattle.rules.proofs.Passing.{told_apart}
use Rattle.kondrivai.specs.Layout1.{sender_size, sender_octets}
use Rattle.kondrivai.specs.Exports.{can_hold, fresh_sender_number, fresh_sender_buffer}
use Rattle.kondrivai.proofs.Making.{done_number, refused_number, kept, can, no_buffer, no_key, made}
use Rattle.kondrivai.proofs.kondrivai_fresh_sender.Goals as goal
use Rattle.kondrivai.proofs.kondrivai_fresh_sender.Goals.{then-is_ok, else-is_ok}

number_is : (b key : List ℕ) (keyId : ℕ) (a : Answer) {n : ℕ} → can_hold sender_size b key ≡ true → told a ≡ told (fresh_answer keyId) → n ≡ answer_number a
    → n ≡ fresh_sender_number b key keyId
unfolding fresh_sender_number
number_is b key keyId a held same is = rw held (is ∙ ap answer_number (told_apart a (fresh_answer keyId) same))

pub returns-in_default : goal.returns-in_default
unfolding fresh_sender_number fresh_sender_buffer
returns-in_default c =
    let not = no_buffer sender_size c.args.«record».now c.args.key.now c.in_default.ensures.cases in
    record { value = rw not refl; record_after = rw not refl }

pub returns-in_default-as_array : goal.returns-in_default-as_array
unfolding fresh_sender_number fresh_sender_buffer
returns-in_default-as_array c =
    let x = c.in-Some.ensures.cases in
    let not = no_key sender_size c.args.«record».now c.args.key.now x.long c.in_default-as_array.ensures.cases in
    record { value = rw not refl; record_after = rw not x.same }

pub returns : goal.returns
unfolding fresh_sender_buffer fresh_answer
returns c =
    let a = c.args in
    let x = c.in-Some.ensures.cases in
    let k = c.in-Some-as_array.ensures.cases in
    let held = can sender_size a.«record».now a.key.now x.long k.long in
    let answer = c.fresh_sender-made.result.answer in
    let same = c.fresh_sender-made.ensures.answer_value in
    let is = number_is a.«record».now a.key.now a.key_id (answer_of answer) held same c.number_of.ensures in
    record {
      value = is;
      record_after = elim c.if-is_ok.branch [
        | then-is_ok w ↦
            w.record-is
            ∙ made sender_octets (λ k. fresh_sender k a.key_id a.address.now) _ _ a.«record».now is
            (c.number_of.ensures ∙ done_number answer (sym c.is_ok.ensures.value ∙ w.if-is_ok.true)) k.same
            c.fresh_sender-made.ensures.sender_value w.put_sender.ensures
        | else-is_ok w ↦
            w.record-is
            ∙ x.same
            ∙ kept _ _ _ _ is
            (c.number_of.ensures ∙ refused_number (leb a.key_id most_key_id) answer same (sym c.is_ok.ensures.value ∙ w.if-is_ok.false))
      ];
    }
