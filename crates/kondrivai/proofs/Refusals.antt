-- What an exported call keeps where it is refused, and what done says: by cases of the answer beneath.
use mathlib.Core.Path.{◌≡◌, refl, subst}
use mathlib.Core.Bool.{Bool, true, false, cond, not}
use mathlib.Core.List.{List}
use mathlib.Core.Logic.{◌≢◌, ◌⊎◌, inl, inr}
use Prim.Native.Nat.{ℕ, ◌+◌, ◌-◌}
use native.Mathlib.Omega.{arith}
use lib.Dec.{T, eqb}
use lib.ListN.{length}
use Rattle.octets.specs.Octets.{Octets}
use Rattle.rules.specs.Header.{priority}
use Rattle.rules.specs.Nonce.{number}
use Rattle.rules.specs.Mode.{added}
use Rattle.rules.specs.Records.{sender_next, count_of, receiver_next}
use Rattle.rules.specs.Answers.{answer_number, written}
use Rattle.rules.specs.Sealing.{sealed_frame, seal_tests, seal_answer, seal_next, seal_output}
use Rattle.rules.specs.Opening.{opened_frame, open_tests, open_answer, open_next, open_output}
use Rattle.rules.specs.declared.Sender.{Sender}
use Rattle.rules.specs.declared.Receiver.{Receiver}
use Rattle.rules.specs.Answers.{Answer}
use Rattle.rules.specs.Answers.{Done, Refused}
use Rattle.rules.proofs.Passing.{of_first, seal_done, open_done}
use Rattle.kondrivai.specs.Layout1.{is_sender, sender_in, sender_octets, is_receiver, receiver_in, receiver_octets}
use Rattle.kondrivai.specs.Exports.{seal_number, seal_buffer, seal_room, open_number, open_buffer, open_room}
use Rattle.kondrivai.specs.Hosts.{RefusalsKeep, DoneFollows}
use Rattle.kondrivai.proofs.Undone.{sender_back, receiver_back}

-- sealing that is refused
seal_keeps : (b f room : List ℕ) → Octets b → seal_number b f room ≢ 0 → (seal_buffer b f room ≡ b) × (seal_room b f room ≡ room)
unfolding seal_number seal_buffer seal_room seal_output sender_next
seal_keeps b f room octets h = by (is_sender b) refl h
  where
    s : Sender
    s = sender_in b

    go : is_sender b ≡ true → (a : Answer) → answer_number a ≢ 0 → (sender_octets (sender_next s a) ≡ b) × (written a (sealed_frame s (s.last + 1) f) room ≡ room)
    go e (Done n p k) h = absurd (h refl)
    go e (Refused a) h = (sender_back b octets e, refl)

    by : (t : Bool) → is_sender b ≡ t → cond t (answer_number (seal_answer s f room)) 1 ≢ 0
        → (cond t (sender_octets (seal_next s f room)) b ≡ b) × (cond t (seal_output s f room) room ≡ room)
    by true e h = go e (seal_answer s f room) h
    by false e h = (refl, refl)

-- opening that is refused
open_keeps : (b f room : List ℕ) → open_number b f room ≢ 0 → open_room b f room ≡ room
unfolding open_number open_room open_output
open_keeps b f room h = by (is_receiver b) h
  where
    r : Receiver
    r = receiver_in b

    go : (a : Answer) → answer_number a ≢ 0 → written a (opened_frame r f) room ≡ room
    go (Done n p k) h = absurd (h refl)
    go (Refused a) h = refl

    by : (t : Bool) → cond t (answer_number (open_answer r f room)) 1 ≢ 0 → cond t (open_output r f room) room ≡ room
    by true h = go (open_answer r f room) h
    by false h = refl

open_counts_nothing : (b f room : List ℕ) → Octets b → (open_number b f room ≡ 1) ⊎ (open_number b f room ≡ 6) → open_buffer b f room ≡ b
unfolding open_number open_buffer receiver_next count_of
open_counts_nothing b f room octets h = by (is_receiver b) refl h
  where
    r : Receiver
    r = receiver_in b

    go : is_receiver b ≡ true → (a : Answer) → (answer_number a ≡ 1) ⊎ (answer_number a ≡ 6) → receiver_octets (receiver_next r a) ≡ b
    go e (Done n p k) (inl z) = absurd (omega arith)
    go e (Done n p k) (inr z) = absurd (omega arith)
    go e (Refused a) (inl z) = rw z (receiver_back b octets e)
    go e (Refused a) (inr z) = rw z (receiver_back b octets e)

    by : (t : Bool) → is_receiver b ≡ t → (cond t (answer_number (open_answer r f room)) 1 ≡ 1) ⊎ (cond t (answer_number (open_answer r f room)) 1 ≡ 6)
        → cond t (receiver_octets (open_next r f room)) b ≡ b
    by true e h = go e (open_answer r f room) h
    by false e h = refl

pub refusals_keep : RefusalsKeep
refusals_keep = (seal_keeps, open_keeps, open_counts_nothing)

-- no refusal has the number 0
distinct : Answer → Bool
distinct (Done n p k) = true
distinct (Refused a) = not (eqb a 0)

never_0 : (b : Answer) (a : ℕ) → T (distinct b) → b ≡ Refused a → a ≡ 0 → ⊥
unfolding distinct
never_0 b a t e z = let d : T (not (eqb a 0)) = subst (λ (x : Answer). T (distinct x)) e t in rw z at d

seal_distinct : (s : Sender) (f room : List ℕ) → T (distinct (seal_answer s f room))
unfolding seal_answer distinct
seal_distinct s f room = of_first distinct (seal_tests s f (length room)) (Done (s.last + 1) (priority f) (length f + added)) tt tt

open_distinct : (r : Receiver) (f room : List ℕ) → T (distinct (open_answer r f room))
unfolding open_answer distinct
open_distinct r f room = of_first distinct (open_tests r f (length room)) (Done (number f) (priority f) (length f - added)) tt tt

pub done_follows : DoneFollows
unfolding sender_next
done_follows = ((λ s f room h. sealed s f room (seal_answer s f room) refl h), (λ r f room h. opened r f room (open_answer r f room) refl h))
  where
    sealed : (s : Sender) (f room : List ℕ) (a : Answer) → seal_answer s f room ≡ a → answer_number a ≡ 0 → a ≡ Done (sender_next s a).last (priority f) (length f + added)
    sealed s f room (Done n p k) e h = let d = seal_done s f room n p k e in rw (d.number_is, d.priority_is, d.length_is)
    sealed s f room (Refused a) e h = absurd (never_0 (seal_answer s f room) a (seal_distinct s f room) e h)

    opened : (r : Receiver) (f room : List ℕ) (a : Answer) → open_answer r f room ≡ a → answer_number a ≡ 0 → a ≡ Done (number f) (priority f) (length f - added)
    opened r f room (Done n p k) e h = let d = open_done r f room n p k e in rw (d.number_is, d.priority_is, d.length_is)
    opened r f room (Refused a) e h = absurd (never_0 (open_answer r f room) a (open_distinct r f room) e h)
