-- Document 02, request 6, over whole lists of calls: a buffer holds at every moment the record that the calls beneath leave, and each exported call
-- answers and writes what the call beneath does. So what is promised of a sender and of a receiver, the three demands among it, holds of a buffer.
use Rattle.std.specs.Prelude.{◌≡◌, List, [], ◌∷◌, map, ◌≢◌, ◌⊎◌, ℕ, ◌+◌, ◌-◌, length}
use Rattle.octets.specs.Octets.{Octets}
use Rattle.rules.specs.Limits.{address_octets}
use Rattle.rules.specs.Header.{priority}
use Rattle.rules.specs.Nonce.{number}
use Rattle.rules.specs.Mode.{added}
use Rattle.rules.specs.Records.{fresh_sender, fresh_receiver}
use Rattle.rules.specs.Answers.{answer_number}
use Rattle.rules.specs.Sealing.{seal_answer, seal_next, seal_output}
use Rattle.rules.specs.Opening.{open_answer, open_output}
use Rattle.rules.specs.Calls.{Call, OctetFrames, open_run}
use Rattle.rules.specs.Sending.{sealing, send_run}
use Rattle.rules.specs.declared.Sender.{Sender}
use Rattle.rules.specs.declared.Receiver.{Receiver}
use Rattle.rules.specs.Answers.{Done}
use Rattle.kondrivai.specs.Layout1.{sender_octets, receiver_octets}
use Rattle.kondrivai.specs.Exports.{seal_number, seal_buffer, seal_room, open_number, open_buffer, open_room, fresh_sender_number, fresh_sender_buffer, fresh_receiver_number, fresh_receiver_buffer}

-- the buffer that a list of calls leaves
abbrev pub seal_buffer_run : List ℕ → List Call → List ℕ
seal_buffer_run b [] = b
seal_buffer_run b (c ∷ cs) = seal_buffer_run (seal_buffer b c.frame c.room) cs

abbrev pub open_buffer_run : List ℕ → List Call → List ℕ
open_buffer_run b [] = b
open_buffer_run b (c ∷ cs) = open_buffer_run (open_buffer b c.frame c.room) cs

-- the buffer b holds the sender s, and the exported call c on it answers and writes what the call beneath does
pub record StandsForSender (b : List ℕ) (s : Sender) (c : Call) : Type 0 where
  pub held : b ≡ sender_octets s
  pub answered : seal_number b c.frame c.room ≡ answer_number (seal_answer s c.frame c.room)
  pub written : seal_room b c.frame c.room ≡ seal_output s c.frame c.room

pub record StandsForReceiver (b : List ℕ) (r : Receiver) (c : Call) : Type 0 where
  pub held : b ≡ receiver_octets r
  pub answered : open_number b c.frame c.room ≡ answer_number (open_answer r c.frame c.room)
  pub written : open_room b c.frame c.room ≡ open_output r c.frame c.room

-- from a fresh record in a buffer on, for every list of calls and any call after them
abbrev pub HostSeals : Type 0
HostSeals =
    (b key address : List ℕ) (keyId : ℕ) → length address ≡ address_octets → fresh_sender_number b key keyId ≡ 0 → (cs : List Call) (c : Call)
    → StandsForSender (seal_buffer_run (fresh_sender_buffer b key keyId address) cs) (send_run (fresh_sender key keyId address) (map sealing cs)) c

abbrev pub HostOpens : Type 0
HostOpens =
    (b key peer : List ℕ) (keyId size : ℕ) → length peer ≡ address_octets → fresh_receiver_number b key keyId size ≡ 0
    → (cs : List Call) → OctetFrames cs → (c : Call)
    → StandsForReceiver (open_buffer_run (fresh_receiver_buffer b key keyId peer size) cs) (open_run (fresh_receiver key keyId peer size) cs) c

-- a refusal of sealing changes nothing; one of opening keeps the output, and answered 1 or 6 the record too
abbrev pub RefusalsKeep : Type 0
RefusalsKeep =
    ((b f room : List ℕ) → Octets b → seal_number b f room ≢ 0 → (seal_buffer b f room ≡ b) × (seal_room b f room ≡ room))
    × ((b f room : List ℕ) → open_number b f room ≢ 0 → open_room b f room ≡ room)
    × ((b f room : List ℕ) → Octets b → (open_number b f room ≡ 1) ⊎ (open_number b f room ≡ 6) → open_buffer b f room ≡ b)

-- what done says beside its number: in sealing the record's last number afterwards, in opening the number that the frame carries; the frame's
-- priority; and the frame's length with what sealing adds, or without it
abbrev pub DoneFollows : Type 0
DoneFollows =
    ((s : Sender) (f room : List ℕ) → answer_number (seal_answer s f room) ≡ 0
    → seal_answer s f room ≡ Done (seal_next s f room).last (priority f) (length f + added))
    × ((r : Receiver) (f room : List ℕ) → answer_number (open_answer r f room) ≡ 0
    → open_answer r f room ≡ Done (number f) (priority f) (length f - added))
