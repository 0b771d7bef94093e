-- Document 02, request 6: what an exported call answers, and the record's buffer and the output after it. Each is the call beneath on the record
-- in the buffer; a buffer that is no record answers 1 and changes nothing.
use Rattle.std.specs.Prelude.{Bool, cond, ◌&&◌, List, ℕ, eqb, length}
use Rattle.rules.specs.Limits.{key_octets}
use Rattle.rules.specs.Records.{fresh_answer, fresh_sender, receiver_answer, fresh_receiver}
use Rattle.rules.specs.Answers.{answer_number}
use Rattle.rules.specs.Sealing.{seal_answer, seal_next, seal_output}
use Rattle.rules.specs.Opening.{open_answer, open_next, open_output}
use Rattle.kondrivai.specs.Layout1.{sender_size, is_sender, sender_in, sender_octets, receiver_size, is_receiver, receiver_in, receiver_octets}

-- sealing, on a record's buffer b
unfoldable pub seal_number : List ℕ → List ℕ → List ℕ → ℕ
seal_number b f room = cond (is_sender b) (answer_number (seal_answer (sender_in b) f room)) 1

unfoldable pub seal_buffer : List ℕ → List ℕ → List ℕ → List ℕ
seal_buffer b f room = cond (is_sender b) (sender_octets (seal_next (sender_in b) f room)) b

unfoldable pub seal_room : List ℕ → List ℕ → List ℕ → List ℕ
seal_room b f room = cond (is_sender b) (seal_output (sender_in b) f room) room

-- opening likewise
unfoldable pub open_number : List ℕ → List ℕ → List ℕ → ℕ
open_number b f room = cond (is_receiver b) (answer_number (open_answer (receiver_in b) f room)) 1

unfoldable pub open_buffer : List ℕ → List ℕ → List ℕ → List ℕ
open_buffer b f room = cond (is_receiver b) (receiver_octets (open_next (receiver_in b) f room)) b

unfoldable pub open_room : List ℕ → List ℕ → List ℕ → List ℕ
open_room b f room = cond (is_receiver b) (open_output (receiver_in b) f room) room

-- a record can be made of this key in a buffer of so many octets: both are as long as they have to be
abbrev pub can_hold : ℕ → List ℕ → List ℕ → Bool
can_hold size b key = eqb (length b) size && eqb (length key) key_octets

-- making a record writes the buffer where it answers 0
unfoldable pub fresh_sender_number : List ℕ → List ℕ → ℕ → ℕ
fresh_sender_number b key keyId = cond (can_hold sender_size b key) (answer_number (fresh_answer keyId)) 1

unfoldable pub fresh_sender_buffer : List ℕ → List ℕ → ℕ → List ℕ → List ℕ
fresh_sender_buffer b key keyId address = cond (eqb (fresh_sender_number b key keyId) 0) (sender_octets (fresh_sender key keyId address)) b

unfoldable pub fresh_receiver_number : List ℕ → List ℕ → ℕ → ℕ → ℕ
fresh_receiver_number b key keyId size = cond (can_hold receiver_size b key) (answer_number (receiver_answer keyId size)) 1

unfoldable pub fresh_receiver_buffer : List ℕ → List ℕ → ℕ → List ℕ → ℕ → List ℕ
fresh_receiver_buffer b key keyId peer size =
    cond (eqb (fresh_receiver_number b key keyId size) 0) (receiver_octets (fresh_receiver key keyId peer size)) b
