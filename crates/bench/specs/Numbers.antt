-- Outcomes as numbers and records from their fields, for C.
use Rattle.std.specs.Prelude.{Option, Some, None, true, List, [], ◌∷◌, ℕ, get_or}
use Rattle.rules.specs.Answers.{Answer, told}
use Rattle.rules.specs.Limits.{small_window}
use Rattle.rules.specs.Records.{new_sender, new_receiver, with_last}
use Rattle.rules.specs.Table.{new_entry, fresh_table, put}
use Rattle.rules.specs.Adding.{add_answer, add_next}
use Rattle.rules.specs.Serving.{table_seal_answer, table_seal_next, table_seal_output, table_open_answer, table_open_next, table_open_output}
use Rattle.rules.specs.declared.Counts.{Counts}
use Rattle.rules.specs.declared.Joiner.{Joiner}
use Rattle.rules.specs.declared.Pairing.{Pairing}
use Rattle.rules.specs.declared.Receiver.{Receiver}
use Rattle.rules.specs.declared.Sender.{Sender}
use Rattle.rules.specs.declared.Table.{Table}

-- the octets written, or 2^64 - 1 for a refusal
abbrev pub number : Option ℕ → ℕ
number (Some n) = n
number None = 0xffff_ffff_ffff_ffff

abbrev pub sender : List ℕ → ℕ → List ℕ → ℕ → Sender
sender key keyId address last = with_last (new_sender key keyId address) last

-- format errors, replays, decrypt errors, opened
abbrev pub counts_of : List ℕ → Counts
counts_of counts =
    record { format_errors = get_or counts 0 0; replays = get_or counts 1 0; decrypt_errors = get_or counts 2 0; opened = get_or counts 3 0 }

-- a receiver with these windows and counts
abbrev pub with_windows : Receiver → List ℕ → List ℕ → List ℕ → Receiver
with_windows r replay seen counts =
    record { key = r.key; key_id = r.key_id; peer = r.peer; size = r.size; replay = replay; seen = seen; counts = counts_of counts }

abbrev pub receiver : List ℕ → ℕ → List ℕ → ℕ → List ℕ → List ℕ → List ℕ → Receiver
receiver key keyId peer size replay seen counts = with_windows (new_receiver key keyId peer size) replay seen counts

-- a joiner with this last fragment
abbrev pub joiner : List ℕ → ℕ → List ℕ → ℕ → ℕ → ℕ → ℕ → Joiner
joiner held length address priority sequence fragment number =
    record {
      held = held;
      length = length;
      last = record { address = address; priority = priority; sequence = sequence; fragment = fragment; number = number };
    }

-- a camera that may send and receive, and a table with this one
abbrev pub camera : List ℕ → List ℕ → ℕ → List ℕ → Pairing
camera own peer keyId key =
    record { triple = record { own = own; peer = peer; key_id = keyId }; key = key; size = small_window; may_send = true; may_receive = true }

abbrev pub one_camera : List ℕ → List ℕ → ℕ → List ℕ → Table
one_camera own peer keyId key = put fresh_table 0 (new_entry (camera own peer keyId key))

-- what the second of two calls answers, and the output after both
abbrev pub added_twice : Pairing → Answer
added_twice x = add_answer (add_next fresh_table x) x

abbrev pub sealed_twice : Table → ℕ → List ℕ → List ℕ → Answer × List ℕ
sealed_twice t keyId f o =
    let u = table_seal_next t keyId f o in
    let p = table_seal_output t keyId f o in
    (table_seal_answer u keyId f p, table_seal_output u keyId f p)

abbrev pub opened_twice : Table → List ℕ → List ℕ → Answer × List ℕ
opened_twice t f o =
    let u = table_open_next t f o in
    let p = table_open_output t f o in
    (table_open_answer u f p, table_open_output u f p)

-- four numbers, zeros after a first one that stands alone
abbrev pub padded : List ℕ → List ℕ
padded [] = 0 ∷ 0 ∷ 0 ∷ 0 ∷ []
padded (n ∷ []) = n ∷ 0 ∷ 0 ∷ 0 ∷ []
padded (n ∷ m ∷ ns) = n ∷ m ∷ ns

-- what an answer is told by, in four numbers
abbrev pub parts : Answer → List ℕ
parts a = padded (told a)
