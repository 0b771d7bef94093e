-- Document 02, request 4: sealing and opening through a table. Tests of its own lead to an entry; from there on the call is the entry's own
-- by document 01.
use Rattle.std.specs.Prelude.{Bool, cond, ◌&&◌, List, [], ◌∷◌, ℕ, ◌+◌, ◌-◌, length}
use Rattle.rules.specs.Limits.{least_body, most_body}
use Rattle.rules.specs.Header.{address1, address2}
use Rattle.rules.specs.Nonce.{ccmp_of, key_id_in}
use Rattle.rules.specs.Mode.{added}
use Rattle.rules.specs.Records.{format_count, count_of, counted}
use Rattle.rules.specs.Answers.{Answer, Test, in_order, first_that_applies, none_applies}
use Rattle.rules.specs.Tests.{record_test, header_tests, body_test, room_test, extended_test, entry_test}
use Rattle.rules.specs.Sealing.{seal_answer, seal_next, seal_output}
use Rattle.rules.specs.Opening.{open_answer, open_next, open_output}
use Rattle.rules.specs.Table.{sender_of, with_sender, with_receiver, entry_at, put, sound_table, is_place, place_of}
use Rattle.rules.specs.declared.Table.{Table}
use Rattle.rules.specs.declared.Triple.{Triple}

-- sealing finds its entry by A2 as own address, A1 as peer and the key ID asked for
abbrev pub seal_triple : ℕ → List ℕ → Triple
seal_triple keyId f = record { own = address2 f; peer = address1 f; key_id = keyId }

abbrev pub seal_place : Table → ℕ → List ℕ → ℕ
seal_place t keyId f = place_of t (seal_triple keyId f)

-- the tests of sealing up to the search, in a room of so many octets
abbrev pub table_seal_tests : Table → ℕ → List ℕ → ℕ → List Test
table_seal_tests t keyId f room =
    in_order
    (record_test (sound_table t)
    ∷ header_tests 1 f
    ∷ body_test least_body most_body f
    ∷ room_test room (length f + added)
    ∷ entry_test (is_place t (seal_place t keyId f) && (entry_at t (seal_place t keyId f)).may_send)
    ∷ [])

-- the call comes to its entry
abbrev pub seal_comes : Table → ℕ → List ℕ → List ℕ → Bool
seal_comes t keyId f room = none_applies (table_seal_tests t keyId f (length room))

unfoldable pub table_seal_answer : Table → ℕ → List ℕ → List ℕ → Answer
table_seal_answer t keyId f room =
    first_that_applies (table_seal_tests t keyId f (length room)) (seal_answer (sender_of (entry_at t (seal_place t keyId f))) f room)

-- the table with what sealing leaves of the entry at place i
abbrev pub sealed_at : Table → ℕ → List ℕ → List ℕ → Table
sealed_at t i f room = put t i (with_sender (entry_at t i) (seal_next (sender_of (entry_at t i)) f room))

unfoldable pub table_seal_next : Table → ℕ → List ℕ → List ℕ → Table
table_seal_next t keyId f room = cond (seal_comes t keyId f room) (sealed_at t (seal_place t keyId f) f room) t

unfoldable pub table_seal_output : Table → ℕ → List ℕ → List ℕ → List ℕ
table_seal_output t keyId f room = cond (seal_comes t keyId f room) (seal_output (sender_of (entry_at t (seal_place t keyId f))) f room) room

-- opening finds its entry by A1 as own address, A2 as peer and the frame's key ID
abbrev pub open_triple : List ℕ → Triple
open_triple f = record { own = address1 f; peer = address2 f; key_id = key_id_in (ccmp_of f) }

abbrev pub open_place : Table → List ℕ → ℕ
open_place t f = place_of t (open_triple f)

-- the tests of opening up to the search
abbrev pub table_open_tests : Table → List ℕ → ℕ → List Test
table_open_tests t f room =
    in_order
    (record_test (sound_table t)
    ∷ header_tests 0 f
    ∷ body_test (least_body + added) (most_body + added) f
    ∷ room_test room (length f - added)
    ∷ extended_test f
    ∷ entry_test (is_place t (open_place t f) && (entry_at t (open_place t f)).may_receive)
    ∷ [])

abbrev pub open_comes : Table → List ℕ → List ℕ → Bool
open_comes t f room = none_applies (table_open_tests t f (length room))

unfoldable pub table_open_answer : Table → List ℕ → List ℕ → Answer
table_open_answer t f room = first_that_applies (table_open_tests t f (length room)) (open_answer (entry_at t (open_place t f)).receiver f room)

-- the table with its own format count after an answer, and with what opening leaves of the entry at place i
abbrev pub format_counted : Table → Answer → Table
format_counted t a = record { entries = t.entries; format_errors = counted format_count (count_of a) t.format_errors }

abbrev pub opened_at : Table → ℕ → List ℕ → List ℕ → Table
opened_at t i f room = put t i (with_receiver (entry_at t i) (open_next (entry_at t i).receiver f room))

-- up to the search the table counts, and from there on the entry
unfoldable pub table_open_next : Table → List ℕ → List ℕ → Table
table_open_next t f room = cond (open_comes t f room) (opened_at t (open_place t f) f room) (format_counted t (table_open_answer t f room))

unfoldable pub table_open_output : Table → List ℕ → List ℕ → List ℕ
table_open_output t f room = cond (open_comes t f room) (open_output (entry_at t (open_place t f)).receiver f room) room
