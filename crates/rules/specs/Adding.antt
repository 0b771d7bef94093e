-- Document 02, request 4: adding an entry to a table, and removing one.
use Rattle.std.specs.Prelude.{cond, not, List, [], ◌∷◌, ℕ}
use Rattle.rules.specs.Records.{receiver_fits}
use Rattle.rules.specs.Answers.{Answer, Done, Refused, Test, in_order, first_that_applies}
use Rattle.rules.specs.Tests.{record_test, entry_test, full_test, key_test}
use Rattle.rules.specs.Table.{new_entry, free_entry, put, has_key, is_free, sound_table, first_place, is_place, place_of}
use Rattle.rules.specs.declared.Table.{Table}
use Rattle.rules.specs.declared.Entry.{Entry}
use Rattle.rules.specs.declared.Triple.{Triple}
use Rattle.rules.specs.declared.Pairing.{Pairing}

-- the first entry with a key, and the first free one
abbrev pub key_place : Table → List ℕ → ℕ
key_place t key = first_place (has_key key) t.entries

abbrev pub free_place : Table → ℕ
free_place t = first_place is_free t.entries

-- adding takes the place of a present triple, or else the first free one
unfoldable pub add_place : Table → Triple → ℕ
add_place t x = cond (is_place t (place_of t x)) (place_of t x) (free_place t)

abbrev pub add_tests : Table → Pairing → List Test
add_tests t x =
    in_order
    (record_test (sound_table t)
    ∷ record_test (receiver_fits x.triple.key_id x.size)
    ∷ key_test (is_place t (key_place t x.key))
    ∷ full_test (not (is_place t (add_place t x.triple)))
    ∷ [])

unfoldable pub add_answer : Table → Pairing → Answer
add_answer t x = first_that_applies (add_tests t x) (Done 0 0 0)

-- done puts an entry at its place, a refusal keeps all
abbrev pub put_if : Answer → Table → ℕ → Entry → Table
put_if (Done n p k) t i e = put t i e
put_if (Refused a) t i e = t

-- the table after adding, and after removing
abbrev pub add_next : Table → Pairing → Table
add_next t x = put_if (add_answer t x) t (add_place t x.triple) (new_entry x)

abbrev pub remove_tests : Table → Triple → List Test
remove_tests t x = in_order (record_test (sound_table t) ∷ entry_test (is_place t (place_of t x)) ∷ [])

unfoldable pub remove_answer : Table → Triple → Answer
remove_answer t x = first_that_applies (remove_tests t x) (Done 0 0 0)

abbrev pub remove_next : Table → Triple → Table
remove_next t x = put_if (remove_answer t x) t (place_of t x) free_entry
