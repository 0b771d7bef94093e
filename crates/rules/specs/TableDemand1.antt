-- Demand 1 for a table, by document 02, request 4: the order of its tests, the answers of its calls, and what a refusal keeps.
use Rattle.std.specs.Prelude.{◌≡◌, true, false, List, [], ◌∷◌, ◌++◌, ◌↔◌, ℕ, ◌+◌, ◌-◌, ◌%◌, length}
use Rattle.rules.specs.Limits.{count_limit}
use Rattle.rules.specs.Header.{priority}
use Rattle.rules.specs.Nonce.{number}
use Rattle.rules.specs.Mode.{added}
use Rattle.rules.specs.Answers.{Answer, Done, Refused, first_that_applies, among, answer_number}
use Rattle.rules.specs.Records.{receiver_fits}
use Rattle.rules.specs.Tests.{replay_test, code_test, spent_test}
use Rattle.rules.specs.Table.{entry_at, sound_table, is_place, place_of}
use Rattle.rules.specs.Adding.{key_place, free_place, add_answer, add_next, remove_answer, remove_next}
use Rattle.rules.specs.Serving.{seal_place, table_seal_tests, table_seal_answer, table_seal_next, table_seal_output, open_place, table_open_tests, table_open_answer, opened_at, table_open_next, table_open_output}
use Rattle.rules.specs.declared.Table.{Table}
use Rattle.rules.specs.declared.Triple.{Triple}
use Rattle.rules.specs.declared.Pairing.{Pairing}

-- the whole order of the tests: those up to the search, and then 12, or 10 and 11
abbrev pub TableSealOrder : Type 0
TableSealOrder =
    (t : Table) (keyId : ℕ) (f room : List ℕ)
    → let e = entry_at t (seal_place t keyId f) in
    table_seal_answer t keyId f room
    ≡ first_that_applies (table_seal_tests t keyId f (length room) ++ spent_test e.last) (Done (e.last + 1) (priority f) (length f + added))

abbrev pub TableOpenOrder : Type 0
TableOpenOrder =
    (t : Table) (f room : List ℕ)
    → let r = (entry_at t (open_place t f)).receiver in
    table_open_answer t f room
    ≡ first_that_applies (table_open_tests t f (length room) ++ (replay_test r f ++ code_test r.key f)) (Done (number f) (priority f) (length f - added))

-- adding to a sound table under a key ID and with a size that fit: 17 where the key is in use, and otherwise 16 exactly where the triple is
-- new and no entry is free
abbrev pub AddAnswers : Type 0
AddAnswers =
    (t : Table) (x : Pairing) → sound_table t ≡ true → receiver_fits x.triple.key_id x.size ≡ true
    → (is_place t (key_place t x.key) ≡ true → add_answer t x ≡ Refused 17)
    × (is_place t (key_place t x.key) ≡ false
    → add_answer t x ≡ Refused 16 ↔ ((is_place t (place_of t x.triple) ≡ false) × (is_place t (free_place t) ≡ false)))

-- the numbers of each call's answers
abbrev pub table_seal_numbers : List ℕ
table_seal_numbers = 0 ∷ 1 ∷ 2 ∷ 3 ∷ 4 ∷ 5 ∷ 6 ∷ 12 ∷ 15 ∷ []

abbrev pub table_open_numbers : List ℕ
table_open_numbers = 0 ∷ 1 ∷ 2 ∷ 3 ∷ 4 ∷ 5 ∷ 6 ∷ 8 ∷ 10 ∷ 11 ∷ 15 ∷ []

abbrev pub add_numbers : List ℕ
add_numbers = 0 ∷ 1 ∷ 16 ∷ 17 ∷ []

abbrev pub remove_numbers : List ℕ
remove_numbers = 0 ∷ 1 ∷ 15 ∷ []

-- those of opening that no count counts, that the table's counts, and that the entry's count
abbrev pub uncounted : List ℕ
uncounted = 1 ∷ 6 ∷ 15 ∷ []

abbrev pub counted_by_table : List ℕ
counted_by_table = 2 ∷ 3 ∷ 4 ∷ 5 ∷ 8 ∷ []

abbrev pub counted_by_entry : List ℕ
counted_by_entry = 0 ∷ 10 ∷ 11 ∷ []

-- a call's answer a, one of these numbers, the table u and the output out after it
pub record TableKeeps (numbers : List ℕ) (t : Table) (room : List ℕ) (a : Answer) (u : Table) (out : List ℕ) : Type 0 where
  pub numbered : among numbers (answer_number a) ≡ true
  pub table_kept : (x : ℕ) → a ≡ Refused x → u ≡ t
  pub output_kept : (x : ℕ) → a ≡ Refused x → out ≡ room

-- opening moves the table's count, or the entry's receiver as its own call does, or nothing
pub record TableOpeningKeeps (t : Table) (f room : List ℕ) (a : Answer) (u : Table) (out : List ℕ) : Type 0 where
  pub numbered : among table_open_numbers (answer_number a) ≡ true
  pub none_moved : among uncounted (answer_number a) ≡ true → u ≡ t
  pub table-moved :
      among counted_by_table (answer_number a) ≡ true
      → u ≡ record { entries = t.entries; format_errors = (t.format_errors + 1) % count_limit }
  pub entry_moved : among counted_by_entry (answer_number a) ≡ true → u ≡ opened_at t (open_place t f) f room
  pub output_kept : (x : ℕ) → a ≡ Refused x → out ≡ room

abbrev pub TableDemand1 : Type 0
TableDemand1 =
    ((t : Table) (keyId : ℕ) (f room : List ℕ)
    → TableKeeps table_seal_numbers t room (table_seal_answer t keyId f room) (table_seal_next t keyId f room) (table_seal_output t keyId f room))
    × ((t : Table) (f room : List ℕ) → TableOpeningKeeps t f room (table_open_answer t f room) (table_open_next t f room) (table_open_output t f room))
    × ((t : Table) (x : Pairing) → TableKeeps add_numbers t [] (add_answer t x) (add_next t x) [])
    × ((t : Table) (x : Triple) → TableKeeps remove_numbers t [] (remove_answer t x) (remove_next t x) [])
