-- The tests that sealing and opening through a table pass before an entry is looked for. No public contract cites this.
use Rattle.std.specs.Prelude.{List, [], ◌∷◌, ◌++◌, ℕ, ◌+◌, ◌-◌, length}
use Rattle.rules.specs.Limits.{least_body, most_body}
use Rattle.rules.specs.Mode.{added}
use Rattle.rules.specs.Answers.{Test, in_order}
use Rattle.rules.specs.Tests.{record_test, header_tests, body_test, room_test, extended_test}
use Rattle.rules.specs.Table.{sound_table}
use Rattle.rules.specs.declared.Table.{Table}

-- of the table, of the header and of the octets after it
abbrev pub form_tests : Table → ℕ → ℕ → ℕ → List ℕ → List Test
form_tests t wrong least most f = in_order (record_test (sound_table t) ∷ header_tests wrong f ∷ body_test least most f ∷ [])

-- all of them, for sealing and for opening
abbrev pub seal_forms : Table → List ℕ → ℕ → List Test
seal_forms t f room = form_tests t 1 least_body most_body f ++ room_test room (length f + added)

abbrev pub open_forms : Table → List ℕ → ℕ → List Test
open_forms t f room = form_tests t 0 (least_body + added) (most_body + added) f ++ (room_test room (length f - added) ++ extended_test f)
