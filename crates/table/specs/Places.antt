-- Places that a search gives, and what the tests before it say. No public contract cites this.
use Rattle.std.specs.Prelude.{cond, Option, Some, None, Result, Ok, Err, List, [], ◌∷◌, ℕ}
use Rattle.rules.specs.Answers.{Test, ◌⇒◌}
use Rattle.rules.specs.Refusals.{refusal_number}
use Rattle.rules.specs.Table.{is_place}
use Rattle.rules.specs.declared.Table.{Table}
use Rattle.rules.specs.declared.answer.Refusal.{Refusal}

-- a place of the table, or none where it is past the last
abbrev pub found : Table → ℕ → Option ℕ
found t i = cond (is_place t i) (Some i) None

-- the number of the first test that applies, or else the place i
abbrev pub place_after : List Test → ℕ → Result ℕ ℕ
place_after [] i = Ok i
place_after ((b ⇒ a) ∷ ts) i = cond b (Err a) (place_after ts i)

-- what a function's result says
abbrev pub place_result : Result ℕ Refusal → Result ℕ ℕ
place_result (Ok i) = Ok i
place_result (Err x) = Err (refusal_number x)
