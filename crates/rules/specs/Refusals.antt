-- How the code holds an answer: a refusal by its name, which has a number in documents 01 and 02.
use Rattle.std.specs.Prelude.{ℕ, Result, Ok, Err}
use Rattle.rules.specs.Answers.{Answer, Done, Refused}
use Rattle.rules.specs.declared.answer.Success.{Success}
use Rattle.rules.specs.declared.answer.Refusal.{Refusal}
use Rattle.rules.specs.declared.answer.Refusal.TheVariants.{Record, Short, Kind, Protected, Body, Room, Address, ExtIv, KeyId, Replay, Integrity, Spent, Split, Fragment, Entry, Full, KnownKey}

abbrev pub refusal_number : Refusal → ℕ
refusal_number Record = 1
refusal_number Short = 2
refusal_number Kind = 3
refusal_number Protected = 4
refusal_number Body = 5
refusal_number Room = 6
refusal_number Address = 7
refusal_number ExtIv = 8
refusal_number KeyId = 9
refusal_number Replay = 10
refusal_number Integrity = 11
refusal_number Spent = 12
refusal_number Split = 13
refusal_number Fragment = 14
refusal_number Entry = 15
refusal_number Full = 16
refusal_number KnownKey = 17

abbrev pub answer_of : Result Success Refusal → Answer
answer_of (Ok x) = Done x.number x.priority x.octets
answer_of (Err x) = Refused (refusal_number x)
