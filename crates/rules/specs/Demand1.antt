-- Demand 1: any record, frame and room get one of the numbered answers; a refusal keeps the output, the keys and the numbers, and of the
-- counts only the named one moves; a joiner moves by no refusal but 14. That every call ends and stays inside its arguments is part of the
-- proof of each function.
use Rattle.std.specs.Prelude.{◌≡◌, true, cond, List, [], ◌∷◌, ◌≢◌, ℕ, ◌+◌, ◌%◌}
use Rattle.rules.specs.Limits.{count_limit}
use Rattle.rules.specs.Answers.{Answer, Refused, among, answer_number}
use Rattle.rules.specs.Sealing.{seal_answer, seal_next, seal_output}
use Rattle.rules.specs.Opening.{open_answer, open_next, open_output}
use Rattle.rules.specs.Splitting.{split_answer, split_next, split_output}
use Rattle.rules.specs.Joining.{fresh_joiner, join_answer, join_next, join_output}
use Rattle.rules.specs.declared.Sender.{Sender}
use Rattle.rules.specs.declared.Joiner.{Joiner}
use Rattle.rules.specs.declared.Receiver.{Receiver}
use Rattle.rules.specs.declared.Counts.{Counts}

-- the numbers of each call's answers
abbrev pub seal_numbers : List ℕ
seal_numbers = 0 ∷ 1 ∷ 2 ∷ 3 ∷ 4 ∷ 5 ∷ 6 ∷ 7 ∷ 12 ∷ []

abbrev pub split_numbers : List ℕ
split_numbers = 0 ∷ 1 ∷ 2 ∷ 3 ∷ 4 ∷ 6 ∷ 7 ∷ 12 ∷ 13 ∷ []

abbrev pub join_numbers : List ℕ
join_numbers = 0 ∷ 1 ∷ 2 ∷ 3 ∷ 4 ∷ 5 ∷ 6 ∷ 14 ∷ []

abbrev pub open_numbers : List ℕ
open_numbers = 0 ∷ 1 ∷ 2 ∷ 3 ∷ 4 ∷ 5 ∷ 6 ∷ 7 ∷ 8 ∷ 9 ∷ 10 ∷ 11 ∷ []

-- the answers that each count counts
abbrev pub format_answers : List ℕ
format_answers = 2 ∷ 3 ∷ 4 ∷ 5 ∷ 7 ∷ 8 ∷ 9 ∷ []

abbrev pub replay_answers : List ℕ
replay_answers = 10 ∷ []

abbrev pub decrypt_answers : List ℕ
decrypt_answers = 11 ∷ []

abbrev pub opened_answers : List ℕ
opened_answers = 0 ∷ []

-- the count v of the answers ns, after the answer with number a
abbrev pub one_more : List ℕ → ℕ → ℕ → ℕ
one_more ns a v = cond (among ns a) ((v + 1) % count_limit) v

-- the counts c' that the answer with number a leaves of c
pub record Moved (a : ℕ) (c c' : Counts) : Type 0 where
  pub format_errors : c'.format_errors ≡ one_more format_answers a c.format_errors
  pub replays : c'.replays ≡ one_more replay_answers a c.replays
  pub decrypt_errors : c'.decrypt_errors ≡ one_more decrypt_answers a c.decrypt_errors
  pub opened : c'.opened ≡ one_more opened_answers a c.opened

-- a sealing or splitting call's answer a, one of these numbers, the sender t and the output out after it
pub record SealingKeeps (numbers : List ℕ) (s : Sender) (room : List ℕ) (a : Answer) (t : Sender) (out : List ℕ) : Type 0 where
  pub numbered : among numbers (answer_number a) ≡ true
  pub record_kept : (x : ℕ) → a ≡ Refused x → t ≡ s
  pub output_kept : (x : ℕ) → a ≡ Refused x → out ≡ room

-- an opening call's answer a, the receiver t and the output out after it
pub record OpeningKeeps (r : Receiver) (room : List ℕ) (a : Answer) (t : Receiver) (out : List ℕ) : Type 0 where
  pub numbered : among open_numbers (answer_number a) ≡ true
  pub key_kept : t.key ≡ r.key
  pub id_kept : t.key_id ≡ r.key_id
  pub peer_kept : t.peer ≡ r.peer
  pub size_kept : t.size ≡ r.size
  pub windows_kept : (x : ℕ) → a ≡ Refused x → (t.replay ≡ r.replay) × (t.seen ≡ r.seen)
  pub output_kept : (x : ℕ) → a ≡ Refused x → out ≡ room
  pub one_moved : Moved (answer_number a) r.counts t.counts

-- a joining call's answer a, the joiner t and the output out after it
pub record JoiningKeeps (j : Joiner) (room : List ℕ) (a : Answer) (t : Joiner) (out : List ℕ) : Type 0 where
  pub numbered : among join_numbers (answer_number a) ≡ true
  pub joiner_kept : (x : ℕ) → a ≡ Refused x → x ≢ 14 → t ≡ j
  pub joiner_emptied : a ≡ Refused 14 → t ≡ fresh_joiner
  pub output_kept : (x : ℕ) → a ≡ Refused x → out ≡ room

abbrev pub Demand1 : Type 0
Demand1 =
    ((s : Sender) (f room : List ℕ) → SealingKeeps seal_numbers s room (seal_answer s f room) (seal_next s f room) (seal_output s f room))
    × ((s : Sender) (size : ℕ) (f room : List ℕ)
    → SealingKeeps split_numbers s room (split_answer s size f room) (split_next s size f room) (split_output s size f room))
    × ((j : Joiner) (f : List ℕ) (n : ℕ) (room : List ℕ) → JoiningKeeps j room (join_answer j f n room) (join_next j f n room) (join_output j f n room))
    × ((r : Receiver) (f room : List ℕ) → OpeningKeeps r room (open_answer r f room) (open_next r f room) (open_output r f room))
