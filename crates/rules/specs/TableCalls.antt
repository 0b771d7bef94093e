-- Whole lists of calls on a table: each takes the table that the call before it handed back, refused or not.
use Rattle.std.specs.Prelude.{◌≡◌, Bool, false, cond, ◌&&◌, List, [], ◌∷◌, ℕ, ◌<◌, eqb, length, take, get_or}
use Rattle.octets.specs.Octets.{Octets}
use Rattle.rules.specs.Answers.{Answer, answer_number}
use Rattle.rules.specs.Calls.{Call, no_call}
use Rattle.rules.specs.Sending.{SenderCall, sealing}
use Rattle.rules.specs.Table.{is_place, place_of}
use Rattle.rules.specs.Adding.{add_place, add_answer, add_next, remove_answer, remove_next}
use Rattle.rules.specs.Serving.{seal_place, seal_comes, table_seal_answer, table_seal_next, table_seal_output, open_place, open_comes, table_open_answer, table_open_next, table_open_output}
use Rattle.rules.specs.declared.Table.{Table}
use Rattle.rules.specs.declared.Triple.{Triple}
use Rattle.rules.specs.declared.Pairing.{Pairing}

-- to seal under a key ID, to open, to add, to remove
pub data TableCall : Type 0 where
  to_seal : ℕ → Call → TableCall
  to_open : Call → TableCall
  to_add : Pairing → TableCall
  to_remove : Triple → TableCall

-- a call's frame and room; adding and removing have none
abbrev pub lent : TableCall → Call
lent (to_seal keyId c) = c
lent (to_open c) = c
lent (to_add x) = no_call
lent (to_remove x) = no_call

-- a call's answer, the table and the output after it
abbrev pub table_answer : Table → TableCall → Answer
table_answer t (to_seal keyId c) = table_seal_answer t keyId c.frame c.room
table_answer t (to_open c) = table_open_answer t c.frame c.room
table_answer t (to_add x) = add_answer t x
table_answer t (to_remove x) = remove_answer t x

abbrev pub table_next : Table → TableCall → Table
table_next t (to_seal keyId c) = table_seal_next t keyId c.frame c.room
table_next t (to_open c) = table_open_next t c.frame c.room
table_next t (to_add x) = add_next t x
table_next t (to_remove x) = remove_next t x

abbrev pub table_output : Table → TableCall → List ℕ
table_output t (to_seal keyId c) = table_seal_output t keyId c.frame c.room
table_output t (to_open c) = table_open_output t c.frame c.room
table_output t (to_add x) = []
table_output t (to_remove x) = []

-- the table that a list of calls leaves
abbrev pub table_run : Table → List TableCall → Table
table_run t [] = t
table_run t (c ∷ cs) = table_run (table_next t c) cs

-- call j of a list, the table before it, its answer and its output
abbrev pub call_at : List TableCall → ℕ → TableCall
call_at cs j = get_or cs j (to_open no_call)

abbrev pub before : Table → List TableCall → ℕ → Table
before t cs j = table_run t (take j cs)

abbrev pub table_answer_at : Table → List TableCall → ℕ → Answer
table_answer_at t cs j = table_answer (before t cs j) (call_at cs j)

abbrev pub table_output_at : Table → List TableCall → ℕ → List ℕ
table_output_at t cs j = table_output (before t cs j) (call_at cs j)

-- every frame is octets, as lent bytes are
abbrev pub OctetCalls : List TableCall → Type 0
OctetCalls cs = (j : ℕ) → Octets (lent (call_at cs j)).frame

-- the call comes to the entry at place i: to seal, or to open
abbrev pub seals_at : Table → ℕ → TableCall → Bool
seals_at t i (to_seal keyId c) = seal_comes t keyId c.frame c.room && eqb (seal_place t keyId c.frame) i
seals_at t i (to_open c) = false
seals_at t i (to_add x) = false
seals_at t i (to_remove x) = false

abbrev pub opens_at : Table → ℕ → TableCall → Bool
opens_at t i (to_seal keyId c) = false
opens_at t i (to_open c) = open_comes t c.frame c.room && eqb (open_place t c.frame) i
opens_at t i (to_add x) = false
opens_at t i (to_remove x) = false

-- the entry's own calls among a list of calls on the table, as calls on a sender and on a receiver
abbrev pub own_sealings : Table → ℕ → List TableCall → List SenderCall
own_sealings t i [] = []
own_sealings t i (c ∷ cs) = let later = own_sealings (table_next t c) i cs in cond (seals_at t i c) (sealing (lent c) ∷ later) later

abbrev pub own_openings : Table → ℕ → List TableCall → List Call
own_openings t i [] = []
own_openings t i (c ∷ cs) = let later = own_openings (table_next t c) i cs in cond (opens_at t i c) (lent c ∷ later) later

-- the call adds, restarts or removes the entry at place i
abbrev pub changes : Table → ℕ → TableCall → Bool
changes t i (to_seal keyId c) = false
changes t i (to_open c) = false
changes t i (to_add x) = eqb (answer_number (add_answer t x)) 0 && eqb (add_place t x.triple) i
changes t i (to_remove x) = eqb (answer_number (remove_answer t x)) 0 && eqb (place_of t x) i

-- no call of the list changes the entry at place i
abbrev pub Unchanged : Table → ℕ → List TableCall → Type 0
Unchanged t i cs = (j : ℕ) → j < length cs → changes (before t cs j) i (call_at cs j) ≡ false

-- the call removes an entry, or restarts one; and no call of a list does
abbrev pub loses : Table → TableCall → Bool
loses t (to_seal keyId c) = false
loses t (to_open c) = false
loses t (to_add x) = eqb (answer_number (add_answer t x)) 0 && is_place t (place_of t x.triple)
loses t (to_remove x) = eqb (answer_number (remove_answer t x)) 0

abbrev pub NoneLost : Table → List TableCall → Type 0
NoneLost t cs = (j : ℕ) → j < length cs → loses (before t cs j) (call_at cs j) ≡ false
