-- Document 02, request 5: at size 1 the rule is document 01's, and so is what demand 3 says; and a refused receiver is not sound.
use Rattle.std.specs.Prelude.{◌≡◌, true, false, List, ℕ, ◌<◌, leb, get_or, set}
use Rattle.rules.specs.Limits.{small_window, priorities}
use Rattle.rules.specs.Records.{sound_receiver, receiver_answer, fresh_sender, fresh_receiver, is_replay, receiver_next}
use Rattle.rules.specs.Table.{fresh_table}
use Rattle.rules.specs.Adding.{add_place, add_answer, add_next}
use Rattle.rules.specs.Calls.{Call, open_answer_at}
use Rattle.rules.specs.Sending.{Sent}
use Rattle.rules.specs.TableCalls.{TableCall, table_run, call_at, before, table_answer_at, OctetCalls, opens_at}
use Rattle.rules.specs.Demand3.{Delivered}
use Rattle.rules.specs.TableDemand3.{DeliveredTo}
use Rattle.rules.specs.Answers.{Done, Refused}
use Rattle.rules.specs.declared.Receiver.{Receiver}
use Rattle.rules.specs.declared.Table.{Table}
use Rattle.rules.specs.declared.Pairing.{Pairing}

-- a number not above the counter of its priority is a replay, and one that opens is the counter from then on
abbrev pub OldRule : Type 0
OldRule =
    (r : Receiver) (p n k : ℕ) → sound_receiver r ≡ true → r.size ≡ small_window → p < priorities
    → (is_replay r p n ≡ leb n (get_or r.replay p 0))
    × (is_replay r p n ≡ false → (receiver_next r (Done n p k)).replay ≡ set r.replay p n)

-- x's number is above every number that the calls before j opened in its priority
abbrev pub AboveOpened : Receiver → List Call → ℕ → Sent → Type 0
AboveOpened r ds j x = (j' n' k' : ℕ) → j' < j → open_answer_at r ds j' ≡ Done n' x.priority k' → n' < x.number

-- demand 3's first half in document 01's words
abbrev pub OldDelivered : Type 0
OldDelivered =
    (key address : List ℕ) (keyId : ℕ) → receiver_answer keyId small_window ≡ Done 0 0 0
    → Delivered AboveOpened (fresh_sender key keyId address) (fresh_receiver key keyId address small_window)

-- x's number is above every number that the calls before j opened in its priority through the entry at place i
abbrev pub AboveOpenedAt : Table → ℕ → List TableCall → ℕ → Sent → Type 0
AboveOpenedAt t i ds j x =
    (j' n' k' : ℕ) → j' < j → opens_at (before t ds j') i (call_at ds j') ≡ true → table_answer_at t ds j' ≡ Done n' x.priority k' → n' < x.number

-- the same for an entry of a table
abbrev pub OldTableDelivered : Type 0
OldTableDelivered =
    (cs : List TableCall) → OctetCalls cs → (x : Pairing) → x.may_receive ≡ true → x.size ≡ small_window
    → let t = table_run fresh_table cs in
    add_answer t x ≡ Done 0 0 0 → DeliveredTo AboveOpenedAt (add_next t x) (add_place t x.triple)

-- a receiver that was refused, all zeros, answers 1 from then on: its size is neither 1 nor 16
abbrev pub RefusedUnsound : Type 0
RefusedUnsound =
    (key peer : List ℕ) (keyId size : ℕ) → receiver_answer keyId size ≡ Refused 1 → sound_receiver (fresh_receiver key keyId peer size) ≡ false
