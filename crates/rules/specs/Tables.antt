-- Document 02, request 4: over whole lists of calls every table is sound, and an entry between its changes is a sender and a receiver.
use Rattle.std.specs.Prelude.{◌≡◌, true, List, ℕ, ◌<◌, length, take}
use Rattle.rules.specs.Records.{new_receiver, fresh_sender, fresh_receiver}
use Rattle.rules.specs.Sealing.{seal_answer, seal_output}
use Rattle.rules.specs.Opening.{open_answer, open_output}
use Rattle.rules.specs.Table.{sender_of, new_entry, fresh_table, entry_at, sound_table}
use Rattle.rules.specs.Adding.{add_place, add_answer, add_next}
use Rattle.rules.specs.Calls.{open_run}
use Rattle.rules.specs.Sending.{send_run}
use Rattle.rules.specs.TableCalls.{TableCall, lent, table_run, call_at, before, table_answer_at, table_output_at, OctetCalls, seals_at, opens_at, own_sealings, own_openings, Unchanged}
use Rattle.rules.specs.Answers.{Done}
use Rattle.rules.specs.declared.Entry.{Entry}
use Rattle.rules.specs.declared.Table.{Table}
use Rattle.rules.specs.declared.Pairing.{Pairing}

-- every table that calls leave of the fresh one is sound
abbrev pub TablesSound : Type 0
TablesSound = (cs : List TableCall) → OctetCalls cs → sound_table (table_run fresh_table cs) ≡ true

-- adding, where it is done, puts an entry with document 01's fresh records and the flags asked for at its place
abbrev pub AddedFresh : Type 0
AddedFresh =
    (t : Table) (x : Pairing) → add_answer t x ≡ Done 0 0 0
    → let e = entry_at (add_next t x) (add_place t x.triple) in
    (e ≡ new_entry x)
    × (sender_of e ≡ fresh_sender x.key x.triple.key_id x.triple.own)
    × (e.receiver ≡ fresh_receiver x.key x.triple.key_id x.triple.peer x.size)

-- an entry without what sealing and opening move: its flags, addresses, key ID, key and size
abbrev pub as_made : Entry → Entry
as_made e =
    record {
      used = e.used;
      may_send = e.may_send;
      may_receive = e.may_receive;
      own = e.own;
      last = 0;
      receiver = new_receiver e.receiver.key e.receiver.key_id e.receiver.peer e.receiver.size;
    }

-- the entry at place i of t over the calls cs: it is what it was made as, its two records are what its own calls leave by document 01, and
-- each of its own calls has the answer and the output of the record's own call. What a part of the calls leaves, a shorter list tells
pub record Projected (t : Table) (i : ℕ) (cs : List TableCall) : Type 0 where
  pub as_made_lem : as_made (entry_at (table_run t cs) i) ≡ as_made (entry_at t i)
  pub sender_is : sender_of (entry_at (table_run t cs) i) ≡ send_run (sender_of (entry_at t i)) (own_sealings t i cs)
  pub receiver_is : (entry_at (table_run t cs) i).receiver ≡ open_run (entry_at t i).receiver (own_openings t i cs)
  pub sealing-is :
      (j : ℕ) → j < length cs → seals_at (before t cs j) i (call_at cs j) ≡ true
      → let s = send_run (sender_of (entry_at t i)) (own_sealings t i (take j cs)) in
      let c = lent (call_at cs j) in
      (table_answer_at t cs j ≡ seal_answer s c.frame c.room) × (table_output_at t cs j ≡ seal_output s c.frame c.room)
  pub opening-is :
      (j : ℕ) → j < length cs → opens_at (before t cs j) i (call_at cs j) ≡ true
      → let r = open_run (entry_at t i).receiver (own_openings t i (take j cs)) in
      let c = lent (call_at cs j) in
      (table_answer_at t cs j ≡ open_answer r c.frame c.room) × (table_output_at t cs j ≡ open_output r c.frame c.room)

-- an entry between its changes is document 01's sender and receiver, whatever else is called on the table
abbrev pub Projection : Type 0
Projection = (t : Table) (i : ℕ) (cs : List TableCall) → Unchanged t i cs → Projected t i cs
