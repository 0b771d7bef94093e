-- Counts of a table, by document 02, request 4: its own and those of its entries, over whole lists of calls from the fresh one.
use Rattle.std.specs.Prelude.{◌≡◌, Bool, true, false, cond, not, ◌&&◌, List, [], ◌∷◌, ℕ, ◌+◌, ◌%◌, length}
use Rattle.rules.specs.Limits.{count_limit}
use Rattle.rules.specs.Answers.{among, answer_number}
use Rattle.rules.specs.Table.{fresh_table}
use Rattle.rules.specs.TableCalls.{TableCall, to_seal, to_open, to_add, to_remove, table_run, call_at, table_answer_at, NoneLost}
use Rattle.rules.specs.Counts.{how_many}
use Rattle.rules.specs.TableDemand1.{uncounted, counted_by_table}
use Rattle.rules.specs.declared.Entry.{Entry}
use Rattle.rules.specs.declared.Table.{Table}

-- the counts of an entry in use, and of all entries
abbrev pub entry_counts : Entry → ℕ
entry_counts e =
    let c = e.receiver.counts in
    cond e.used (c.format_errors + c.replays + c.decrypt_errors + c.opened) 0

abbrev pub all_counts : List Entry → ℕ
all_counts [] = 0
all_counts (e ∷ es) = entry_counts e + all_counts es

abbrev pub is_opening : TableCall → Bool
is_opening (to_seal keyId c) = false
is_opening (to_open c) = true
is_opening (to_add x) = false
is_opening (to_remove x) = false

-- how many opening calls of cs on the fresh table have an answer that passes b
abbrev pub openings_with : List TableCall → (ℕ → Bool) → ℕ
openings_with cs b = how_many (length cs) (λ j. is_opening (call_at cs j) && b (answer_number (table_answer_at fresh_table cs j)))

-- the table's format count is the opening calls answered 2, 3, 4, 5 or 8; and while no entry is removed or restarted, all counts together
-- are the opening calls not answered 1, 6 or 15; modulo 2^32
pub record TableCounts (cs : List TableCall) (t : Table) : Type 0 where
  pub format_errors : t.format_errors ≡ openings_with cs (among counted_by_table) % count_limit
  pub together :
      NoneLost fresh_table cs
      → (t.format_errors + all_counts t.entries) % count_limit ≡ openings_with cs (λ a. not (among uncounted a)) % count_limit

abbrev pub TableCounted : Type 0
TableCounted = (cs : List TableCall) → TableCounts cs (table_run fresh_table cs)
