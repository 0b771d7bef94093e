-- Demand 1 for a table: its calls give their numbers alone, a refusal keeps the output, and of the table moves only what opening counts.
use mathlib.Core.Path.{◌≡◌, refl, sym, ap, ◌∙◌}
use mathlib.Core.Bool.{Bool, true, false, cond, not, ◌&&◌, ◌||◌, true≢false}
use mathlib.Core.List.{List, [], ◌∷◌, ◌++◌}
use Prim.Native.Nat.{ℕ}
use borrow.Author.Tests.{eqb-true, not-true}
use lib.Dec.{eqb}
use lib.ListN.{length}
use lib.Seq.{set-get_or}
use Rattle.octets.proofs.Booleans.{both}
use Rattle.rules.specs.Records.{sender_next, format_count, count_of, counted}
use Rattle.rules.specs.Answers.{Answer, Done, Refused, Test, among, answer_number, first_that_applies}
use Rattle.rules.specs.Tests.{spent_test}
use Rattle.rules.specs.Opening.{open_answer}
use Rattle.rules.specs.Demand1.{one_more}
use Rattle.rules.specs.Table.{free_entry, entry_at, put}
use Rattle.rules.specs.Adding.{add_tests, add_answer, remove_tests, remove_answer}
use Rattle.rules.specs.Serving.{seal_place, table_seal_tests, seal_comes, table_seal_answer, sealed_at, table_seal_next, table_seal_output, open_place, table_open_tests, open_comes, table_open_answer, opened_at, format_counted, table_open_next, table_open_output}
use Rattle.rules.specs.TableDemand1.{table_seal_numbers, table_open_numbers, add_numbers, remove_numbers, uncounted, counted_by_table, counted_by_entry, TableKeeps, TableOpeningKeeps, TableDemand1}
use Rattle.rules.specs.declared.Entry.{Entry}
use Rattle.rules.specs.declared.Table.{Table}
use Rattle.rules.proofs.Passing.{any_done}
use Rattle.rules.proofs.Moves.{moves, has, agree_first}
use Rattle.rules.proofs.Demand1.{one_more_lem, numbered}
use Rattle.rules.proofs.Projecting.{seal_answer_is, open_answer_is}
use Rattle.rules.proofs.Found.{open_left, sealed_done, opened_done, seal_written, open_written, open_left_lem, table_seal_order, table_open_order}

-- a number of one list is not in a list that has none of its numbers
abbrev disjoint : List ℕ → List ℕ → Bool
disjoint [] ns = true
disjoint (m ∷ ms) ns = not (among ns m) && disjoint ms ns

not_in : (ms ns : List ℕ) (a : ℕ) → disjoint ms ns ≡ true → among ms a ≡ true → among ns a ≡ false
not_in [] ns a d h = absurd (true≢false (sym h))
not_in (m ∷ ms) ns a d h = go (eqb a m) refl (not_in ms ns a (both (not (among ns m)) (disjoint ms ns) d).1) h
  where
    go : (b : Bool) → eqb a m ≡ b → (among ms a ≡ true → among ns a ≡ false) → b || among ms a ≡ true → among ns a ≡ false
    go true e later h = rw (eqb-true a m e) (not-true _ (both (not (among ns m)) (disjoint ms ns) d).0)
    go false e later h = later h

-- one opening call
module _ (t : Table) (f room : List ℕ) where
  abbrev tests : List Test
  tests = table_open_tests t f (length room)

  abbrev a : Answer
  a = table_open_answer t f room

  -- a call that doesn't come to its entry, or does
  pub early_answer : open_comes t f room ≡ false → a ≡ first_that_applies tests (Refused 15)
  unfolding table_open_answer
  early_answer e = any_done tests (open_answer (entry_at t (open_place t f)).receiver f room) (Refused 15) e

  early : open_comes t f room ≡ false → among (uncounted ++ counted_by_table) (answer_number a) ≡ true
  early e = rw (early_answer e) (numbered (uncounted ++ counted_by_table) tests (Refused 15) tt tt)

  late : open_comes t f room ≡ true → among counted_by_entry (answer_number a) ≡ true
  late e =
      rw (open_answer_is t f room e, open_left_lem t f room e)
      (numbered counted_by_entry (open_left (entry_at t (open_place t f)) f) (opened_done f) tt tt)

  -- the table's own count
  counted_as : open_comes t f room ≡ false
      → counted format_count (count_of a) t.format_errors ≡ one_more counted_by_table (answer_number a) t.format_errors
  unfolding count_of
  counted_as e =
      one_more_lem format_count counted_by_table a t.format_errors
      (rw (early_answer e) (agree_first (moves format_count) (has counted_by_table) tests (Refused 15) tt tt))

  pub format_moved : (table_open_next t f room).format_errors ≡ one_more counted_by_table (answer_number a) t.format_errors
  unfolding table_open_next
  format_moved = go (open_comes t f room) refl
    where
      go : (b : Bool) → open_comes t f room ≡ b
          → (cond b (opened_at t (open_place t f) f room) (format_counted t a)).format_errors
          ≡ one_more counted_by_table (answer_number a) t.format_errors
      go true e = rw (not_in counted_by_entry counted_by_table (answer_number a) refl (late e))
      go false e = counted_as e

  -- an answer that is none of the entry's moves nothing else
  table_alone : (ns : List ℕ) → disjoint counted_by_entry ns ≡ true → among ns (answer_number a) ≡ true
      → table_open_next t f room ≡ record { entries = t.entries; format_errors = one_more counted_by_table (answer_number a) t.format_errors }
  unfolding table_open_next
  table_alone ns other h = go (open_comes t f room) refl
    where
      go : (b : Bool) → open_comes t f room ≡ b
          → cond b (opened_at t (open_place t f) f room) (format_counted t a)
          ≡ record { entries = t.entries; format_errors = one_more counted_by_table (answer_number a) t.format_errors }
      go true e = absurd (true≢false (sym h ∙ not_in counted_by_entry ns (answer_number a) other (late e)))
      go false e = ap (λ v. record { entries = t.entries; format_errors = v }) (counted_as e)

  entry_alone : among counted_by_entry (answer_number a) ≡ true → table_open_next t f room ≡ opened_at t (open_place t f) f room
  unfolding table_open_next
  entry_alone h = go (open_comes t f room) refl
    where
      go : (b : Bool) → open_comes t f room ≡ b
          → cond b (opened_at t (open_place t f) f room) (format_counted t a) ≡ opened_at t (open_place t f) f room
      go true e = refl
      go false e = absurd (true≢false (sym h ∙ not_in (uncounted ++ counted_by_table) counted_by_entry (answer_number a) refl (early e)))

  opening_keeps : TableOpeningKeeps t f room a (table_open_next t f room) (table_open_output t f room)
  opening_keeps =
      record {
        numbered =
            rw (table_open_order t f room)
            (numbered table_open_numbers (tests ++ open_left (entry_at t (open_place t f)) f) (opened_done f) tt tt);
        none_moved = λ h. table_alone uncounted refl h ∙ rw (not_in uncounted counted_by_table (answer_number a) refl h);
        table-moved = λ h. table_alone counted_by_table refl h ∙ rw h;
        entry_moved = entry_alone;
        output_kept = λ x e. open_written t f room ∙ rw e;
      }

-- an entry written where it stands
put_back : (t : Table) (i : ℕ) → put t i (entry_at t i) ≡ t
put_back t i = ap (λ es. record { entries = es; format_errors = t.format_errors }) (set-get_or t.entries i free_entry)

sealing_keeps : (t : Table) (keyId : ℕ) (f room : List ℕ)
    → TableKeeps table_seal_numbers t room (table_seal_answer t keyId f room) (table_seal_next t keyId f room) (table_seal_output t keyId f room)
unfolding table_seal_next sender_next
sealing_keeps t keyId f room =
    record {
      numbered =
          rw (table_seal_order t keyId f room)
          (numbered table_seal_numbers (table_seal_tests t keyId f (length room) ++ spent_test e.last) (sealed_done e f) tt tt);
      table_kept = λ x q. kept x q (seal_comes t keyId f room) refl;
      output_kept = λ x q. seal_written t keyId f room ∙ rw q;
    }
  where
    e : Entry
    e = entry_at t (seal_place t keyId f)

    kept : (x : ℕ) → table_seal_answer t keyId f room ≡ Refused x → (b : Bool) → seal_comes t keyId f room ≡ b
        → cond b (sealed_at t (seal_place t keyId f) f room) t ≡ t
    kept x q true h = rw (sym (seal_answer_is t keyId f room h) ∙ q) (put_back t (seal_place t keyId f))
    kept x q false h = refl

pub table_demand_1 : TableDemand1
unfolding add_answer remove_answer
table_demand_1 = (
  sealing_keeps,
  opening_keeps,
  (λ t x. record { numbered = numbered add_numbers (add_tests t x) (Done 0 0 0) tt tt; table_kept = λ a e. rw e; output_kept = λ a e. refl }),
  (λ t x. record { numbered = numbered remove_numbers (remove_tests t x) (Done 0 0 0) tt tt; table_kept = λ a e. rw e; output_kept = λ a e. refl }),
)
