-- The counts of a table: each opening call not answered 1, 6 or 15 moves one of them by one, and while no entry is lost nothing else moves any.
use mathlib.Core.Path.{◌≡◌, refl, ap, ◌∙◌}
use mathlib.Core.Bool.{Bool, true, false, cond, not, ◌&&◌, true≢false}
use mathlib.Core.List.{List, [], ◌∷◌}
use Prim.Native.Nat.{ℕ, zero, suc, ◌+◌, ◌%◌, ◌<◌}
use native.Mathlib.Nat.{not-suc-le-zero, le_of_suc-le-suc}
use native.Mathlib.Omega.{arith}
use borrow.Author.Tests.{not-true}
use lib.Dec.{eqb}
use lib.ListN.{length, get_or, set}
use lib.Seq.{take-length}
use Rattle.rules.specs.Limits.{count_limit}
use Rattle.rules.specs.Records.{format_count, replay_count, decrypt_count, opened_count, count_of, counted, receiver_next}
use Rattle.rules.specs.Answers.{Answer, Done, Refused, among, answer_number}
use Rattle.rules.specs.Opening.{open_answer, open_next}
use Rattle.rules.specs.Counts.{bit}
use Rattle.rules.specs.Calls.{no_call}
use Rattle.rules.specs.Table.{with_receiver, new_entry, free_entry, fresh_table, entry_at, put, is_free, is_place, place_of}
use Rattle.rules.specs.Adding.{free_place, add_place, add_answer, put_if, add_next, remove_answer, remove_next}
use Rattle.rules.specs.Serving.{seal_place, seal_comes, sealed_at, table_seal_next, open_place, table_open_tests, open_comes, table_open_answer, opened_at, format_counted, table_open_next}
use Rattle.rules.specs.TableCalls.{TableCall, to_seal, to_open, to_add, to_remove, table_answer, table_next, table_run, call_at, before, table_answer_at, loses}
use Rattle.rules.specs.TableDemand1.{uncounted, counted_by_table}
use Rattle.rules.specs.TableCounts.{entry_counts, all_counts, is_opening, openings_with, TableCounted}
use Rattle.rules.specs.declared.Entry.{Entry}
use Rattle.rules.specs.declared.Table.{Table}
use Rattle.rules.specs.declared.Triple.{Triple}
use Rattle.rules.specs.declared.Pairing.{Pairing}
use Rattle.rules.proofs.Moves.{moves, total, has_not, agree_first, agree}
use Rattle.rules.proofs.States.{run_suc}
use Rattle.rules.proofs.Tallies.{◌≈◌, sums, plus_one, tally_from_zero}
use Rattle.rules.proofs.Searching.{first_passes, seal_comes_lem, open_comes_lem}
use Rattle.rules.proofs.Projecting.{open_answer_is, table_runs}
use Rattle.rules.proofs.Sound.{add_done}
use Rattle.rules.proofs.TableDemand1.{early_answer, format_moved}

-- a count after an answer that moves it or not, and the four of a receiver
count_moved : (c m v : ℕ) → counted c m v ≈ v + bit (eqb m c)
count_moved c m v = go (eqb m c)
  where
    go : (b : Bool) → cond b ((v + 1) % count_limit) v ≈ v + bit b
    go true = omega arith
    go false = omega arith

four_moved : (a : Answer) (v₁ v₂ v₃ v₄ : ℕ) → let m = count_of a in
    counted format_count m v₁ + counted replay_count m v₂ + counted decrypt_count m v₃ + counted opened_count m v₄ ≈ v₁ + v₂ + v₃ + v₄ + total a
four_moved a v₁ v₂ v₃ v₄ =
    let m = count_of a in
    let two = sums _ _ _ _ (count_moved format_count m v₁) (count_moved replay_count m v₂) in
    let three = sums _ _ _ _ two (count_moved decrypt_count m v₃) in
    let sorted : v₁ + moves format_count a + (v₂ + moves replay_count a) + (v₃ + moves decrypt_count a) + (v₄ + moves opened_count a) ≡ v₁ + v₂ + v₃ + v₄ + total a
    = omega arith in
    sums _ _ _ _ three (count_moved opened_count m v₄) ∙ ap (λ (n : ℕ). n % count_limit) sorted

-- all counts, and those where a place is written
abbrev all : Table → ℕ
all t = t.format_errors + all_counts t.entries

counts_put : (es : List Entry) (i : ℕ) (e : Entry) → i < length es
    → all_counts (set es i e) + entry_counts (get_or es i free_entry) ≡ all_counts es + entry_counts e
counts_put [] i e l = absurd (not-suc-le-zero l)
counts_put (x ∷ es) zero e l = omega arith
counts_put (x ∷ es) (suc i) e l = let h = counts_put es i e (le_of_suc-le-suc l) in omega arith

put_moved : (t : Table) (i n : ℕ) (e : Entry) → i < length t.entries → entry_counts e ≈ entry_counts (entry_at t i) + n → all (put t i e) ≈ all t + n
put_moved t i n e l h =
    go t.format_errors (all_counts (set t.entries i e)) (entry_counts (entry_at t i)) (all_counts t.entries) (entry_counts e)
    (counts_put t.entries i e l) h
  where
    go : (v x c y c' : ℕ) → x + c ≡ y + c' → c' ≈ c + n → v + x ≈ v + y + n
    go v x c y c' p q = omega arith

-- a sum that moves by one or not, as a count does
as_count : (x y : ℕ) (b : Bool) → y ≈ x + bit b → y % count_limit ≡ cond b (plus_one (x % count_limit)) (x % count_limit)
as_count x y true e = omega arith
as_count x y false e = omega arith

-- one call that loses no entry
module _ (t : Table) where
  seal_counts : (keyId : ℕ) (f room : List ℕ) → all (table_seal_next t keyId f room) ≈ all t + 0
  unfolding table_seal_next
  seal_counts keyId f room = go (seal_comes t keyId f room) refl
    where
      go : (b : Bool) → seal_comes t keyId f room ≡ b → all (cond b (sealed_at t (seal_place t keyId f) f room) t) ≈ all t + 0
      go true h = put_moved t (seal_place t keyId f) 0 _ (seal_comes_lem t keyId f room h).below (omega arith)
      go false h = omega arith

  -- an opening call moves the table's count, one of the entry's, or none
  open_counts : (f room : List ℕ) → all (table_open_next t f room) ≈ all t + has_not uncounted (table_open_answer t f room)
  unfolding table_open_next receiver_next count_of
  open_counts f room = go (open_comes t f room) refl
    where
      a : Answer
      a = table_open_answer t f room

      e : Entry
      e = entry_at t (open_place t f)

      go : (b : Bool) → open_comes t f room ≡ b
          → all (cond b (opened_at t (open_place t f) f room) (format_counted t (table_open_answer t f room)))
          ≈ all t + has_not uncounted (table_open_answer t f room)
      go true h =
          let found = open_comes_lem t f room h in
          let r = e.receiver in
          let c = r.counts in
          let once : total (open_answer r f room) ≡ has_not uncounted (open_answer r f room) = agree r f room total (has_not uncounted) tt tt in
          rw (open_answer_is t f room h, ← once)
          (put_moved t (open_place t f) _ (with_receiver e (open_next r f room)) found.below
          (rw found.is_for_lem.used (four_moved (open_answer r f room) c.format_errors c.replays c.decrypt_errors c.opened)))
      go false h =
          let v = t.format_errors in
          let n = all_counts t.entries in
          let once : moves format_count a ≡ has_not uncounted a
          = rw (early_answer t f room h) (agree_first (moves format_count) (has_not uncounted) (table_open_tests t f (length room)) (Refused 15) tt tt) in
          sums (counted format_count (count_of a) v) n (v + moves format_count a) n (count_moved format_count (count_of a) v) refl
          ∙ ap (λ (x : ℕ). x % count_limit) (let z : v + moves format_count a + n ≡ v + n + has_not uncounted a = omega arith in z)

  add_counts : (x : Pairing) → loses t (to_add x) ≡ false → all (add_next t x) ≈ all t + 0
  unfolding add_place
  add_counts x = go (add_answer t x) refl
    where
      go : (a : Answer) → add_answer t x ≡ a → eqb (answer_number a) 0 && is_place t (place_of t x.triple) ≡ false
          → all (put_if a t (add_place t x.triple) (new_entry x)) ≈ all t + 0
      go (Done n p k) e h =
          let is : add_place t x.triple ≡ free_place t = rw h in
          let within = (add_done t x n p k e).within in
          let free : (entry_at t (free_place t)).used ≡ false = not-true _ (first_passes is_free t.entries (rw is at within)) in
          put_moved t (add_place t x.triple) 0 (new_entry x) within (rw (is, free))
      go (Refused b) e h = omega arith

  remove_counts : (x : Triple) → loses t (to_remove x) ≡ false → all (remove_next t x) ≈ all t + 0
  remove_counts x = go (remove_answer t x)
    where
      go : (a : Answer) → eqb (answer_number a) 0 ≡ false → all (put_if a t (place_of t x) free_entry) ≈ all t + 0
      go (Done n p k) h = absurd (true≢false h)
      go (Refused b) h = omega arith

  step_counts : (c : TableCall) → loses t c ≡ false
      → all (table_next t c) ≈ all t + bit (is_opening c && not (among uncounted (answer_number (table_answer t c))))
  step_counts (to_seal keyId c) h = seal_counts keyId c.frame c.room
  step_counts (to_open c) h = open_counts c.frame c.room
  step_counts (to_add x) h = add_counts x h
  step_counts (to_remove x) h = remove_counts x h

  step_all : (c : TableCall) → loses t c ≡ false → let v = all t % count_limit in
      all (table_next t c) % count_limit ≡ cond (is_opening c && not (among uncounted (answer_number (table_answer t c)))) (plus_one v) v
  step_all c h = as_count (all t) (all (table_next t c)) (is_opening c && not (among uncounted (answer_number (table_answer t c)))) (step_counts c h)

  -- the table's own count moves by opening alone
  put_format : (i : ℕ) (e : Entry) (a : Answer) → (put_if a t i e).format_errors ≡ t.format_errors
  put_format i e (Done n p k) = refl
  put_format i e (Refused b) = refl

  step_format : (c : TableCall) → let v = t.format_errors in
      (table_next t c).format_errors ≡ cond (is_opening c && among counted_by_table (answer_number (table_answer t c))) (plus_one v) v
  unfolding table_seal_next
  step_format (to_seal keyId c) = go (seal_comes t keyId c.frame c.room)
    where
      go : (b : Bool) → (cond b (sealed_at t (seal_place t keyId c.frame) c.frame c.room) t).format_errors ≡ t.format_errors
      go true = refl
      go false = refl
  step_format (to_open c) = format_moved t c.frame c.room
  step_format (to_add x) = put_format (add_place t x.triple) (new_entry x) (add_answer t x)
  step_format (to_remove x) = put_format (place_of t x) free_entry (remove_answer t x)

-- what is 0 at first and moves so with the opening calls whose answers pass b
tallied : (cs : List TableCall) (b : ℕ → Bool) (v : Table → ℕ) → v fresh_table ≡ 0
    → ((j : ℕ) → j < length cs → let t = before fresh_table cs j in
    v (table_next t (call_at cs j)) ≡ cond (is_opening (call_at cs j) && b (answer_number (table_answer_at fresh_table cs j))) (plus_one (v t)) (v t))
    → v (table_run fresh_table cs) ≡ openings_with cs b % count_limit
tallied cs b v start step =
    rw take-length at
    (tally_from_zero (length cs) (λ j. is_opening (call_at cs j) && b (answer_number (table_answer_at fresh_table cs j)))
    (λ j. v (before fresh_table cs j)) start
    (λ j l. rw (run_suc table_runs (to_open no_call) fresh_table cs j l) (step j l)))

pub table_counted : TableCounted
unfolding fresh_table
table_counted cs =
    record {
      format_errors = tallied cs (among counted_by_table) (λ t. t.format_errors) refl (λ j l. step_format (before fresh_table cs j) (call_at cs j));
      together =
          λ h.
          tallied cs (λ a. not (among uncounted a)) (λ t. all t % count_limit) refl
          (λ j l. step_all (before fresh_table cs j) (call_at cs j) (h j l));
    }
