-- An entry between its changes: a call on the table is a call on its sender, a call on its receiver, or leaves it as it was.
use mathlib.Core.Path.{◌≡◌, refl, sym, ap, ◌∙◌}
use mathlib.Core.Bool.{Bool, true, false, cond, ◌&&◌, true≢false}
use mathlib.Core.List.{List, [], ◌∷◌}
use Prim.Native.Nat.{ℕ, zero, suc, ◌<◌}
use native.Mathlib.Omega.{arith}
use borrow.Author.Tests.{eqb-true, eqb-false}
use lib.Dec.{eqb}
use lib.ListN.{length, take}
use lib.Seq.{take-length, get_or-set_same, get_or-set_other}
use Rattle.octets.proofs.Booleans.{both}
use Rattle.rules.specs.Records.{sender_next, receiver_next}
use Rattle.rules.specs.Answers.{Answer, Done, Refused, answer_number}
use Rattle.rules.specs.Sealing.{seal_answer, seal_next, seal_output}
use Rattle.rules.specs.Opening.{open_answer, open_next, open_output}
use Rattle.rules.specs.Calls.{Call, open_run}
use Rattle.rules.specs.Sending.{sealing, send_next, send_run}
use Rattle.rules.specs.Table.{sender_of, with_sender, with_receiver, free_entry, entry_at, put, place_of}
use Rattle.rules.specs.Adding.{add_place, add_answer, put_if, remove_answer}
use Rattle.rules.specs.Serving.{seal_place, table_seal_tests, seal_comes, table_seal_answer, sealed_at, table_seal_next, table_seal_output, open_place, table_open_tests, open_comes, table_open_answer, opened_at, format_counted, table_open_next, table_open_output}
use Rattle.rules.specs.TableCalls.{TableCall, to_seal, to_open, to_add, to_remove, lent, table_answer, table_next, table_output, table_run, call_at, before, seals_at, opens_at, own_sealings, own_openings, changes, Unchanged}
use Rattle.rules.specs.Tables.{as_made, Projection}
use Rattle.rules.specs.declared.Entry.{Entry}
use Rattle.rules.specs.declared.Table.{Table}
use Rattle.rules.proofs.Passing.{all_done}
use Rattle.rules.proofs.States.{Runs}
use Rattle.rules.proofs.Searching.{seal_comes_lem, open_comes_lem}

-- a call that comes to its entry is the entry's own
module _ (t : Table) (keyId : ℕ) (f room : List ℕ) (comes : seal_comes t keyId f room ≡ true) where
  pub seal_answer_is : table_seal_answer t keyId f room ≡ seal_answer (sender_of (entry_at t (seal_place t keyId f))) f room
  unfolding table_seal_answer
  seal_answer_is = all_done (table_seal_tests t keyId f (length room)) _ comes

  pub seal_output_is : table_seal_output t keyId f room ≡ seal_output (sender_of (entry_at t (seal_place t keyId f))) f room
  unfolding table_seal_output
  seal_output_is = rw comes

module _ (t : Table) (f room : List ℕ) (comes : open_comes t f room ≡ true) where
  pub open_answer_is : table_open_answer t f room ≡ open_answer (entry_at t (open_place t f)).receiver f room
  unfolding table_open_answer
  open_answer_is = all_done (table_open_tests t f (length room)) _ comes

  pub open_output_is : table_open_output t f room ≡ open_output (entry_at t (open_place t f)).receiver f room
  unfolding table_open_output
  open_output_is = rw comes

-- what a call leaves of an entry whose sender it is on, whose receiver it is on, or neither
abbrev pub served : Bool → Bool → Entry → Call → Entry
served seals opens e c =
    with_receiver (with_sender e (cond seals (seal_next (sender_of e) c.frame c.room) (sender_of e)))
    (cond opens (open_next e.receiver c.frame c.room) e.receiver)

module _ (e : Entry) (c : Call) where
  pub served_made : (seals opens : Bool) → as_made (served seals opens e c) ≡ as_made e
  unfolding receiver_next
  served_made seals true = refl
  served_made seals false = refl

  sender_back : (a : Answer) → sender_of (with_sender e (sender_next (sender_of e) a)) ≡ sender_next (sender_of e) a
  unfolding sender_next
  sender_back (Done n p k) = refl
  sender_back (Refused b) = refl

  pub served_sender : (seals opens : Bool) → sender_of (served seals opens e c) ≡ cond seals (seal_next (sender_of e) c.frame c.room) (sender_of e)
  unfolding receiver_next
  served_sender true true = sender_back (seal_answer (sender_of e) c.frame c.room)
  served_sender true false = sender_back (seal_answer (sender_of e) c.frame c.room)
  served_sender false true = refl
  served_sender false false = refl

-- the entry at place i, where adding or removing writes another place
put_other : (t : Table) (place i : ℕ) (e : Entry) (a : Answer) → eqb (answer_number a) 0 && eqb place i ≡ false
    → entry_at (put_if a t place e) i ≡ entry_at t i
put_other t place i e (Done n p k) h = get_or-set_other t.entries place i e free_entry (λ q. eqb-false place i h (sym q))
put_other t place i e (Refused a) h = refl

-- and where an entry, at place i or another, is moved by g
put_moved : (t : Table) (place i : ℕ) (g : Bool → Entry → Entry) → ((e : Entry) → g false e ≡ e) → place < length t.entries
    → entry_at (put t place (g true (entry_at t place))) i ≡ g (eqb place i) (entry_at t i)
put_moved t place i g still below = go (eqb place i) refl
  where
    go : (b : Bool) → eqb place i ≡ b → entry_at (put t place (g true (entry_at t place))) i ≡ g b (entry_at t i)
    go true h = rw (← eqb-true place i h) (get_or-set_same t.entries place _ free_entry below)
    go false h = get_or-set_other t.entries place i _ free_entry (λ q. eqb-false place i h (sym q)) ∙ sym (still (entry_at t i))

-- one call on the table, seen from place i
module _ (t : Table) (i : ℕ) where
  pub step : (c : TableCall) → changes t i c ≡ false → entry_at (table_next t c) i ≡ served (seals_at t i c) (opens_at t i c) (entry_at t i) (lent c)
  unfolding table_seal_next table_open_next
  step (to_seal keyId c) h = go (seal_comes t keyId c.frame c.room) refl
    where
      go : (b : Bool) → seal_comes t keyId c.frame c.room ≡ b → let place = seal_place t keyId c.frame in
          entry_at (cond b (sealed_at t place c.frame c.room) t) i ≡ served (b && eqb place i) false (entry_at t i) c
      go true p =
          put_moved t (seal_place t keyId c.frame) i (λ b e. served b false e c) (λ e. refl) (seal_comes_lem t keyId c.frame c.room p).below
      go false p = refl
  step (to_open c) h = go (open_comes t c.frame c.room) refl
    where
      go : (b : Bool) → open_comes t c.frame c.room ≡ b → let place = open_place t c.frame in
          entry_at (cond b (opened_at t place c.frame c.room) (format_counted t (table_open_answer t c.frame c.room))) i
          ≡ served false (b && eqb place i) (entry_at t i) c
      go true p = put_moved t (open_place t c.frame) i (λ b e. served false b e c) (λ e. refl) (open_comes_lem t c.frame c.room p).below
      go false p = refl
  step (to_add x) h = put_other t (add_place t x.triple) i _ (add_answer t x) h
  step (to_remove x) h = put_other t (place_of t x) i free_entry (remove_answer t x) h

  module _ (c : TableCall) (same : changes t i c ≡ false) where
    pub step_made : as_made (entry_at (table_next t c) i) ≡ as_made (entry_at t i)
    step_made = ap as_made (step c same) ∙ served_made (entry_at t i) (lent c) (seals_at t i c) (opens_at t i c)

    step_sender : let s = sender_of (entry_at t i) in
        sender_of (entry_at (table_next t c) i) ≡ cond (seals_at t i c) (seal_next s (lent c).frame (lent c).room) s
    step_sender = ap sender_of (step c same) ∙ served_sender (entry_at t i) (lent c) (seals_at t i c) (opens_at t i c)

    pub step_receiver : let r = (entry_at t i).receiver in
        (entry_at (table_next t c) i).receiver ≡ cond (opens_at t i c) (open_next r (lent c).frame (lent c).room) r
    step_receiver = ap (λ e. e.receiver) (step c same)

  -- a call that comes to the entry has the record's own answer and output
  own_sealing : (c : TableCall) → seals_at t i c ≡ true → let s = sender_of (entry_at t i) in
      (table_answer t c ≡ seal_answer s (lent c).frame (lent c).room) × (table_output t c ≡ seal_output s (lent c).frame (lent c).room)
  own_sealing (to_seal keyId c) h =
      let q = both (seal_comes t keyId c.frame c.room) (eqb (seal_place t keyId c.frame) i) h in
      rw (← eqb-true (seal_place t keyId c.frame) i q.1)
      (seal_answer_is t keyId c.frame c.room q.0, seal_output_is t keyId c.frame c.room q.0)
  own_sealing (to_open c) h = absurd (true≢false (sym h))
  own_sealing (to_add x) h = absurd (true≢false (sym h))
  own_sealing (to_remove x) h = absurd (true≢false (sym h))

  pub own_opening : (c : TableCall) → opens_at t i c ≡ true → let r = (entry_at t i).receiver in
      (table_answer t c ≡ open_answer r (lent c).frame (lent c).room) × (table_output t c ≡ open_output r (lent c).frame (lent c).room)
  own_opening (to_open c) h =
      let q = both (open_comes t c.frame c.room) (eqb (open_place t c.frame) i) h in
      rw (← eqb-true (open_place t c.frame) i q.1) (open_answer_is t c.frame c.room q.0, open_output_is t c.frame c.room q.0)
  own_opening (to_seal keyId c) h = absurd (true≢false (sym h))
  own_opening (to_add x) h = absurd (true≢false (sym h))
  own_opening (to_remove x) h = absurd (true≢false (sym h))

pub table_runs : Runs table_next table_run
table_runs = record { ends = λ t. refl; goes_on = λ t c cs. refl }

-- a run over calls of which the first is made or not
run_if : {S C : Type 0} (run : S → List C → S) (next : S → C → S) → ((s : S) (c : C) (cs : List C) → run s (c ∷ cs) ≡ run (next s c) cs)
    → (b : Bool) (s : S) (c : C) (cs : List C) → run (cond b (next s c) s) cs ≡ run s (cond b (c ∷ cs) cs)
run_if run next first true s c cs = sym (first s c cs)
run_if run next first false s c cs = refl

-- a part of the entry at place i that no calls but `own` move, before each call of a list
module _ {S C : Type 0} (part : Entry → S) (run : S → List C → S) (own : Table → List TableCall → List C) (i : ℕ)
    (none : (s : S) (t : Table) → run s (own t []) ≡ s)
    (first :
    (t : Table) (c : TableCall) (cs : List TableCall) → changes t i c ≡ false
    → run (part (entry_at (table_next t c) i)) (own (table_next t c) cs) ≡ run (part (entry_at t i)) (own t (c ∷ cs))) where
  along : (t : Table) (cs : List TableCall) → Unchanged t i cs → (j : ℕ)
      → part (entry_at (before t cs j) i) ≡ run (part (entry_at t i)) (own t (take j cs))
  along t cs u zero = sym (none (part (entry_at t i)) t)
  along t [] u (suc j) = sym (none (part (entry_at t i)) t)
  along t (c ∷ cs) u (suc j) = along (table_next t c) cs (λ k l. u (suc k) (omega arith)) j ∙ first t c (take j cs) (u 0 (omega arith))

module _ (t : Table) (i : ℕ) (cs : List TableCall) (same : Unchanged t i cs) where
  made_at : (j : ℕ) → as_made (entry_at (before t cs j) i) ≡ as_made (entry_at t i)
  made_at = along as_made (λ e own. e) (λ t. own_openings t i) i (λ e t. refl) (λ t c cs h. step_made t i c h) t cs same

  sender_at : (j : ℕ) → sender_of (entry_at (before t cs j) i) ≡ send_run (sender_of (entry_at t i)) (own_sealings t i (take j cs))
  sender_at =
      along sender_of send_run (λ t. own_sealings t i) i (λ s t. refl)
      (λ t c cs h.
      let later = own_sealings (table_next t c) i cs in
      ap (λ s. send_run s later) (step_sender t i c h)
      ∙ run_if send_run send_next (λ s c cs. refl) (seals_at t i c) (sender_of (entry_at t i)) (sealing (lent c)) later)
      t cs same

  receiver_at : (j : ℕ) → (entry_at (before t cs j) i).receiver ≡ open_run (entry_at t i).receiver (own_openings t i (take j cs))
  receiver_at =
      along (λ e. e.receiver) open_run (λ t. own_openings t i) i (λ r t. refl)
      (λ t c cs h.
      let later = own_openings (table_next t c) i cs in
      ap (λ r. open_run r later) (step_receiver t i c h)
      ∙ run_if open_run (λ r c. open_next r c.frame c.room) (λ r c cs. refl) (opens_at t i c) (entry_at t i).receiver (lent c) later)
      t cs same

pub projection : Projection
projection t i cs same =
    record {
      as_made_lem = rw take-length at (made_at t i cs same (length cs));
      sender_is = rw take-length at (sender_at t i cs same (length cs));
      receiver_is = rw take-length at (receiver_at t i cs same (length cs));
      sealing-is = λ j l h. rw (← sender_at t i cs same j) (own_sealing (before t cs j) i (call_at cs j) h);
      opening-is = λ j l h. rw (← receiver_at t i cs same j) (own_opening (before t cs j) i (call_at cs j) h);
    }
