-- Demand 1: the tests of a call give its numbers alone, and what a refusal keeps is what the definitions of the record and the output say.
use mathlib.Core.Path.{◌≡◌, refl, ap}
use mathlib.Core.Bool.{Bool, true, false, cond}
use mathlib.Core.List.{List}
use Prim.Native.Nat.{ℕ, ◌+◌, ◌-◌, ◌%◌}
use native.Mathlib.Omega.{arith}
use borrow.Author.Tests.{ne_eqb}
use lib.Dec.{T, eqb}
use lib.ListN.{length}
use Rattle.rules.specs.Limits.{count_limit}
use Rattle.rules.specs.Header.{priority}
use Rattle.rules.specs.Nonce.{number}
use Rattle.rules.specs.Mode.{added}
use Rattle.rules.specs.Records.{sender_next, format_count, replay_count, decrypt_count, opened_count, count_of, counted, receiver_next}
use Rattle.rules.specs.Answers.{Answer, Done, Test, among, answer_number, first_that_applies}
use Rattle.rules.specs.Sealing.{seal_tests, seal_answer, seal_output}
use Rattle.rules.specs.Opening.{open_tests, open_answer, open_output}
use Rattle.rules.specs.Splitting.{fragments, sealed_length, split_tests, split_answer, splitter_next, split_output}
use Rattle.rules.specs.Joining.{fresh_joiner, returned, join_tests, join_answer, joiner_next, join_output}
use Rattle.rules.specs.Counts.{bit}
use Rattle.rules.specs.Demand1.{seal_numbers, split_numbers, join_numbers, open_numbers, format_answers, replay_answers, decrypt_answers, opened_answers, one_more, Demand1}
use Rattle.rules.specs.declared.Sender.{Sender}
use Rattle.rules.specs.declared.Receiver.{Receiver}
use Rattle.rules.specs.declared.Joiner.{Joiner}
use Rattle.rules.proofs.Passing.{of_each, of_first}
use Rattle.rules.proofs.Moves.{moves, has, each_moves}

is_true : (b : Bool) → T b → b ≡ true
is_true true t = refl
is_true false t = absurd t

same_bit : (a b : Bool) → bit a ≡ bit b → a ≡ b
same_bit true true e = refl
same_bit true false e = absurd (omega arith)
same_bit false true e = absurd (omega arith)
same_bit false false e = refl

pub one_more_lem : (c : ℕ) (ns : List ℕ) (a : Answer) (v : ℕ) → moves c a ≡ has ns a → counted c (count_of a) v ≡ one_more ns (answer_number a) v
one_more_lem c ns a v e =
    ap (λ (b : Bool). cond b ((v + 1) % count_limit) v) (same_bit (eqb (count_of a) c) (among ns (answer_number a)) e)

-- the answers of a list of tests have these numbers where each test's does, and done
pub numbered : (ns : List ℕ) (ts : List Test) (d : Answer) → T (of_each (λ a. among ns (answer_number a)) ts) → T (among ns (answer_number d))
    → among ns (answer_number (first_that_applies ts d)) ≡ true
numbered ns ts d h e = is_true _ (of_first (λ a. among ns (answer_number a)) ts d h e)

seal_numbered : (s : Sender) (f room : List ℕ) → among seal_numbers (answer_number (seal_answer s f room)) ≡ true
unfolding seal_answer
seal_numbered s f room = numbered seal_numbers (seal_tests s f (length room)) (Done (s.last + 1) (priority f) (length f + added)) tt tt

split_numbered : (s : Sender) (size : ℕ) (f room : List ℕ) → among split_numbers (answer_number (split_answer s size f room)) ≡ true
unfolding split_answer
split_numbered s size f room =
    numbered split_numbers (split_tests s size f (length room)) (Done (s.last + 1) (priority f) (sealed_length (fragments size f))) tt tt

join_numbered : (j : Joiner) (f : List ℕ) (n : ℕ) (room : List ℕ) → among join_numbers (answer_number (join_answer j f n room)) ≡ true
unfolding join_answer
join_numbered j f n room = numbered join_numbers (join_tests j f n (length room)) (Done n (priority f) (length (returned j f))) tt tt

open_numbered : (r : Receiver) (f room : List ℕ) → among open_numbers (answer_number (open_answer r f room)) ≡ true
unfolding open_answer
open_numbered r f room = numbered open_numbers (open_tests r f (length room)) (Done (number f) (priority f) (length f - added)) tt tt

pub demand_1 : Demand1
unfolding sender_next splitter_next joiner_next receiver_next seal_output split_output join_output open_output
demand_1 = (
  (λ s f room.
      record { numbered = seal_numbered s f room; record_kept = λ x e. rw e; output_kept = λ x e. rw e }),
  (λ s size f room.
      record { numbered = split_numbered s size f room; record_kept = λ x e. rw e; output_kept = λ x e. rw e }),
  (λ j f n room.
      record {
        numbered = join_numbered j f n room;
        joiner_kept = λ x e ne. rw e (ap (λ (b : Bool). cond b fresh_joiner j) (ne_eqb x 14 ne));
        joiner_emptied = λ e. rw e;
        output_kept = λ x e. rw e;
      }),
  (λ r f room.
      record {
        numbered = open_numbered r f room;
        key_kept = refl;
        id_kept = refl;
        peer_kept = refl;
        size_kept = refl;
        windows_kept = λ x e. (rw e, rw e);
        output_kept = λ x e. rw e;
        one_moved =
            record {
              format_errors = one_more_lem format_count format_answers (open_answer r f room) r.counts.format_errors (each_moves r f room).format_errors;
              replays = one_more_lem replay_count replay_answers (open_answer r f room) r.counts.replays (each_moves r f room).replays;
              decrypt_errors = one_more_lem decrypt_count decrypt_answers (open_answer r f room) r.counts.decrypt_errors (each_moves r f room).decrypt_errors;
              opened = one_more_lem opened_count opened_answers (open_answer r f room) r.counts.opened (each_moves r f room).opened;
            };
      }),
)
