-- Which count each answer of opening moves, by a test of every answer.
use mathlib.Core.Path.{◌≡◌}
use mathlib.Core.Bool.{not}
use mathlib.Core.List.{List}
use Prim.Native.Nat.{ℕ, ◌+◌, ◌-◌}
use lib.Dec.{T, eqb, eqb→eq}
use lib.ListN.{length}
use Rattle.rules.specs.Header.{priority}
use Rattle.rules.specs.Nonce.{number}
use Rattle.rules.specs.Records.{format_count, replay_count, decrypt_count, opened_count, count_of}
use Rattle.rules.specs.Answers.{Answer, Done, Test, first_that_applies, among, answer_number}
use Rattle.rules.specs.Opening.{open_tests, open_answer}
use Rattle.rules.specs.Mode.{added}
use Rattle.rules.specs.Demand1.{format_answers, replay_answers, decrypt_answers, opened_answers}
use Rattle.rules.specs.Counts.{bit}
use Rattle.rules.specs.declared.Receiver.{Receiver}
use Rattle.rules.proofs.Passing.{of_each, of_first}

-- the answer that moves count c, and those with the numbers ns
abbrev pub moves : ℕ → Answer → ℕ
moves c a = bit (eqb (count_of a) c)

abbrev pub has : List ℕ → Answer → ℕ
has ns a = bit (among ns (answer_number a))

-- an answer moves the count that counts it
pub record EachMoves (a : Answer) : Type 0 where
  pub format_errors : moves format_count a ≡ has format_answers a
  pub replays : moves replay_count a ≡ has replay_answers a
  pub decrypt_errors : moves decrypt_count a ≡ has decrypt_answers a
  pub opened : moves opened_count a ≡ has opened_answers a

abbrev pub total : Answer → ℕ
total a = moves format_count a + moves replay_count a + moves decrypt_count a + moves opened_count a

abbrev pub has_not : List ℕ → Answer → ℕ
has_not ns a = bit (not (among ns (answer_number a)))

-- two functions that agree on every answer that a list of tests can give, by a test of each
pub agree_first : (g h : Answer → ℕ) (ts : List Test) (d : Answer) → T (of_each (λ a. eqb (g a) (h a)) ts) → T (eqb (g d) (h d))
    → g (first_that_applies ts d) ≡ h (first_that_applies ts d)
agree_first g h ts d t e = eqb→eq _ _ (of_first (λ a. eqb (g a) (h a)) ts d t e)

module _ (r : Receiver) (f room : List ℕ) where
  abbrev done : Answer
  done = Done (number f) (priority f) (length f - added)

  -- and on every answer of opening
  pub agree : (g h : Answer → ℕ) → T (of_each (λ a. eqb (g a) (h a)) (open_tests r f (length room))) → T (eqb (g done) (h done))
      → g (open_answer r f room) ≡ h (open_answer r f room)
  unfolding open_answer
  agree g h t d = agree_first g h (open_tests r f (length room)) done t d

  pub each_moves : EachMoves (open_answer r f room)
  unfolding count_of
  each_moves =
      record {
        format_errors = agree (moves format_count) (has format_answers) tt tt;
        replays = agree (moves replay_count) (has replay_answers) tt tt;
        decrypt_errors = agree (moves decrypt_count) (has decrypt_answers) tt tt;
        opened = agree (moves opened_count) (has opened_answers) tt tt;
      }
