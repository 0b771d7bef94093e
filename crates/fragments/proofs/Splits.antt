-- What the tests of splitting say, and what its answer, its sender and its output then are.
use mathlib.Core.Path.{◌≡◌, refl, ap₂}
use mathlib.Core.Bool.{true}
use mathlib.Core.List.{List, [], ◌++◌}
use Prim.Native.Nat.{ℕ, ◌+◌}
use lib.ListN.{length, drop}
use Rattle.rules.specs.Header.{priority}
use Rattle.rules.specs.Records.{with_last}
use Rattle.rules.specs.Answers.{told, none_applies}
use Rattle.rules.specs.Splitting.{fragments, sealed_frames, sealed_length, split_tests, split_answer, splitter_next, split_next, split_output}
use Rattle.rules.specs.declared.Header.{Header}
use Rattle.rules.specs.declared.Sender.{Sender}
use Rattle.rules.specs.Answers.{Answer}
use Rattle.rules.specs.Answers.{Done, Refused}
use Rattle.rules.proofs.Passing.{all_done}
use Rattle.ccmp.specs.Verdict.{Refuse, verdict}
use Rattle.ccmp.proofs.Verdicts.{refused}

-- what a call hands back: its answer, the sender and the output
abbrev pub Split : Sender → ℕ → List ℕ → List ℕ → Answer → Sender → List ℕ → Type 0
Split s size f o a t out =
    record { answer_value : told a ≡ told (split_answer s size f o); sender_value : t ≡ split_next s size f o; out_after : out ≡ split_output s size f o }

module _ (s : Sender) (size : ℕ) (f o : List ℕ) where
  abbrev done : Answer
  done = Done (s.last + 1) (priority f) (sealed_length (fragments size f))

  pub split_refused : (h : Header) (n : ℕ) → Refuse n ≡ verdict (split_tests s size f (length o)) h → Split s size f o (Refused n) s o
  unfolding split_answer splitter_next split_output
  split_refused h n e =
      let a : split_answer s size f o ≡ Refused n = refused (split_tests s size f (length o)) [] h done n e in
      rw a record { answer_value = refl; sender_value = refl; out_after = refl }

  pub split_gives : (t : Sender) (p k : ℕ) (out : List ℕ) → none_applies (split_tests s size f (length o)) ≡ true → p ≡ priority f → k ≡ sealed_length (fragments size f)
      → t ≡ with_last s (s.last + length (fragments size f)) → out ≡ sealed_frames s (s.last + 1) (fragments size f) ++ drop (sealed_length (fragments size f)) o
      → Split s size f o (Done (s.last + 1) p k) t out
  unfolding split_answer splitter_next split_output
  split_gives t p k out passes ep ek et eo =
      let a : split_answer s size f o ≡ done = all_done (split_tests s size f (length o)) done passes in
      rw a record { answer_value = ap₂ (λ (x y : ℕ). told (Done (s.last + 1) x y)) ep ek; sender_value = et; out_after = eo }
