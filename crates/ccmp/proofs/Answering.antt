-- From what the parts of `seal` and `open` give to their answers, records and outputs.
use Rattle.std.proofs.Common.{◌≡◌, ℕ, ◌+◌, ◌-◌, ◌<◌, ◌≤◌, Bool, true, false, cond, not, List, [], ◌++◌, length, drop, sym, refl, ap, ◌∙◌, ap₂, arith, le-ltb, ne_eqb, le-leb, Result, Ok, Err, IfOk}
use Rattle.octets.specs.Options.{is_none}
use Rattle.rules.specs.Limits.{most_number, most_key_id, least_header, priorities}
use Rattle.rules.specs.Header.{header_length, priority, protected, header_of}
use Rattle.rules.specs.Nonce.{number}
use Rattle.rules.specs.Mode.{added}
use Rattle.rules.specs.Windows.{takes}
use Rattle.rules.specs.Records.{window_of, sound_sender, sound_receiver, with_last, sender_next}
use Rattle.rules.specs.Answers.{Answer, Done, Refused, Test, first_that_applies, none_applies}
use Rattle.rules.specs.Refusals.{answer_of}
use Rattle.rules.specs.Tests.{record_test, header_tests, body_of, code_test}
use Rattle.rules.specs.Sealing.{sealed_frame, seal_tests, seal_answer, seal_output, Sealable}
use Rattle.rules.specs.Opening.{opened_frame, earlier_tests, open_answer, open_output}
use Rattle.rules.specs.declared.Header.{Header}
use Rattle.rules.specs.declared.Sender.{Sender}
use Rattle.rules.specs.declared.Receiver.{Receiver}
use Rattle.rules.specs.declared.answer.Success.{Success}
use Rattle.rules.specs.declared.answer.Refusal.{Refusal}
use Rattle.rules.proofs.Fields.{header_range, priority_below}
use Rattle.rules.proofs.Passing.{later, all_done, done_all, after_all, seal_answers, seal_done, open_done}
use Rattle.ccmp.specs.Verdict.{Refuse, Pass, verdict}
use Rattle.ccmp.specs.Parts.{head_tests, parts_answer, parts_next, parts_output}
use Rattle.ccmp.proofs.Verdicts.{refuses, refused}
use Rattle.ccmp.proofs.Parts.{front_header, whole_kind, whole_mark}

-- what a call answers, and what it leaves of the output
abbrev pub Sealed : Sender → List ℕ → List ℕ → Answer → List ℕ → Type 0
Sealed s f o a out = record { value : a ≡ seal_answer s f o; out_after : out ≡ seal_output s f o }

abbrev pub PartsSealed : Sender → List ℕ → List ℕ → List ℕ → Answer → List ℕ → Type 0
PartsSealed s head body o a out = record { value : a ≡ parts_answer s head body o; out_after : out ≡ parts_output s head body o }

abbrev pub Opened : Receiver → List ℕ → List ℕ → Answer → List ℕ → Type 0
Opened r f o a out = record { value : a ≡ open_answer r f o; out_after : out ≡ open_output r f o }

-- the tests of the record and of the header
abbrev pub first_tests : Sender → List ℕ → List Test
first_tests s f = record_test (sound_sender s) ++ header_tests 1 f

pub first_pass : (s : Sender) (f : List ℕ) (h : Header) → Pass h ≡ verdict (first_tests s f) (header_of f)
    → (sound_sender s ≡ true) × (Pass h ≡ verdict (header_tests 1 f) (header_of f))
first_pass s f h e = go (sound_sender s) e
  where
    go : (b : Bool) → Pass h ≡ cond (not b) (Refuse 1) (verdict (header_tests 1 f) (header_of f)) → (b ≡ true) × (Pass h ≡ verdict (header_tests 1 f) (header_of f))
    go true e = (refl, e)
    go false e = absurd (let z : ◌≡◌ {A = ℕ} 0 1 = cc in omega arith)

module _ (s : Sender) (f o : List ℕ) where
  abbrev sealed_done : Answer
  sealed_done = Done (s.last + 1) (priority f) (length f + added)

  pub seal_refused : (h : Header) (n : ℕ) → Refuse n ≡ verdict (seal_tests s f (length o)) h → Sealed s f o (Refused n) o
  unfolding seal_answer seal_output
  seal_refused h n e =
      let a : seal_answer s f o ≡ Refused n = refused (seal_tests s f (length o)) [] h sealed_done n e in
      rw a record { value = refl; out_after = refl }

  pub seal_unheaded : (n : ℕ) → Refuse n ≡ verdict (first_tests s f) (header_of f) → Sealed s f o (Refused n) o
  seal_unheaded n e = seal_refused (header_of f) n (refuses (first_tests s f) (later (seal_tests s f (length o))) (header_of f) n e)

  pub seal_gives : (p : ℕ) (out : List ℕ) → none_applies (seal_tests s f (length o)) ≡ true → p ≡ priority f
      → out ≡ sealed_frame s (s.last + 1) f ++ drop (length f + added) o
      → Sealed s f o (Done (s.last + 1) p (length f + added)) out
  unfolding seal_answer seal_output
  seal_gives p out passes ep eo =
      let a : seal_answer s f o ≡ sealed_done = all_done (seal_tests s f (length o)) sealed_done passes in
      rw a record { value = ap (λ (x : ℕ). Done (s.last + 1) x (length f + added)) ep; out_after = eo }

  -- a frame that was sealed has the next number
  pub seal_number : (x : Result Success Refusal) → answer_of x ≡ seal_answer s f o → IfOk x (λ y. y.number ≡ s.last + 1)
  seal_number (Ok y) e = (seal_done s f o y.number y.priority y.octets (sym e)).number_is
  seal_number (Err y) e = tt

-- a frame in two parts: a refusal of the first is the answer, and where it passes its tests, the frame's answer is
module _ (s : Sender) (head body o : List ℕ) where
  pub parts_refused : (h : Header) (n : ℕ) → Refuse n ≡ verdict (head_tests s head) h → PartsSealed s head body o (Refused n) o
  unfolding parts_answer parts_output
  parts_refused h n e =
      let a : parts_answer s head body o ≡ Refused n = refused (head_tests s head) [] h (seal_answer s (head ++ body) o) n e in
      rw a record { value = refl; out_after = refl }

  pub parts_whole : none_applies (head_tests s head) ≡ true → parts_answer s head body o ≡ seal_answer s (head ++ body) o
  unfolding parts_answer
  parts_whole passes = all_done (head_tests s head) (seal_answer s (head ++ body) o) passes

  pub parts_give : (a : Answer) (out : List ℕ) → none_applies (head_tests s head) ≡ true → Sealed s (head ++ body) o a out
      → PartsSealed s head body o a out
  unfolding seal_output parts_output
  parts_give a out passes e = rw (parts_whole passes) e

  pub parts_number : (x : Result Success Refusal) → answer_of x ≡ parts_answer s head body o → IfOk x (λ y. y.number ≡ s.last + 1)
  unfolding parts_answer
  parts_number (Ok y) e =
      let d = done_all (head_tests s head) (seal_answer s (head ++ body) o) y.number y.priority y.octets (sym e) in
      (seal_done s (head ++ body) o y.number y.priority y.octets d.0).number_is
  parts_number (Err y) e = tt

  -- a frame that the sender seals, in its header and its body
  module _ (ok : Sealable s (head ++ body)) (is : length head ≡ header_length (head ++ body)) (enough : length (head ++ body) + added ≤ length o) where
    exact : length head ≡ header_length head
    exact = is ∙ front_header head body (omega (arith, is, header_range (head ++ body)))

    head_passes : none_applies (head_tests s head) ≡ true
    unfolding sound_sender
    head_passes =
        rw (
          le-leb s.key_id most_key_id ok.id_fits,
          le-leb s.last most_number (omega (arith, ok.unspent)),
          le-ltb (length head) least_header (omega (arith, exact, header_range head)),
          sym (whole_kind head body exact) ∙ ok.kind,
          ne_eqb (protected head) 1 (λ e. omega (arith, ok.plain, whole_mark head body exact)),
          le-ltb (length head) (header_length head) (omega (arith, exact)),
          le-ltb (header_length head) (length head) (omega (arith, exact)),
        )

    parts_done : parts_answer s head body o ≡ Done (s.last + 1) (priority (head ++ body)) (length (head ++ body) + added)
    parts_done = parts_whole head_passes ∙ seal_answers s (head ++ body) o ok enough

    pub parts_next_lem : parts_next s head body o ≡ with_last s (s.last + 1)
    unfolding sender_next
    parts_next_lem = rw parts_done

    pub parts_output_lem : parts_output s head body o ≡ sealed_frame s (s.last + 1) (head ++ body) ++ drop (length (head ++ body) + added) o
    unfolding parts_output
    parts_output_lem = rw parts_done

module _ (r : Receiver) (f o : List ℕ) where
  abbrev opened_done : Answer
  opened_done = Done (number f) (priority f) (length f - added)

  -- a refusal, by its number
  answers : (n : ℕ) (out : List ℕ) → open_answer r f o ≡ Refused n → out ≡ o → Opened r f o (Refused n) out
  unfolding open_output
  answers n out a eo = rw a record { value = refl; out_after = eo }

  pub open_refused : (h : Header) (n : ℕ) → Refuse n ≡ verdict (earlier_tests r f (length o)) h → Opened r f o (Refused n) o
  unfolding open_answer
  open_refused h n e = answers n o (refused (earlier_tests r f (length o)) (code_test r.key f) h opened_done n e) refl

  module _ (passes : none_applies (earlier_tests r f (length o)) ≡ true) where
    -- the code alone is left to decide
    code_decides : open_answer r f o ≡ first_that_applies (code_test r.key f) opened_done
    unfolding open_answer
    code_decides = after_all (earlier_tests r f (length o)) (code_test r.key f) opened_done passes

    pub open_wrong : (out : List ℕ) → is_none (body_of r.key f) ≡ true → out ≡ o → Opened r f o (Refused 11) out
    open_wrong out w eo = answers 11 out (code_decides ∙ rw w) eo

    pub open_gives : (n p : ℕ) (out : List ℕ) → is_none (body_of r.key f) ≡ false → n ≡ number f → p ≡ priority f
        → out ≡ opened_frame r f ++ drop (length f - added) o
        → Opened r f o (Done n p (length f - added)) out
    unfolding open_output
    open_gives n p out w en ep eo =
        let is : Done n p (length f - added) ≡ opened_done = ap₂ (λ (x y : ℕ). Done x y (length f - added)) en ep in
        let a : open_answer r f o ≡ opened_done = code_decides ∙ rw w in
        rw a record { value = is; out_after = eo }

  -- a number that was opened was taken by the window of its priority
  pub open_takes : (x : Result Success Refusal) → answer_of x ≡ open_answer r f o
      → IfOk x (λ y. (y.priority < priorities) × (sound_receiver r ≡ true) × (takes (window_of r y.priority) y.number ≡ true))
  open_takes (Ok y) e =
      let d = open_done r f o y.number y.priority y.octets (sym e) in
      (omega (arith, d.priority_is, priority_below f), d.sound, rw (d.priority_is, d.number_is) d.openable.taken)
  open_takes (Err y) e = tt
