-- What a call on a sender sealed: every frame is what sealing its original alone writes, and the numbers are the next ones, one after another.
use mathlib.Core.Path.{◌≡◌, refl, sym, ap, ap₂, ◌∙◌}
use mathlib.Core.Bool.{true, cond}
use mathlib.Core.List.{List, [], ◌∷◌, ◌++◌, append-nil, append_assoc}
use Prim.Native.Nat.{ℕ, zero, suc, ◌+◌, ◌-◌, ◌<◌, ◌≤◌}
use native.Mathlib.Nat.{not-suc-le-zero, add-zero, add_assoc, zero-add, suc-add}
use native.Mathlib.Omega.{arith}
use borrow.Author.Tests.{le-leb}
use lib.Dec.{leb}
use lib.ListN.{length, take, drop, get_or, length-append}
use lib.Seq.{take_at, drop_at}
use Rattle.octets.proofs.Booleans.{both}
use Rattle.rules.specs.Limits.{most_number, most_key_id}
use Rattle.rules.specs.Header.{priority}
use Rattle.rules.specs.Mode.{added}
use Rattle.rules.specs.Windows.{takes}
use Rattle.rules.specs.Records.{sound_sender, window_of, sound_receiver, with_last, sender_next, is_replay}
use Rattle.rules.specs.Sealing.{sealed_frame, seal_answer, seal_output, Sealable}
use Rattle.rules.specs.Opening.{open_answer, open_output}
use Rattle.rules.specs.Splitting.{pieces, sealed_frames, split_answer, splitter_next, split_output}
use Rattle.rules.specs.Calls.{Call}
use Rattle.rules.specs.Sending.{SenderCall, sealing, splitting, send_answer, send_next, send_output, originals, Sent, sent_at, sent_from, sent_by, send_run, sent}
use Rattle.rules.specs.Demand2.{Match}
use Rattle.rules.specs.Fragments.{SealedAlone, FramesLikeOthers}
use Rattle.rules.specs.Answers.{Answer, Done, Refused}
use Rattle.rules.specs.declared.Sender.{Sender}
use Rattle.rules.specs.declared.Receiver.{Receiver}
use Rattle.rules.proofs.Passing.{seal_answers, seal_done}
use Rattle.rules.proofs.Sealed.{sealed_size, opened_frame_lem, sealed_answer}
use Rattle.rules.proofs.Fragmented.{IsPart}
use Rattle.rules.proofs.Splits.{split_done, fragments_count, is_part, part_sealable}

-- a call that was done: the sender, moved on by one for each before it, seals each original, and they lie sealed in the output
record Sends (s : Sender) (c : SenderCall) (n p : ℕ) : Type 0 where
  number_is : n ≡ s.last + 1
  each : (b : ℕ) → b < length (originals c) → Sealable (with_last s (s.last + b)) (get_or (originals c) b []) × (priority (get_or (originals c) b []) ≡ p)
  unspent : s.last + length (originals c) ≤ most_number
  rest : List ℕ
  output : send_output s c ≡ sealed_frames s (s.last + 1) (originals c) ++ rest

sends : (s : Sender) (c : SenderCall) (n p k : ℕ) → send_answer s c ≡ Done n p k → Sends s c n p
unfolding seal_output split_output
sends s (sealing c) n p k e =
    let d = seal_done s c.frame c.room n p k e in
    record {
      number_is = d.number_is;
      each = one d.sealable (sym d.priority_is);
      unspent = d.sealable.unspent;
      rest = drop k c.room;
      output = rw (e, append-nil);
    }
  where
    one : Sealable s c.frame → priority c.frame ≡ p → (b : ℕ) → b < 1
        → Sealable (with_last s (s.last + b)) (get_or (c.frame ∷ []) b []) × (priority (get_or (c.frame ∷ []) b []) ≡ p)
    one h q zero l = rw add-zero (h, q)
    one h q (suc b) l = absurd (omega arith)
sends s (splitting size c) n p k e =
    let f = c.frame in
    let d = split_done s size f c.room n p k e in
    record {
      number_is = d.number_is;
      each =
          λ b l.
          let l' = rw (fragments_count size f) at l in
          (part_sealable s size f d.splittable b l', (is_part s size f d.splittable b l').priority_is ∙ sym d.priority_is);
      unspent = d.splittable.unspent;
      rest = drop k c.room;
      output = rw e;
    }

-- the frame x is what the sender t seals next
pub record Genuine (t : Sender) (x : Sent) : Type 0 where
  pub sealable : Sealable t x.original
  pub number_is : x.number ≡ t.last + 1
  pub priority_is : x.priority ≡ priority x.original
  pub octets_are : x.octets ≡ sealed_frame t x.number x.original

pub fits : (t : Sender) (x : Sent) → Genuine t x → x.number ≤ most_number
fits t x g = omega (arith, g.number_is, g.sealable.unspent)

sent_count : (n p : ℕ) (fs : List (List ℕ)) (out : List ℕ) → length (sent_from n p fs out) ≡ length fs
sent_count n p [] out = refl
sent_count n p (f ∷ fs) out = ap suc (sent_count (n + 1) p fs (drop (length f + added) out))

-- an output in which the frames fs lie sealed, one after another, under the numbers after l
module _ (s : Sender) (p : ℕ) (rest : List ℕ) where
  -- the first of them, and what comes after it
  front : (l : ℕ) (f : List ℕ) (fs : List (List ℕ)) (out : List ℕ) → out ≡ sealed_frames s (l + 1) (f ∷ fs) ++ rest → Sealable (with_last s l) f
      → (take (length f + added) out ≡ sealed_frame s (l + 1) f) × (drop (length f + added) out ≡ sealed_frames s (l + 1 + 1) fs ++ rest)
  unfolding sealed_frame
  front l f fs out e ok =
      let head = sealed_frame s (l + 1) f in
      let more = sealed_frames s (l + 1 + 1) fs ++ rest in
      let size = sealed_size (with_last s l) f (l + 1) ok in
      let split = e ∙ append_assoc head (sealed_frames s (l + 1 + 1) fs) rest in
      (rw split (take_at head more (length f + added) size), rw split (drop_at head more (length f + added) size))

  -- each of them, as it is cut out
  lies : (l : ℕ) (fs : List (List ℕ)) (out : List ℕ) → out ≡ sealed_frames s (l + 1) fs ++ rest
      → ((b : ℕ) → b < length fs → Sealable (with_last s (l + b)) (get_or fs b []) × (priority (get_or fs b []) ≡ p))
      → (b : ℕ) → b < length fs
      → Genuine (with_last s (l + b)) (sent_at (sent_from (l + 1) p fs out) b) × ((sent_at (sent_from (l + 1) p fs out) b).original ≡ get_or fs b [])
  unfolding sealed_frame
  lies l [] out e h b q = absurd (not-suc-le-zero q)
  lies l (f ∷ fs) out e h zero q =
      let ok = rw add-zero at (h 0 (omega arith)) in
      rw add-zero (
        record { sealable = ok.0; number_is = refl; priority_is = sym ok.1; octets_are = (front l f fs out e ok.0).0 },
        refl,
      )
  lies l (f ∷ fs) out e h (suc b) q =
      let ok = rw add-zero at (h 0 (omega arith)).0 in
      let next : (b : ℕ) → l + 1 + b ≡ l + suc b = λ b. omega arith in
      rw (← next b)
      (lies (l + 1) fs (drop (length f + added) out) (front l f fs out e ok).1 (λ b q. rw next (h (suc b) (omega arith))) b (omega arith))

module _ (s : Sender) (c : SenderCall) where
  -- what a done call sealed: all its originals
  module _ (n p k : ℕ) (e : send_answer s c ≡ Done n p k) where
    sent_is : sent_by s c ≡ sent_from (s.last + 1) p (originals c) (send_output s c)
    unfolding sent_by
    sent_is = rw (e, (sends s c n p k e).number_is)

    sent_length : length (sent_by s c) ≡ length (originals c)
    sent_length = rw sent_is (sent_count (s.last + 1) p (originals c) (send_output s c))

    sent_lies : (b : ℕ) → b < length (originals c)
        → Genuine (with_last s (s.last + b)) (sent_at (sent_by s c) b) × ((sent_at (sent_by s c) b).original ≡ get_or (originals c) b [])
    sent_lies =
        let d = sends s c n p k e in
        rw sent_is (lies s p d.rest s.last (originals c) (send_output s c) d.output d.each)

  none_sent : (a : ℕ) → send_answer s c ≡ Refused a → length (sent_by s c) ≡ 0
  unfolding sent_by
  none_sent a e = rw e

  -- frame b of what a call sealed is what the sender seals b numbers on
  sealed_at_lem : (b : ℕ) → b < length (sent_by s c) → Genuine (with_last s (s.last + b)) (sent_at (sent_by s c) b)
  sealed_at_lem b l = go (send_answer s c) refl
    where
      go : (a : Answer) → send_answer s c ≡ a → Genuine (with_last s (s.last + b)) (sent_at (sent_by s c) b)
      go (Done n p k) e = (sent_lies n p k e b (rw (sent_length n p k e) at l)).0
      go (Refused a) e = absurd (omega (arith, none_sent a e))

-- a call of either kind uses a number for each original, where it is done
next_as : (s : Sender) (c : SenderCall) → send_next s c ≡ splitter_next s (length (originals c)) (send_answer s c)
unfolding sender_next splitter_next
next_as s (sealing c) = go (seal_answer s c.frame c.room)
  where
    go : (a : Answer) → sender_next s a ≡ splitter_next s 1 a
    go (Done n p k) = refl
    go (Refused a) = refl
next_as s (splitting size c) = refl

-- so that it moves the last number by as many as it sealed, and nothing else
next_is : (s : Sender) (c : SenderCall) → send_next s c ≡ with_last s (s.last + length (sent_by s c))
unfolding splitter_next
next_is s c = next_as s c ∙ go (send_answer s c) refl
  where
    go : (a : Answer) → send_answer s c ≡ a → splitter_next s (length (originals c)) a ≡ with_last s (s.last + length (sent_by s c))
    go (Done n p k) e = rw (sent_length s c n p k e)
    go (Refused a) e = rw (none_sent s c a e, add-zero)

-- moved on twice
moved_on : (s t : Sender) (used more : ℕ) → t ≡ with_last s (s.last + used) → with_last t (t.last + more) ≡ with_last s (s.last + (used + more))
moved_on s t used more e = rw (e, add_assoc)

pub run_is : (s : Sender) (cs : List SenderCall) → send_run s cs ≡ with_last s (s.last + length (sent s cs))
run_is s [] = rw add-zero
run_is s (c ∷ cs) =
    run_is (send_next s c) cs
    ∙ moved_on s (send_next s c) (length (sent_by s c)) (length (sent (send_next s c) cs)) (next_is s c)
    ∙ rw length-append

pub next_sound : (s : Sender) (c : SenderCall) → sound_sender s ≡ true → sound_sender (send_next s c) ≡ true
unfolding sound_sender splitter_next
next_sound s c sound = rw (next_as s c) (go (send_answer s c) refl)
  where
    go : (a : Answer) → send_answer s c ≡ a → sound_sender (splitter_next s (length (originals c)) a) ≡ true
    go (Done n p k) e = rw ((both (leb s.key_id most_key_id) (leb s.last most_number) sound).0, le-leb _ _ (sends s c n p k e).unspent)
    go (Refused a) e = sound

pub run_sound : (s : Sender) (cs : List SenderCall) → sound_sender s ≡ true → sound_sender (send_run s cs) ≡ true
run_sound s [] sound = sound
run_sound s (c ∷ cs) sound = run_sound (send_next s c) cs (next_sound s c sound)

-- a fact of each element of two lists, one after the other
append_at : (P : ℕ → Sent → Type 0) (xs ys : List Sent) → ((i : ℕ) → i < length xs → P i (sent_at xs i))
    → ((i : ℕ) → i < length ys → P (length xs + i) (sent_at ys i)) → (i : ℕ) → i < length (xs ++ ys) → P i (sent_at (xs ++ ys) i)
append_at P [] ys h k i l = rw zero-add at (k i l)
append_at P (x ∷ xs) ys h k zero l = h 0 (omega arith)
append_at P (x ∷ xs) ys h k (suc i) l =
    append_at (λ j. P (suc j)) xs ys (λ i q. h (suc i) (omega arith)) (λ i q. rw suc-add at (k i q)) i (omega arith)

-- frame i of all that a list of calls sealed is what the sender seals i numbers on
pub sent_at_lem : (s : Sender) (cs : List SenderCall) (i : ℕ) → i < length (sent s cs) → Genuine (with_last s (s.last + i)) (sent_at (sent s cs) i)
sent_at_lem s [] = λ i l. absurd (not-suc-le-zero l)
sent_at_lem s (c ∷ cs) =
    append_at (λ i x. Genuine (with_last s (s.last + i)) x) (sent_by s c) (sent (send_next s c) cs) (sealed_at_lem s c)
    (λ i l. rw (moved_on s (send_next s c) (length (sent_by s c)) i (next_is s c)) at (sent_at_lem (send_next s c) cs i l))

-- frame b of what a done split call sealed is fragment b, under its first number and b
pub part_sent : (s : Sender) (size : ℕ) (c : Call) (n p k : ℕ) → split_answer s size c.frame c.room ≡ Done n p k
    → (b : ℕ) → b < length (pieces size c.frame)
    → IsPart c.frame (pieces size c.frame) b (sent_at (sent_by s (splitting size c)) b).original × ((sent_at (sent_by s (splitting size c)) b).number ≡ n + b)
part_sent s size c n p k e b l =
    let d = split_done s size c.frame c.room n p k e in
    let z = sent_lies s (splitting size c) n p k e b (rw (fragments_count size c.frame) l) in
    (rw z.1 (is_part s size c.frame d.splittable b l), omega (arith, z.0.number_is, d.number_is))

pub parts_count : (s : Sender) (size : ℕ) (c : Call) (n p k : ℕ) → split_answer s size c.frame c.room ≡ Done n p k
    → length (sent_by s (splitting size c)) ≡ length (pieces size c.frame)
parts_count s size c n p k e = sent_length s (splitting size c) n p k e ∙ fragments_count size c.frame

-- a match rests on no number
pub still_matches : (s : Sender) (l : ℕ) (r : Receiver) → Match s r → Match (with_last s l) r
still_matches s l r m = record { key = m.key; key_id = m.key_id; address = m.address }

-- the receiver opens x to its original
abbrev pub Opens : Receiver → Sent → List ℕ → Type 0
Opens r x room =
    (open_answer r x.octets room ≡ Done x.number x.priority (length x.original))
    × (open_output r x.octets room ≡ x.original ++ drop (length x.original) room)

-- a frame that was sealed among others is as one sealed alone
module _ (s : Sender) (l : ℕ) (x : Sent) (g : Genuine (with_last s l) x) where
  alone : SealedAlone s x
  unfolding seal_output
  alone room enough =
      let f = x.original in
      let before : x.number - 1 ≡ l = omega (arith, g.number_is) in
      let answer = seal_answers (with_last s l) f room g.sealable enough ∙ ap₂ (λ (n p : ℕ). Done n p (length f + added)) (sym g.number_is) (sym g.priority_is) in
      rw before (answer, rw (answer, g.octets_are, g.number_is))

  -- what a sound matching receiver with room answers to it
  module _ (r : Receiver) (room : List ℕ) (sound : sound_receiver r ≡ true) (m : Match s r) (enough : length x.original ≤ length room) where
    abbrev done : Answer
    done = Done x.number x.priority (length x.original)

    pub sent_answer : open_answer r x.octets room ≡ cond (is_replay r x.priority x.number) (Refused 10) done
    sent_answer =
        let t = with_last s l in
        rw (g.octets_are, g.priority_is)
        (sealed_answer t x.original x.number g.sealable (fits t x g) r sound (still_matches s l r m) room enough)

    pub opens : takes (window_of r x.priority) x.number ≡ true → Opens r x room
    unfolding open_output
    opens taken =
        let t = with_last s l in
        let answer : open_answer r x.octets room ≡ done = sent_answer ∙ rw taken in
        (answer, rw (answer, g.octets_are, opened_frame_lem t x.original x.number g.sealable (fits t x g) r sound (still_matches s l r m)))

pub frames_like_others : FramesLikeOthers
frames_like_others s c x (b, l, is) =
    let g : Genuine (with_last s (s.last + b)) x = rw is at (sealed_at_lem s c b l) in
    (alone s (s.last + b) x g, opens s (s.last + b) x g)
