-- Demand 3: one packet number means one frame, over whole lists of calls from fresh records whose making wasn't refused.
use Rattle.std.specs.Prelude.{◌≡◌, Bool, true, List, ◌++◌, ◌↔◌, ℕ, ◌+◌, ◌<◌, ◌≤◌, length, drop}
use Rattle.rules.specs.Header.{priority}
use Rattle.rules.specs.Records.{receiver_answer, fresh_sender, fresh_receiver}
use Rattle.rules.specs.Answers.{Done, Refused, none_applies}
use Rattle.rules.specs.Tests.{header_tests}
use Rattle.rules.specs.Calls.{Call, at, OctetFrames, open_run, open_answer_at, open_output_at}
use Rattle.rules.specs.Sending.{SenderCall, Sent, Among, sent}
use Rattle.rules.specs.declared.Sender.{Sender}
use Rattle.rules.specs.declared.Receiver.{Receiver}

-- call j of ds delivers the sealed frame x unchanged, with room for its original
pub record Delivers (x : Sent) (ds : List Call) (j : ℕ) : Type 0 where
  pub below : j < length ds
  pub unchanged : (at ds j).frame ≡ x.octets
  pub enough : length x.original ≤ length (at ds j).room

-- n is none of the numbers opened, and is less than the size below the greatest of them
abbrev pub Within : ℕ → (ℕ → Type 0) → ℕ → Type 0
Within size Opened n = (¬ (Opened n)) × ((m : ℕ) → Opened m → m < n + size)

-- a call before j opened the number n in priority p
abbrev pub OpenedBefore : Receiver → List Call → ℕ → ℕ → ℕ → Type 0
OpenedBefore r ds j p n = (j' : ℕ) × ((j' < j) × ((k : ℕ) × (open_answer_at r ds j' ≡ Done n p k)))

-- x wasn't opened before in its priority, and is less than the size of the window below the greatest number opened there
abbrev pub InWindow : Receiver → List Call → ℕ → Sent → Type 0
InWindow r ds j x = Within r.size (OpenedBefore r ds j x.priority) x.number

-- call j opens to x's original: done with its number, priority and length, and the room holds it and then the rest as it was
abbrev pub OpensTo : Receiver → List Call → ℕ → Sent → Type 0
OpensTo r ds j x =
    (open_answer_at r ds j ≡ Done x.number x.priority (length x.original))
    × (open_output_at r ds j ≡ x.original ++ drop (length x.original) (at ds j).room)

-- call j is answered as a replay, and its room is as it was
abbrev pub IsReplayed : Receiver → List Call → ℕ → Type 0
IsReplayed r ds j = (open_answer_at r ds j ≡ Refused 10) × (open_output_at r ds j ≡ (at ds j).room)

-- a delivery that tests 2, 3 and 4 of opening pass has a priority
abbrev pub has_priority : List ℕ → Bool
has_priority f = none_applies (header_tests 0 f)

-- the delivery has this priority
abbrev pub InPriority : Call → ℕ → Type 0
InPriority c p = (has_priority c.frame ≡ true) × (priority c.frame ≡ p)

-- ys has the deliveries of xs, number i at place `to i`, and no two in one channel change places; a receiver's channels are the priorities
pub record Rearranged {D : Type 0} (In : Call → D → Type 0) (xs ys : List Call) : Type 0 where
  pub to : ℕ → ℕ
  pub from : ℕ → ℕ
  pub lengths : length ys ≡ length xs
  pub to_below : (i : ℕ) → i < length xs → to i < length xs
  pub from_below : (i : ℕ) → i < length xs → from i < length xs
  pub from_to : (i : ℕ) → i < length xs → from (to i) ≡ i
  pub to_from : (i : ℕ) → i < length xs → to (from i) ≡ i
  pub moved : (i : ℕ) → i < length xs → at ys (to i) ≡ at xs i
  pub order : (i j : ℕ) (q : D) → i < j → j < length xs → In (at xs i) q → In (at xs j) q → to i < to j

-- first half: a frame that calls on the sender sealed, delivered unchanged, opens to its original exactly when `When` is so of it, and is
-- otherwise a replay, whatever else arrives between
abbrev pub Delivered : (Receiver → List Call → ℕ → Sent → Type 0) → Sender → Receiver → Type 0
Delivered When s r =
    (cs : List SenderCall) (ds : List Call) (x : Sent) (j : ℕ) → Among x (sent s cs) → OctetFrames ds → Delivers x ds j
    → (OpensTo r ds j x ↔ When r ds j x) × (¬ (When r ds j x) → IsReplayed r ds j)

-- second half: two orders that agree within each priority give each delivery the same answer and output, and leave the same record
abbrev pub Reordered : Receiver → Type 0
Reordered r =
    (xs ys : List Call) → OctetFrames xs → (ρ : Rearranged InPriority xs ys)
    → ((i : ℕ) → i < length xs → (open_answer_at r ys (ρ.to i) ≡ open_answer_at r xs i) × (open_output_at r ys (ρ.to i) ≡ open_output_at r xs i))
    × (open_run r ys ≡ open_run r xs)

abbrev pub Demand3 : Type 0
Demand3 =
    (key address : List ℕ) (keyId size : ℕ) → receiver_answer keyId size ≡ Done 0 0 0
    → let r = fresh_receiver key keyId address size in
    Delivered InWindow (fresh_sender key keyId address) r × Reordered r
