-- Document 02, request 2: fragments are frames like others, joined in order they are the message, and no message is joined of two.
use Rattle.std.specs.Prelude.{◌≡◌, true, List, ◌++◌, ℕ, ◌+◌, ◌-◌, ◌<◌, ◌≤◌, length, take, drop}
use Rattle.octets.specs.Octets.{Octets}
use Rattle.rules.specs.Mode.{added}
use Rattle.rules.specs.Windows.{takes}
use Rattle.rules.specs.Records.{window_of, sound_receiver, with_last, fresh_answer, fresh_sender}
use Rattle.rules.specs.Sealing.{seal_answer, seal_output}
use Rattle.rules.specs.Opening.{open_answer, open_output}
use Rattle.rules.specs.Splitting.{message, split_answer}
use Rattle.rules.specs.Joining.{sound_joiner, fresh_joiner}
use Rattle.rules.specs.Calls.{Call, JoinCall, given_at, join_run, join_answer_at, join_output_at}
use Rattle.rules.specs.Sending.{SenderCall, splitting, asked_at, Sent, sent_at, Among, sent_by, send_run}
use Rattle.rules.specs.Demand2.{Match}
use Rattle.rules.specs.Answers.{Done}
use Rattle.rules.specs.declared.Sender.{Sender}
use Rattle.rules.specs.declared.Receiver.{Receiver}
use Rattle.rules.specs.declared.Joiner.{Joiner}

-- what a call on the sender s sealed, a fragment or a whole frame, is what sealing its original under its number writes
abbrev pub SealedAlone : Sender → Sent → Type 0
SealedAlone s x =
    (room : List ℕ) → length x.original + added ≤ length room
    → (seal_answer (with_last s (x.number - 1)) x.original room ≡ Done x.number x.priority (length x.original + added))
    × (seal_output (with_last s (x.number - 1)) x.original room ≡ x.octets ++ drop (length x.original + added) room)

-- and it opens to its original, for every sound matching receiver with room that takes the number
abbrev pub OpensAlone : Sender → Sent → Type 0
OpensAlone s x =
    (r : Receiver) (room : List ℕ)
    → sound_receiver r ≡ true → Match s r → length x.original ≤ length room → takes (window_of r x.priority) x.number ≡ true
    → (open_answer r x.octets room ≡ Done x.number x.priority (length x.original))
    × (open_output r x.octets room ≡ x.original ++ drop (length x.original) room)

abbrev pub FramesLikeOthers : Type 0
FramesLikeOthers = (s : Sender) (c : SenderCall) (x : Sent) → Among x (sent_by s c) → SealedAlone s x × OpensAlone s x

-- a joiner that was fresh stays sound over any calls, so that it answers 1 to a wrong number alone
abbrev pub StaysSound : Type 0
StaysSound = (js : List JoinCall) → ((i : ℕ) → Octets (given_at js i).frame) → sound_joiner (join_run fresh_joiner js) ≡ true

-- a joining call is given a sealed frame as it was opened, with its number
abbrev pub Gives : JoinCall → Sent → Type 0
Gives g x = (g.frame ≡ x.original) × (g.number ≡ x.number)

-- the joining calls js are given the sealed frames xs in order
abbrev pub InOrder : List JoinCall → List Sent → Type 0
InOrder js xs = (length js ≡ length xs) × ((i : ℕ) → i < length js → Gives (given_at js i) (sent_at xs i))

-- the calls js on the joiner j return the message m of priority p: each names its number, all but the last write nothing, the last
-- writes m and keeps the rest of its room, and the joiner is then empty
pub record Returns (j : Joiner) (js : List JoinCall) (p : ℕ) (m : List ℕ) : Type 0 where
  pub unfinished :
      (i : ℕ) → i + 1 < length js → (join_answer_at j js i ≡ Done (given_at js i).number p 0) × (join_output_at j js i ≡ (given_at js i).room)
  pub finished :
      (i : ℕ) → i + 1 ≡ length js
      → (join_answer_at j js i ≡ Done (given_at js i).number p (length m)) × (join_output_at j js i ≡ m ++ drop (length m) (given_at js i).room)
  pub empty : join_run j js ≡ fresh_joiner

-- what a split call sealed, given in order to any sound joiner, with room for the message at the last, returns the message
abbrev pub JoinsInOrder : Type 0
JoinsInOrder =
    (s : Sender) (size : ℕ) (c : Call) (n p k : ℕ) → split_answer s size c.frame c.room ≡ Done n p k → Octets c.frame
    → (j : Joiner) (js : List JoinCall) → sound_joiner j ≡ true → InOrder js (sent_by s (splitting size c))
    → ((i : ℕ) → i + 1 ≡ length js → length (message c.frame) ≤ length (given_at js i).room)
    → Returns j js p (message c.frame)

-- a split call of the list cs that was done
pub record Split (s : Sender) (cs : List SenderCall) : Type 0 where
  pub place : ℕ
  pub size : ℕ
  pub call : Call
  pub is_split : asked_at cs place ≡ splitting size call
  pub first : ℕ
  pub priority : ℕ
  pub octets : ℕ
  pub done : split_answer (send_run s (take place cs)) size call.frame call.room ≡ Done first priority octets

-- the fragments that it sealed
abbrev pub sealed_by : (s : Sender) (cs : List SenderCall) → Split s cs → List Sent
sealed_by s cs c = sent_by (send_run s (take c.place cs)) (splitting c.size c.call)

-- every joining call is given, with its number, a fragment that one of the split calls sealed
abbrev pub GivenFragments : (s : Sender) (cs : List SenderCall) → List JoinCall → Type 0
GivenFragments s cs js = (i : ℕ) → i < length js → (c : Split s cs) × (x : Sent) × Among x (sealed_by s cs c) × Gives (given_at js i) x

-- given fragments in any order, some never and some more than once, each with any room, a joiner that was fresh finishes no message but
-- that of one split call
abbrev pub NeverMixed : Sender → Type 0
NeverMixed s =
    (cs : List SenderCall) (js : List JoinCall) → GivenFragments s cs js
    → (i n p k : ℕ) → i < length js → join_answer_at fresh_joiner js i ≡ Done n p k → 0 < k
    → (c : Split s cs) × (take k (join_output_at fresh_joiner js i) ≡ message c.call.frame)

-- the whole request; that no number is used twice, which the last part needs, is what a fresh sender gives
abbrev pub Fragments : Type 0
Fragments =
    FramesLikeOthers
    × StaysSound
    × JoinsInOrder
    × ((key address : List ℕ) (keyId : ℕ) → fresh_answer keyId ≡ Done 0 0 0 → NeverMixed (fresh_sender key keyId address))
