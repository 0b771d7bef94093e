-- Calls on a sender, of two kinds, and all that they sealed as one list of frames: demand 3, the numbers and the fragments are stated over it.
use Rattle.std.specs.Prelude.{◌≡◌, List, [], ◌∷◌, ◌++◌, ℕ, ◌+◌, ◌<◌, length, take, drop, get_or}
use Rattle.rules.specs.Mode.{added}
use Rattle.rules.specs.Sealing.{seal_answer, seal_next, seal_output}
use Rattle.rules.specs.Splitting.{fragments, split_answer, split_next, split_output}
use Rattle.rules.specs.Calls.{Call, no_call}
use Rattle.rules.specs.Answers.{Answer, Done, Refused}
use Rattle.rules.specs.declared.Sender.{Sender}

-- to seal a frame, or to split it at a size
pub data SenderCall : Type 0 where
  sealing : Call → SenderCall
  splitting : ℕ → Call → SenderCall

-- call i of a list
abbrev pub asked_at : List SenderCall → ℕ → SenderCall
asked_at cs i = get_or cs i (sealing no_call)

-- a call's answer, the sender and the output after it
abbrev pub send_answer : Sender → SenderCall → Answer
send_answer s (sealing c) = seal_answer s c.frame c.room
send_answer s (splitting size c) = split_answer s size c.frame c.room

abbrev pub send_next : Sender → SenderCall → Sender
send_next s (sealing c) = seal_next s c.frame c.room
send_next s (splitting size c) = split_next s size c.frame c.room

abbrev pub send_output : Sender → SenderCall → List ℕ
send_output s (sealing c) = seal_output s c.frame c.room
send_output s (splitting size c) = split_output s size c.frame c.room

-- the plain frames that a call is to seal
abbrev pub originals : SenderCall → List (List ℕ)
originals (sealing c) = c.frame ∷ []
originals (splitting size c) = fragments size c.frame

-- a sealed frame: its original, its number and priority, and its octets as they were written
pub record Sent : Type 0 where
  pub original : List ℕ
  pub number : ℕ
  pub priority : ℕ
  pub octets : List ℕ

abbrev pub no_sent : Sent
no_sent = record { original = []; number = 0; priority = 0; octets = [] }

-- frame i of a list
abbrev pub sent_at : List Sent → ℕ → Sent
sent_at xs i = get_or xs i no_sent

-- x is one of a list
abbrev pub Among : Sent → List Sent → Type 0
Among x xs = (i : ℕ) × (i < length xs) × (sent_at xs i ≡ x)

-- the originals as they lie sealed in an output, one after another, under consecutive numbers from n on
abbrev pub sent_from : ℕ → ℕ → List (List ℕ) → List ℕ → List Sent
sent_from n p [] out = []
sent_from n p (f ∷ fs) out =
    record { original = f; number = n; priority = p; octets = take (length f + added) out } ∷ sent_from (n + 1) p fs (drop (length f + added) out)

-- done sealed all, a refusal nothing
abbrev pub sent_if : Answer → List (List ℕ) → List ℕ → List Sent
sent_if (Done n p k) fs out = sent_from n p fs out
sent_if (Refused a) fs out = []

-- what a call sealed
unfoldable pub sent_by : Sender → SenderCall → List Sent
sent_by s c = sent_if (send_answer s c) (originals c) (send_output s c)

-- the record that a list of calls leaves, and all that they sealed, in order
abbrev pub send_run : Sender → List SenderCall → Sender
send_run s [] = s
send_run s (c ∷ cs) = send_run (send_next s c) cs

abbrev pub sent : Sender → List SenderCall → List Sent
sent s [] = []
sent s (c ∷ cs) = sent_by s c ++ sent (send_next s c) cs
