-- Document 02, request 2: splitting a frame. All of its fragments are sealed, or none.
use Rattle.std.specs.Prelude.{◌≡◌, Bool, true, false, not, ◌||◌, List, [], ◌∷◌, ◌++◌, ℕ, zero, suc, ◌+◌, ◌*◌, ◌%◌, ◌≤◌, ltb, eqb, length, take, drop}
use Rattle.octets.specs.Octets.{same}
use Rattle.rules.specs.Limits.{most_number, most_key_id, least_header, most_fragments, least_message, most_message, least_size, most_size}
use Rattle.rules.specs.Header.{header_length, address2, priority, protected, set_fragment, wrong_kind}
use Rattle.rules.specs.Mode.{added}
use Rattle.rules.specs.Records.{sound_sender, with_last}
use Rattle.rules.specs.Answers.{Answer, Done, Refused, Test, ◌⇒◌, in_order, first_that_applies, outside, written}
use Rattle.rules.specs.Tests.{record_test, header_tests, room_test, address_test, left_test}
use Rattle.rules.specs.Sealing.{sealed_frame}
use Rattle.rules.specs.declared.Sender.{Sender}

-- the message of a frame: all after its header
unfoldable pub message : List ℕ → List ℕ
message f = drop (header_length f) f

-- m cut at a size: pieces of that size, the last one with what is left, at most k of them
abbrev pub cut : ℕ → ℕ → List ℕ → List (List ℕ)
cut size zero m = []
cut size (suc k) [] = []
cut size (suc k) (x ∷ m) = take size (x ∷ m) ∷ cut size k (drop size (x ∷ m))

unfoldable pub pieces : ℕ → List ℕ → List (List ℕ)
pieces size f = cut size most_fragments (message f)

-- MoreFrag of a fragment that these pieces follow
abbrev pub more : List (List ℕ) → ℕ
more [] = 0
more (p ∷ ps) = 1

-- fragments numbered from i on, each with a piece after the header h but for MoreFrag and the fragment number
abbrev pub fragments_from : ℕ → List ℕ → List (List ℕ) → List (List ℕ)
fragments_from i h [] = []
fragments_from i h (p ∷ ps) = (set_fragment h (more ps) i ++ p) ∷ fragments_from (i + 1) h ps

-- the plain fragments of a frame
unfoldable pub fragments : ℕ → List ℕ → List (List ℕ)
fragments size f = fragments_from 0 (take (header_length f) f) (pieces size f)

-- plain frames sealed under consecutive numbers from n on, one after another
abbrev pub sealed_frames : Sender → ℕ → List (List ℕ) → List ℕ
sealed_frames s n [] = []
sealed_frames s n (f ∷ fs) = sealed_frame s n f ++ sealed_frames s (n + 1) fs

-- the octets that they have together
abbrev pub sealed_length : List (List ℕ) → ℕ
sealed_length [] = 0
sealed_length (f ∷ fs) = length f + added + sealed_length fs

-- test 13, of a size and a message of n octets: a bad size, an empty or too long message, or a need for over 16 fragments
unfoldable pub unfit : ℕ → ℕ → Bool
unfit size n =
    not (eqb (size % 2) 0) || outside least_size most_size size || outside least_message most_message n || ltb (most_fragments * size) n

-- the tests of splitting, in a room of so many octets
abbrev pub split_tests : Sender → ℕ → List ℕ → ℕ → List Test
split_tests s size f room =
    in_order
    (record_test (sound_sender s)
    ∷ header_tests 1 f
    ∷ ((unfit size (length (message f)) ⇒ 13) ∷ room_test room (sealed_length (fragments size f)))
    ∷ address_test s.address f
    ∷ left_test s.last (length (fragments size f))
    ∷ [])

-- done names the first number and all octets written
unfoldable pub split_answer : Sender → ℕ → List ℕ → List ℕ → Answer
split_answer s size f room = first_that_applies (split_tests s size f (length room)) (Done (s.last + 1) (priority f) (sealed_length (fragments size f)))

-- splitting into so many fragments moves the last number by as many, on done only
unfoldable pub splitter_next : Sender → ℕ → Answer → Sender
splitter_next s count (Done n p k) = with_last s (s.last + count)
splitter_next s count (Refused a) = s

-- the sender after the call
abbrev pub split_next : Sender → ℕ → List ℕ → List ℕ → Sender
split_next s size f room = splitter_next s (length (fragments size f)) (split_answer s size f room)

unfoldable pub split_output : Sender → ℕ → List ℕ → List ℕ → List ℕ
split_output s size f room = written (split_answer s size f room) (sealed_frames s (s.last + 1) (fragments size f)) room

-- a size and a message of n octets that test 13 lets pass
pub record Fit (size n : ℕ) : Type 0 where
  pub least_size_lem : least_size ≤ size
  pub most_size_lem : size ≤ most_size
  pub least : least_message ≤ n
  pub most : n ≤ most_message
  pub few : n ≤ most_fragments * size

-- what the tests say of a frame that the sender s splits at a size
pub record Splittable (s : Sender) (size : ℕ) (f : List ℕ) : Type 0 where
  pub id_fits : s.key_id ≤ most_key_id
  pub long : least_header ≤ length f
  pub kind : wrong_kind f ≡ false
  pub plain : protected f ≡ 0
  pub whole : header_length f ≤ length f
  pub fit : Fit size (length (message f))
  pub own : same (address2 f) s.address ≡ true
  pub unspent : s.last + length (fragments size f) ≤ most_number
