-- How the functions inside this crate hand on what they read and wrote. No public contract cites these.
use Rattle.std.specs.Prelude.{◌≡◌, ℕ, ◌+◌, ◌*◌, List, [], ◌∷◌, ◌++◌, length, take, drop, slice_index, Option, Some, None, Result, Ok, Err}
use Rattle.std.proofs.Math.Option as maybe
use Rattle.octets.specs.Options.{contents}
use Rattle.rules.specs.Limits.{key_octets, address_octets}
use Rattle.rules.specs.Answers.{Answer, Done, Refused, answer_number}
use Rattle.rules.specs.Refusals.{refusal_number}
use Rattle.rules.specs.declared.answer.Refusal.{Refusal}
use Rattle.book.specs.declared.line.Keys.{Keys}
use Rattle.book.specs.declared.line.Request.{Request}
use Rattle.book.specs.declared.line.Request.TheVariants.{Seal, Open}
use Rattle.book.specs.Decimal.{decimal}
use Rattle.book.specs.Hex.{digit, octets_of}
use Rattle.book.specs.Text.{tab, line_feed, parts}
use Rattle.book.specs.Line.{fields, field, key_word, Asked, malformed, sealing, opening}
use Rattle.book.specs.Book.{shown}

-- what a reading into out found, by how many octets it found
abbrev pub read_in : Option ℕ → List ℕ → maybe.Option (List ℕ)
read_in None out = maybe.none
read_in (Some n) out = maybe.some (take n out)

abbrev pub count_in : Option ℕ → ℕ
count_in None = 0
count_in (Some n) = n

-- what a reading of an array found
abbrev pub array_in : Option (List ℕ) → maybe.Option (List ℕ)
array_in None = maybe.none
array_in (Some l) = maybe.some l

-- how many octets are read at once, from digits two by two as one number each
abbrev pub block : ℕ
block = 32

abbrev pub pairs : List ℕ → List ℕ
pairs [] = []
pairs (x ∷ []) = []
pairs (x ∷ y ∷ t) = (x + 256 * y) ∷ pairs t

-- what a line asks, its frame being in the front of a room
abbrev pub request_in : Option Request → List ℕ → Asked
request_in None room = malformed
request_in (Some (Seal n)) room = sealing (take n room)
request_in (Some (Open n)) room = opening (take n room)

-- the octets of that frame
abbrev pub frame_in : Option Request → ℕ
frame_in None = 0
frame_in (Some (Seal n)) = n
frame_in (Some (Open n)) = n

-- where the fields of a good line 1 begin, each a tab after the one before it, and the octets of that line
abbrev pub key_at : ℕ
key_at = length key_word + 1

abbrev pub key_id_at : ℕ
key_id_at = key_at + 2 * key_octets + 1

abbrev pub own_at : ℕ
own_at = key_id_at + 1 + 1

abbrev pub peer_at : ℕ
peer_at = own_at + 2 * address_octets + 1

abbrev pub key_line_octets : ℕ
key_line_octets = peer_at + 2 * address_octets

-- those fields
abbrev pub word_part : List ℕ → List ℕ
word_part line = take (length key_word) line

abbrev pub key_part : List ℕ → List ℕ
key_part line = take (2 * key_octets) (drop key_at line)

abbrev pub key_id_part : List ℕ → List ℕ
key_id_part line = take 1 (drop key_id_at line)

abbrev pub own_part : List ℕ → List ℕ
own_part line = take (2 * address_octets) (drop own_at line)

abbrev pub peer_part : List ℕ → List ℕ
peer_part line = take (2 * address_octets) (drop peer_at line)

-- the fields of line 1, but for the last, by the places of its tabs
pub record KeyTabs (line : List ℕ) : Type 0 where
  pub size : length line ≡ key_line_octets
  pub placed : fields line ≡ word_part line ∷ key_part line ∷ key_id_part line ∷ own_part line ∷ parts tab (drop peer_at line)

-- what the fields of a good line 1 give
pub record Given (fs : List (List ℕ)) (k : Keys) : Type 0 where
  pub key_is : k.key ≡ contents (octets_of (field fs 1))
  pub key_id_is : k.key_id ≡ digit (slice_index (field fs 2) 0)
  pub own_is : k.own ≡ contents (octets_of (field fs 3))
  pub peer_is : k.peer ≡ contents (octets_of (field fs 4))

-- a word between tabs
abbrev pub tabbed : List ℕ → List ℕ
tabbed word = tab ∷ (word ++ (tab ∷ []))

-- an answer's line, its word being between tabs
abbrev pub answer_text : ℕ → List ℕ → Answer → List ℕ → List ℕ
answer_text n word a output = decimal n ++ (word ++ (decimal (answer_number a) ++ (tab ∷ (shown a output ++ (line_feed ∷ [])))))

-- an answer, by the octets that it wrote or its refusal
abbrev pub as_answer : Result ℕ Refusal → Answer
as_answer (Ok k) = Done 0 0 k
as_answer (Err x) = Refused (refusal_number x)

-- the octets that an answer wrote
abbrev pub octets_written : Answer → ℕ
octets_written (Done n p k) = k
octets_written (Refused a) = 0
