-- Document 01, "The frame book": what a book writes to a line, and the book after it.
use Rattle.std.specs.Prelude.{ℕ, ◌+◌, ◌%◌, ◌^◌, cond, List, [], ◌∷◌, length, take, replicate, slice_index}
use Rattle.octets.specs.Options.{contents}
use Rattle.rules.specs.Mode.{added}
use Rattle.rules.specs.Limits.{small_window}
use Rattle.rules.specs.Records.{zero_sender, zero_receiver, fresh_sender, fresh_receiver}
use Rattle.rules.specs.Answers.{Answer, Done, Refused, answer_number}
use Rattle.rules.specs.Sealing.{seal_answer, seal_next, seal_output}
use Rattle.rules.specs.Opening.{open_answer, open_next, open_output}
use Rattle.rules.specs.declared.Sender.{Sender}
use Rattle.rules.specs.declared.Receiver.{Receiver}
use Rattle.book.specs.declared.Book.{Book}
use Rattle.book.specs.declared.Stage.{Stage}
use Rattle.book.specs.declared.Stage.TheVariants.{First, Going, Ended}
use Rattle.book.specs.Decimal.{decimal}
use Rattle.book.specs.Hex.{digit, hex_of, octets_of}
use Rattle.book.specs.Text.{line_of}
use Rattle.book.specs.Line.{fields, field, seal_word, open_word, is_key_line, Asked, malformed, sealing, opening, asked}

-- before line 1
abbrev pub new_book : Book
new_book = record { lines = 0; stage = First; sender = zero_sender; receiver = zero_receiver }

-- the number of the next line, in 64 bits
abbrev pub line_number : Book → ℕ
line_number b = (b.lines + 1) % 2 ^ 64

-- the book one line later
abbrev pub turned : Book → Stage → Sender → Receiver → Book
turned b stage s r = record { lines = line_number b; stage = stage; sender = s; receiver = r }

-- room that is always enough
abbrev pub room_for : List ℕ → List ℕ
room_for frame = replicate (length frame + added) 0

-- `bad`, and the `-` that stands for a result
abbrev pub bad_word : List ℕ
bad_word = 98 ∷ 97 ∷ 100 ∷ []

abbrev pub no_result : List ℕ
no_result = 45 ∷ []

-- line number, `bad`
unfoldable pub bad_line : ℕ → List ℕ
bad_line n = line_of (decimal n ∷ bad_word ∷ [])

-- the result frame, or `-`
abbrev pub shown : Answer → List ℕ → List ℕ
shown (Done n p k) output = hex_of (take k output)
shown (Refused a) output = no_result

-- line number, word, answer number, result frame or `-`
unfoldable pub answer_line : ℕ → List ℕ → Answer → List ℕ → List ℕ
answer_line n word a output = line_of (decimal n ∷ word ∷ decimal (answer_number a) ∷ shown a output ∷ [])

-- the answers to a frame sealed, and to one opened
unfoldable pub seal_line : ℕ → Sender → List ℕ → List ℕ
seal_line n s f = answer_line n seal_word (seal_answer s f (room_for f)) (seal_output s f (room_for f))

unfoldable pub open_line : ℕ → Receiver → List ℕ → List ℕ
open_line n r f = answer_line n open_word (open_answer r f (room_for f)) (open_output r f (room_for f))

-- a later line is answered by sealing or opening its frame; a malformed one changes nothing
unfoldable pub answer_to : Book → Asked → List ℕ
answer_to b malformed = bad_line (line_number b)
answer_to b (sealing f) = seal_line (line_number b) b.sender f
answer_to b (opening f) = open_line (line_number b) b.receiver f

unfoldable pub after_asked : Book → Asked → Book
after_asked b malformed = turned b Going b.sender b.receiver
after_asked b (sealing f) = turned b Going (seal_next b.sender f (room_for f)) b.receiver
after_asked b (opening f) = turned b Going b.sender (open_next b.receiver f (room_for f))

-- a good line 1 makes the two records and writes nothing; a bad one ends the run
unfoldable pub begun : Book → List (List ℕ) → Book
begun b fs =
    let key = contents (octets_of (field fs 1)) in
    let keyId = digit (slice_index (field fs 2) 0) in
    cond (is_key_line fs)
    (turned b Going (fresh_sender key keyId (contents (octets_of (field fs 3)))) (fresh_receiver key keyId (contents (octets_of (field fs 4))) small_window))
    (turned b Ended b.sender b.receiver)

abbrev pub says_at : Stage → Book → List (List ℕ) → List ℕ
says_at First b fs = cond (is_key_line fs) [] (bad_line (line_number b))
says_at Going b fs = answer_to b (asked fs)
says_at Ended b fs = []

abbrev pub next_at : Stage → Book → List (List ℕ) → Book
next_at First b fs = begun b fs
next_at Going b fs = after_asked b (asked fs)
next_at Ended b fs = b

unfoldable pub book_says : Book → List ℕ → List ℕ
book_says b line = says_at b.stage b (fields line)

unfoldable pub book_next : Book → List ℕ → Book
book_next b line = next_at b.stage b (fields line)
