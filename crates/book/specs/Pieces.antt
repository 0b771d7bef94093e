-- Document 01, "The frame book": the output to a whole text, and to a text that comes in pieces.
use Rattle.std.specs.Prelude.{◌≡◌, ℕ, ◌+◌, ◌<◌, ◌≤◌, List, [], ◌∷◌, ◌++◌, length, take}
use Rattle.book.specs.Limits.{most_kept, most_answer}
use Rattle.book.specs.declared.Book.{Book}
use Rattle.book.specs.declared.Reader.{Reader}
use Rattle.book.specs.Put.{put}
use Rattle.book.specs.Text.{line_feed, prefix, parts, all_but_last, last_of, unended, lines}
use Rattle.book.specs.Book.{new_book, book_says, book_next}

-- what is written to lines, and the book after them
unfoldable pub says : Book → List (List ℕ) → List ℕ
says b [] = []
says b (l ∷ ls) = book_says b l ++ says (book_next b l) ls

unfoldable pub after : Book → List (List ℕ) → Book
after b [] = b
after b (l ∷ ls) = after (book_next b l) ls

-- the output to a whole text
unfoldable pub book_output : List ℕ → List ℕ
book_output text = says new_book (lines text)

-- what is kept of a line that has not ended: one octet more than a line may have
abbrev pub cut : List ℕ → List ℕ
cut line = take most_kept line

abbrev pub held : Reader → List ℕ
held r = take r.length r.line

-- a piece of text after a line that has not ended: the lines that it ends, and the one that it leaves
abbrev pub ended : List ℕ → List ℕ → List (List ℕ)
ended line piece = all_but_last (prefix line (parts line_feed piece))

abbrev pub left : List ℕ → List ℕ → List ℕ
left line piece = last_of (prefix line (parts line_feed piece))

-- the output to pieces one after another, and then the end of the text
unfoldable pub fed_output : Book → List ℕ → List (List ℕ) → List ℕ
fed_output b line [] = says b (unended line)
fed_output b line (t ∷ ts) = says b (ended line t) ++ fed_output (after b (ended line t)) (cut (left line t)) ts

abbrev pub joined : List (List ℕ) → List ℕ
joined [] = []
joined (t ∷ ts) = t ++ joined ts

-- how a text comes in pieces changes nothing
abbrev pub AnyPieces : Type 0
AnyPieces = (ts : List (List ℕ)) → fed_output new_book [] ts ≡ book_output (joined ts)

-- what a piece gave after a line that has not ended: the answers in the front of the room, the book after them, and the line that it leaves
pub record Gave (b : Book) (line piece room : List ℕ) (b' : Book) (line' room' : List ℕ) (written : ℕ) : Type 0 where
  pub book_is : b' ≡ after b (ended line piece)
  pub line_is : line' ≡ cut (left line piece)
  pub room_is : room' ≡ put 0 (says b (ended line piece)) room
  pub written_is : written ≡ length (says b (ended line piece))

-- a piece is taken whole, or until there is no room left for an answer
pub record Enough (piece taken room written : ℕ) : Type 0 where
  pub within : taken ≤ piece
  pub fits : written ≤ room
  pub whole : taken < piece → room < written + most_answer
  pub some : 0 < piece → most_answer ≤ room → 0 < taken
