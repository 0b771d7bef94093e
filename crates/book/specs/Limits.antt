-- Document 01, "The frame book": the longest line, and what follows from it.
use Rattle.std.specs.Prelude.{ℕ, ◌+◌, ◌*◌, ◌/◌}
use Rattle.rules.specs.Mode.{added}

-- the octets of a line without its line feed
abbrev pub most_line : ℕ
most_line = 16000

-- what is kept of a line that has not ended: one octet more, so that a line that is too long shows
abbrev pub most_kept : ℕ
most_kept = most_line + 1

-- the octets of a line's frame at most, and those of its result
abbrev pub most_frame : ℕ
most_frame = most_line / 2

abbrev pub most_result : ℕ
most_result = most_frame + added

-- the digits of a number below 2^64 at most
abbrev pub most_digits : ℕ
most_digits = 20

-- the octets of an answer's word, `seal` or `open`, between its tabs
abbrev pub word_octets : ℕ
word_octets = 6

-- the octets of an answer at most: two numbers, a word between tabs, a tab, the result's digits and a line feed
abbrev pub most_answer : ℕ
most_answer = most_digits + word_octets + most_digits + 1 + 2 * most_result + 1
