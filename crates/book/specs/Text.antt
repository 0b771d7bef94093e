-- Document 01, "The frame book": the lines of a text, the fields of a line, and a line of output.
use Rattle.std.specs.Prelude.{ℕ, cond, List, [], ◌∷◌, ◌++◌, ◌==◌}

abbrev pub tab : ℕ
tab = 9

abbrev pub line_feed : ℕ
line_feed = 10

-- p before the first of the parts
abbrev pub prefix : List ℕ → List (List ℕ) → List (List ℕ)
prefix p [] = p ∷ []
prefix p (q ∷ qs) = (p ++ q) ∷ qs

-- the parts of a text between its octets x, one more than there are of these
unfoldable pub parts : ℕ → List ℕ → List (List ℕ)
parts x [] = [] ∷ []
parts x (y ∷ text) = cond (y == x) ([] ∷ parts x text) (prefix (y ∷ []) (parts x text))

-- the parts that an octet x ends, and the part after the last of them
abbrev pub all_but_last : List (List ℕ) → List (List ℕ)
all_but_last [] = []
all_but_last (p ∷ []) = []
all_but_last (p ∷ q ∷ qs) = p ∷ all_but_last (q ∷ qs)

abbrev pub last_of : List (List ℕ) → List ℕ
last_of [] = []
last_of (p ∷ []) = p
last_of (p ∷ q ∷ qs) = last_of (q ∷ qs)

-- a last line without a line feed counts if it isn't empty
abbrev pub unended : List ℕ → List (List ℕ)
unended [] = []
unended (x ∷ l) = (x ∷ l) ∷ []

-- the lines of a text: a line feed alone ends a line
unfoldable pub lines : List ℕ → List (List ℕ)
lines text = all_but_last (parts line_feed text) ++ unended (last_of (parts line_feed text))

-- a line of output: fields parted by tabs, and a line feed
abbrev pub line_of : List (List ℕ) → List ℕ
line_of [] = line_feed ∷ []
line_of (f ∷ []) = f ++ (line_feed ∷ [])
line_of (f ∷ g ∷ fs) = f ++ (tab ∷ line_of (g ∷ fs))
