-- Document 01, "The frame book": lower-case hexadecimal, two digits an octet.
use Rattle.std.specs.Prelude.{ℕ, ◌+◌, ◌-◌, ◌*◌, ◌/◌, ◌%◌, cond, ◌&&◌, List, [], ◌∷◌, ◌++◌, nat_le, nat_lt}
use Rattle.std.proofs.Math.Option.{Option, none, some}

-- the digit of a number below 16: `0` to `9` are the octets 48 to 57, `a` to `f` are 97 to 102
abbrev pub letter : ℕ → ℕ
letter n = cond (nat_lt n 10) (48 + n) (97 + (n - 10))

-- the number of a digit; 16 for any octet that is none
abbrev pub digit : ℕ → ℕ
digit x = cond (nat_le 48 x && nat_le x 57) (x - 48) (cond (nat_le 97 x && nat_le x 102) (x - 97 + 10) 16)

-- two digits an octet, the high one first
unfoldable pub hex_of : List ℕ → List ℕ
hex_of [] = []
hex_of (x ∷ l) = letter (x / 16) ∷ letter (x % 16) ∷ hex_of l

-- octets, and after them those that more digits write
abbrev pub before : List ℕ → Option (List ℕ) → Option (List ℕ)
before l none = none
before l (some m) = some (l ++ m)

-- the octets that digits write; none where one is no digit or their number is odd
unfoldable pub octets_of : List ℕ → Option (List ℕ)
octets_of [] = some []
octets_of (x ∷ []) = none
octets_of (x ∷ y ∷ t) = cond (nat_lt (digit x) 16 && nat_lt (digit y) 16) (before ((16 * digit x + digit y) ∷ []) (octets_of t)) none
