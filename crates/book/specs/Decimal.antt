-- Document 01, "The frame book": numbers are decimal.
use Rattle.std.specs.Prelude.{ℕ, zero, suc, ◌+◌, ◌/◌, ◌%◌, cond, List, [], ◌∷◌, ◌++◌, nat_lt}
use Rattle.book.specs.Limits.{most_digits}

-- the digits of n, the last k at most: the most significant first, no leading zeros, 0 as `0`
unfoldable pub digits_of : ℕ → ℕ → List ℕ
digits_of zero n = []
digits_of (suc k) n = cond (nat_lt n 10) ((48 + n) ∷ []) (digits_of k (n / 10) ++ ((48 + n % 10) ∷ []))

-- the digits of a number below 2^64
abbrev pub decimal : ℕ → List ℕ
decimal n = digits_of most_digits n
