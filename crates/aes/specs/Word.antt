-- How the code holds a state, and what its tables hold.
use Rattle.std.specs.Prelude.{◌≡◌, List, [], ◌∷◌, ◌++◌, ℕ, ◌+◌, ◌*◌, ◌/◌, ◌%◌, ◌<◌, length, get_or}
use Rattle.aes.specs.declared.rounds.State.{State}
use Rattle.aes.specs.Field.{◌•◌}
use Rattle.aes.specs.Cipher.{sbox}

-- a word of four bytes in a u32, the first lowest
abbrev pub bytes : ℕ → List ℕ
bytes x = x % 256 ∷ x / 256 % 256 ∷ x / 65536 % 256 ∷ x / 16777216 ∷ []

-- the number that holds a word
abbrev pub number : List ℕ → ℕ
number b = get_or b 0 0 + 256 * (get_or b 1 0 + 256 * (get_or b 2 0 + 256 * get_or b 3 0))

-- a state in four words, a column each
abbrev pub bytes_of : State → List ℕ
bytes_of s = bytes s.a ++ (bytes s.b ++ (bytes s.c ++ bytes s.d))

-- a byte times the first column of MixColumns' matrix
unfoldable pub products : ℕ → List ℕ
products s = 2 • s ∷ s ∷ s ∷ 3 • s ∷ []

-- the constant table, figure 7 of 5.1.1: at x the S-box's value of x
pub record SBox (t : List ℕ) : Type 0 where
  pub size : length t ≡ 256
  pub entry : (x : ℕ) → x < 256 → get_or t x 0 ≡ sbox x

-- the table that is lent to the rounds: at x the products of the S-box's value of x, in each half of a u64
pub record Products (t : List ℕ) : Type 0 where
  pub size : length t ≡ 256
  pub entry : (x : ℕ) → x < 256 → get_or t x 0 ≡ 4294967297 * number (products (sbox x))
