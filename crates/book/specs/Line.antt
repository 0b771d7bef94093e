-- Document 01, "The frame book": the forms of a line.
use Rattle.std.specs.Prelude.{ℕ, ◌*◌, Bool, false, cond, not, ◌&&◌, List, [], ◌∷◌, length, ◌==◌, nat_le, nat_lt, slice_index_or}
use Rattle.std.proofs.Math.Option.{Option, none, some}
use Rattle.octets.specs.Octets.{same}
use Rattle.octets.specs.Options.{is_none}
use Rattle.rules.specs.Limits.{most_key_id, key_octets, address_octets}
use Rattle.book.specs.Limits.{most_line}
use Rattle.book.specs.Hex.{digit, octets_of}
use Rattle.book.specs.Text.{tab, parts}

-- the fields of a line; one that is too long has none
unfoldable pub fields : List ℕ → List (List ℕ)
fields line = cond (nat_lt most_line (length line)) [] (parts tab line)

-- `key`, `seal` and `open`
abbrev pub key_word : List ℕ
key_word = 107 ∷ 101 ∷ 121 ∷ []

abbrev pub seal_word : List ℕ
seal_word = 115 ∷ 101 ∷ 97 ∷ 108 ∷ []

abbrev pub open_word : List ℕ
open_word = 111 ∷ 112 ∷ 101 ∷ 110 ∷ []

-- the digits of n octets
unfoldable pub is_hex : ℕ → List ℕ → Bool
is_hex n digits = length digits == 2 * n && not (is_none (octets_of digits))

-- one digit, a key ID
unfoldable pub is_key_id : List ℕ → Bool
is_key_id [] = false
is_key_id (d ∷ []) = nat_le (digit d) most_key_id
is_key_id (d ∷ e ∷ more) = false

abbrev pub field : List (List ℕ) → ℕ → List ℕ
field fs i = slice_index_or fs i []

-- line 1: `key`, key, key ID digit, own address, peer address
unfoldable pub is_key_line : List (List ℕ) → Bool
is_key_line fs =
    (length fs == 5)
    && (same (field fs 0) key_word && (is_hex key_octets (field fs 1) && (is_key_id (field fs 2) && (is_hex address_octets (field fs 3) && is_hex address_octets (field fs 4)))))

-- a later line: `seal` or `open`, then the frame
pub data Asked : Type 0 where
  malformed : Asked
  sealing : List ℕ → Asked
  opening : List ℕ → Asked

unfoldable pub asked_of : List ℕ → Option (List ℕ) → Asked
asked_of word none = malformed
asked_of word (some frame) = cond (same word seal_word) (sealing frame) (cond (same word open_word) (opening frame) malformed)

unfoldable pub asked : List (List ℕ) → Asked
asked fs = cond (length fs == 2) (asked_of (field fs 0) (octets_of (field fs 1))) malformed
