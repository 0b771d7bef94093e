-- What is printed of octets: two hexadecimal digits of each.
use Rattle.std.specs.Prelude.{ℕ, List, [], ◌∷◌, ◌/◌, ◌%◌, false}
use Rattle.std.specs.List.{flat_map}
use Rattle.std.specs.Fmt.{digit_glyph}

abbrev pub two_digits : ℕ → List ℕ
two_digits x = digit_glyph false (x / 16) ∷ digit_glyph false (x % 16) ∷ []

abbrev pub hexadecimal : List ℕ → List ℕ
hexadecimal s = flat_map two_digits s
