use Prim.Native.Nat.{ℕ, ◌^◌, ◌-◌, ◌+◌, ◌<◌}
use Rattle.std.specs.Fmt.{digits, padded_integral, format_spec}
use Rattle.std.proofs.lemmas.Fmt.{hex_byte}
use Rattle.std.proofs.lemmas.List.{flat_map_more, take_more}
use Rattle.show.specs.Digits.{two_digits, hexadecimal}
use lib.ListN.{length, get_or, take}
use mathlib.Core.Bool.{false}
use mathlib.Core.List.{List, [], ◌++◌}
use mathlib.Core.Path.{◌≡◌, ◌∙◌, ap, sym}

-- What is written of one octet more.
pub digits_more : (s : List ℕ) (i : ℕ) → i < length s → get_or s i 0 < 256 → hexadecimal (take i s) ++ padded_integral (format_spec 32 0 4 2 (2 ^ 64 - 1)) false [] (digits 16 false (get_or s i 0)) ≡ hexadecimal (take (i + 1) s)
digits_more s i l e =
    ap (λ d. hexadecimal (take i s) ++ d) (hex_byte false (get_or s i 0) e)
    ∙ flat_map_more two_digits [] (take i s) (get_or s i 0)
    ∙ ap hexadecimal (sym (take_more s i 0 l))
