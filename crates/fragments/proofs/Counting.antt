-- How many fragments a message makes, by a division that rounds up, and the octets that they have sealed.
use mathlib.Core.Path.{◌≡◌, sym, ap₂, ◌∙◌}
use mathlib.Core.List.{List}
use Prim.Native.Nat.{ℕ, ◌+◌, ◌-◌, ◌*◌, ◌/◌, ◌%◌, ◌<◌, ◌≤◌, min}
use native.Mathlib.Nat.{mul-le-mul}
use native.Mathlib.Omega.{arith}
use Rattle.std.proofs.lemmas.Grind.{div_ceil_times}
use lib.ListN.{length, length-drop}
use Rattle.rules.specs.Limits.{most_header, most_fragments}
use Rattle.rules.specs.Header.{header_length}
use Rattle.rules.specs.Mode.{added}
use Rattle.rules.specs.Splitting.{message, fragments, sealed_length}
use Rattle.rules.proofs.Fields.{header_range}
use Rattle.rules.proofs.Splits.{pieces_count, fragments_count, count_is, fragments_octets}
use Rattle.fragments.specs.Cutting.{Cut}

pub message_size : (f : List ℕ) → length (message f) ≡ length f - header_length f
unfolding message
message_size f = length-drop (header_length f) f

module _ (size : ℕ) (f : List ℕ) (h : ℕ) (cut : Cut size f h) where
  pub message_is : length (message f) ≡ length f - h
  message_is = omega (arith, message_size f, cut.header)

  pub divided : (length f - h) / size + min 1 ((length f - h) % size) ≡ length (fragments size f)
  divided =
      let x : ℕ = length f - h in
      let q : ℕ = x / size + min 1 (x % size) in
      let t : (x ≤ q * size) × (q * size < x + size) = div_ceil_times x size (omega (arith, cut.fit.least_size_lem)) in
      sym (fragments_count size f ∙ count_is size f cut.fit.few q (omega (arith, message_is, t.0)) (omega (arith, message_is, t.1)))

  pub most_count : length (fragments size f) ≤ most_fragments
  most_count = omega (arith, fragments_count size f, pieces_count size f)

  pub most_added : length (fragments size f) * (h + added) ≤ most_fragments * (most_header + added)
  most_added = let l : h + added ≤ most_header + added = omega (arith, cut.header, header_range f) in mul-le-mul most_count l

  pub octets_are : length f - h + length (fragments size f) * (h + added) ≡ sealed_length (fragments size f)
  octets_are =
      sym (fragments_octets size f cut.fit.few cut.whole ∙ ap₂ (λ (x y : ℕ). x + length (fragments size f) * (y + added)) message_is (sym cut.header))
