-- What the frame rules know of the mode: its laws, at the lengths that frames have.
use mathlib.Core.Path.{◌≡◌, sym, ap, ◌∙◌}
use mathlib.Core.List.{List}
use mathlib.Core.Option.{Option, some}
use Prim.Native.Nat.{ℕ, ◌+◌, ◌≤◌}
use native.Mathlib.Omega.{arith}
use lib.Dec.{lit≤}
use lib.ListN.{length}
use Rattle.aes.specs.KeyExpansion.{aes128}
use Rattle.aes.proofs.Laws.{length_aes128}
use Rattle.ccm.proofs.Laws.{limits_hold, seals, length_sealed, sealed_opens, opened_seals}
use Rattle.octets.specs.Options.{contents}
use Rattle.rules.specs.Limits.{least_data, most_data, most_body}
use Rattle.rules.specs.Mode.{code_octets, sealed_text, opened_body}

module _ (key N a m : List ℕ) where
  pub text_length : (t : List ℕ) → sealed_text key N a m ≡ some t → length t ≡ length m + code_octets
  unfolding sealed_text
  text_length t e = length_sealed (aes128 key) (length_aes128 key) code_octets (lit≤ tt) N a m t e

  pub text_opens : (t : List ℕ) → sealed_text key N a m ≡ some t → opened_body key N a t ≡ some m
  unfolding sealed_text opened_body
  text_opens t e = sealed_opens (aes128 key) (length_aes128 key) code_octets (lit≤ tt) N a m t e

  pub text_seals : (t : List ℕ) → opened_body key N a t ≡ some m → sealed_text key N a m ≡ some t
  unfolding sealed_text opened_body
  text_seals t e = opened_seals (aes128 key) (length_aes128 key) code_octets (lit≤ tt) N a m t e

  -- a frame's body has a text
  pub text_is : least_data ≤ length a → length a ≤ most_data → length m ≤ most_body → sealed_text key N a m ≡ some (contents (sealed_text key N a m))
  unfolding sealed_text
  text_is p q r =
      let e = seals (aes128 key) (length_aes128 key) code_octets (lit≤ tt) N a m (limits_hold (length a) (length m) (omega arith) (omega arith) (omega arith)) in
      e ∙ ap (λ (o : Option (List ℕ)). some (contents o)) (sym e)
