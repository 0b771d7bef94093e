-- What CCM answers and writes, as the text and the body of the mode.
use Rattle.std.proofs.Common.{◌≡◌, Bool, is_some, ℕ, ◌+◌, ◌-◌, ◌≤◌, not, List, ◌++◌, length, drop, refl, ap, ◌∙◌, arith, le-leb}
use mathlib.Core.Option.{Option, none, some}
use Rattle.octets.specs.Options.{contents, is_none}
use Rattle.aes.specs.KeyExpansion.{aes128}
use Rattle.ccm.specs.Ccm.{sealed, opened}
use Rattle.ccm.specs.Room.{fitting, outcome, written}
use Rattle.rules.specs.Limits.{least_data, most_data, most_body}
use Rattle.rules.specs.Mode.{code_octets, sealed_text, opened_body}
use Rattle.rules.proofs.Mode.{text_length, text_seals, text_is}

fits : (room : List ℕ) (o : Option (List ℕ)) → ((t : List ℕ) → o ≡ some t → length t ≤ length room) → fitting room o ≡ o
fits room none h = refl
fits room (some t) h = rw (le-leb (length t) (length room) (h t refl))

written_is : (room : List ℕ) (o : Option (List ℕ)) → written room o ≡ contents o ++ drop (length (contents o)) room
written_is room none = refl
written_is room (some t) = refl

some_is_not_none : (o : Option (List ℕ)) → is_some (outcome o) ≡ not (is_none o)
some_is_not_none none = refl
some_is_not_none (some t) = refl

module _ (key N a room : List ℕ) where
  pub text_put : (m out : List ℕ) → least_data ≤ length a → length a ≤ most_data → length m ≤ most_body → length m + code_octets ≤ length room
      → out ≡ written room (fitting room (sealed (aes128 key) code_octets N a m)) → out ≡ contents (sealed_text key N a m) ++ drop (length m + code_octets) room
  unfolding sealed_text
  text_put m out l h b enough e =
      let o = sealed_text key N a m in
      let is : o ≡ some (contents o) = text_is key N a m l h b in
      let size : length (contents o) ≡ length m + code_octets = text_length key N a m (contents o) is in
      e ∙ ap (written room) (fits room o (λ t q. omega (arith, text_length key N a m t q)))
      ∙ written_is room o
      ∙ ap (λ (k : ℕ). contents o ++ drop k room) size

  module _ (t : List ℕ) (enough : length t - code_octets ≤ length room) where
    body_fits : fitting room (opened_body key N a t) ≡ opened_body key N a t
    body_fits = fits room (opened_body key N a t) (λ m q. omega (arith, text_length key N a m t (text_seals key N a m t q)))

    pub body_put : (out : List ℕ) → out ≡ written room (fitting room (opened (aes128 key) code_octets N a t))
        → out ≡ contents (opened_body key N a t) ++ drop (length (contents (opened_body key N a t))) room
    unfolding opened_body
    body_put out e = e ∙ ap (written room) body_fits ∙ written_is room (opened_body key N a t)

    -- whether there is a body, by whether CCM's answer tells one
    pub told : (r : Bool) → r ≡ is_some (outcome (fitting room (opened (aes128 key) code_octets N a t))) → r ≡ not (is_none (opened_body key N a t))
    unfolding opened_body
    told r e = e ∙ ap (λ (o : Option (List ℕ)). is_some (outcome o)) body_fits ∙ some_is_not_none (opened_body key N a t)
