-- The frames that calls on a fresh sender seal carry 1, 2, 3, .. in order: its last number is the number of frames sealed.
use mathlib.Core.Path.{◌≡◌, ap, ◌∙◌}
use mathlib.Core.Bool.{true}
use mathlib.Core.List.{List}
use Prim.Native.Nat.{ℕ, ◌+◌, ◌<◌}
use native.Mathlib.Nat.{zero-add}
use lib.ListN.{length}
use Rattle.rules.specs.Nonce.{number}
use Rattle.rules.specs.Records.{sound_sender, fresh_answer, new_sender, with_last}
use Rattle.rules.specs.Sending.{SenderCall, sent_at, sent}
use Rattle.rules.specs.Numbers.{Numbered, Numbers}
use Rattle.rules.specs.Answers.{Done}
use Rattle.rules.specs.declared.Sender.{Sender}
use Rattle.rules.proofs.Sealed.{sealed_number}
use Rattle.rules.proofs.Sends.{Genuine, fits, run_is, run_sound, sent_at_lem}
use Rattle.rules.proofs.Delivery.{made, made_sender}

module _ (key address : List ℕ) (keyId : ℕ) (cs : List SenderCall) where
  abbrev s₀ : Sender
  s₀ = new_sender key keyId address

  module _ (i : ℕ) (l : i < length (sent s₀ cs)) where
    genuine : Genuine (with_last s₀ i) (sent_at (sent s₀ cs) i)
    genuine = rw zero-add at (sent_at_lem s₀ cs i l)

    pub number_at : (sent_at (sent s₀ cs) i).number ≡ i + 1
    number_at = genuine.number_is

    carried : number (sent_at (sent s₀ cs) i).octets ≡ i + 1
    carried =
        let x = sent_at (sent s₀ cs) i in
        let g = genuine in
        ap number g.octets_are
        ∙ sealed_number (with_last s₀ i) x.original x.number g.sealable (fits (with_last s₀ i) x g)
        ∙ number_at

  numbered : sound_sender s₀ ≡ true → Numbered s₀ cs
  numbered sound =
      record { in_order_lem = number_at; carried = carried; last = ap (λ (s : Sender). s.last) (run_is s₀ cs) ∙ rw zero-add; sound = run_sound s₀ cs sound }

fresh_sound : (key address : List ℕ) (keyId : ℕ) → fresh_answer keyId ≡ Done 0 0 0 → sound_sender (new_sender key keyId address) ≡ true
unfolding sound_sender
fresh_sound key address keyId e = rw (made keyId e)

pub numbers : Numbers
numbers key address keyId e cs = rw (made_sender key keyId address e) (numbered key address keyId cs (fresh_sound key address keyId e))
