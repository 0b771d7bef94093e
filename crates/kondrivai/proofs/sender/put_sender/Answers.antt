use mathlib.Core.Path.{◌≡◌, sym, ap, ◌∙◌}
use mathlib.Core.List.{List, [], ◌∷◌, ◌++◌, append_assoc}
use Prim.Native.Nat.{ℕ, ◌+◌}
use native.Mathlib.Omega.{arith}
use lib.ListN.{length, take}
use lib.Seq.{take_all}
use Rattle.rules.specs.Limits.{key_octets, address_octets}
use Rattle.kondrivai.specs.Layout1.{sender_size, sender_octets}
use Rattle.kondrivai.specs.Numbers.{octets_of}
use borrow.Author.Rules.{rules}
use Rattle.kondrivai.proofs.sender.put_sender.Goals as goal

-- Each field is written behind the one before it.
pub returns : goal.returns
unfolding sender_octets
returns c =
    let s = c.args.s in
    let address_size : length s.address ≡ address_octets = search rules in
    let key_size : length s.key ≡ key_octets = search rules in
    let key_end : 25 ≡ 9 + length s.key = omega (arith, key_size) in
    let address_end : 9 ≡ 3 + length s.address = omega (arith, address_size) in
    sym (take_all sender_size c.put_six.new.b (search rules))
    ∙ c.put_six.ensures
    ∙ ap (λ (t : List ℕ). t ++ octets_of 6 s.last)
    (ap (λ (n : ℕ). take n c.put_octets-2.new.b) key_end
    ∙ c.put_octets-2.ensures
    ∙ ap (λ (t : List ℕ). t ++ s.key)
    (ap (λ (n : ℕ). take n c.put_octets.new.b) address_end
    ∙ c.put_octets.ensures
    ∙ ap (λ (t : List ℕ). t ++ s.address) (c.put_octet.ensures ∙ ap (λ (t : List ℕ). t ++ (s.key_id ∷ [])) c.put_front.ensures)))
    ∙ simp append_assoc
