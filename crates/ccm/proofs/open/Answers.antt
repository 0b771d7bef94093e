use mathlib.Core.Path.{◌≡◌, refl, sym, ap, ◌∙◌}
use mathlib.Core.Bool.{Bool}
use mathlib.Core.List.{List}
use Prim.Native.Nat.{ℕ, ◌-◌}
use native.Mathlib.Omega.{arith}
use lib.ListN.{length, take, drop, length-take}
use lib.Dec.{lit≤}
use Rattle.aes.specs.KeyExpansion.{aes128}
use Rattle.ccm.specs.Limits.{code_octets}
use Rattle.octets.specs.Octets.{same}
use Rattle.ccm.specs.Ccm.{masked, U, chain, B₀, coded}
use Rattle.ccm.specs.Blocks.{blocks}
use Rattle.ccm.specs.Room.{right_from}
use Rattle.aes.proofs.Laws.{length_aes128}
use Rattle.ccm.proofs.Laws.{in_limits_lem}
use Rattle.ccm.proofs.Splitting.{length_masked}
use Rattle.ccm.proofs.Codes.{code_is, compared_as}
use Rattle.ccm.proofs.Answers.{open_short, open_limits, open_small, open_wrong, open_right, left_kept, left_put, by_cipher}
use Rattle.ccm.proofs.open.Goals as goal

-- whether the code of the whole message is right
right_is : (key N aad t X : List ℕ) (right : Bool)
    → let n = length t - code_octets in
    X ≡ chain (aes128 key) (aes128 key (B₀ code_octets N n)) (blocks (coded aad))
    → right ≡ right_from (aes128 key) N 1 X t
    → right ≡ same (U (aes128 key) code_octets N aad (masked (aes128 key) N 1 (take n t))) (drop n t)
right_is key N aad t X right x e =
    let E = aes128 key in
    let size = length_masked E (length_aes128 key) N 1 (take (length t - code_octets) t) in
    compared_as _ _ _ _ e
    (code_is E code_octets N aad _ _ _ _ _ (omega (arith, size, length-take (length t - code_octets) t)) x refl refl)

pub returns-then-text-lt-CODE_OCTETS : goal.returns-then-text-lt-CODE_OCTETS
returns-then-text-lt-CODE_OCTETS c =
    let a = c.args in
    let w = open_short (aes128 a.key) (length_aes128 a.key) code_octets (lit≤ tt) a.nonce a.aad.now a.out.now a.text.now c.if-text-lt-CODE_OCTETS.true in
    record { value = w.0; out_after = w.1 }

pub returns-then-not-in_limits : goal.returns-then-not-in_limits
returns-then-not-in_limits c =
    let a = c.args in
    let w = open_limits (aes128 a.key) (length_aes128 a.key) code_octets (lit≤ tt) a.nonce a.aad.now a.out.now a.text.now c.if-text-lt-CODE_OCTETS.false
    (sym c.in_limits.ensures ∙ c.if-not-in_limits.true) in
    record { value = w.0; out_after = w.1 }

pub returns-then-out-n : goal.returns-then-out-n
returns-then-out-n c =
    let a = c.args in
    let w = open_small (aes128 a.key) (length_aes128 a.key) code_octets (lit≤ tt) a.nonce a.aad.now a.out.now a.text.now c.if-text-lt-CODE_OCTETS.false (sym c.in_limits.ensures ∙ c.if-not-in_limits.false) c.if-out-n.true in
    record { value = w.0; out_after = w.1 }

pub start-first-requires : goal.start-first-requires
start-first-requires c =
    (in_limits_lem _ _ (sym c.in_limits.ensures ∙ c.if-not-in_limits.false)).2

pub invariant_of-context : goal.invariant_of-context
invariant_of-context c = record { short = (in_limits_lem _ _ (sym c.in_limits.ensures ∙ c.if-not-in_limits.false)).1 }

pub open_from-requires : goal.open_from-requires
open_from-requires c =
    let h = in_limits_lem _ _ (sym c.in_limits.ensures ∙ c.if-not-in_limits.false) in
    record {
      has_code = c.if-text-lt-CODE_OCTETS.false;
      counted = omega (arith, h.2);
      room_holds = c.if-out-n.false;
      at_hand = c.start-first.ensures.key;
    }

pub returns-then-not-open_from : goal.returns-then-not-open_from
returns-then-not-open_from c =
    let a = c.args in
    let wrong = c.if-not-open_from.true in
    let w = open_wrong (aes128 c.new-cipher.result) (length_aes128 c.new-cipher.result) code_octets (lit≤ tt) a.nonce a.aad.now a.out.now a.text.now c.if-text-lt-CODE_OCTETS.false (sym c.in_limits.ensures ∙ c.if-not-in_limits.false) _ (right_is c.new-cipher.result c.args.nonce c.args.aad.now c.args.text.now _ c.open_from.result c.start-first.ensures.x c.open_from.ensures.value) wrong in
    let z = by_cipher _ (aes128 a.key) (ap aes128 c.new-cipher.ensures) code_octets a.nonce a.aad.now a.out.now a.text.now _ _ (w.0, left_kept _ _ _ _ wrong c.open_from.ensures.out_after ∙ w.1) in
    record { value = z.0; out_after = z.1 }

pub returns : goal.returns
returns c =
    let a = c.args in
    let found = c.if-not-open_from.false in
    let w = open_right (aes128 c.new-cipher.result) (length_aes128 c.new-cipher.result) code_octets (lit≤ tt) a.nonce a.aad.now a.out.now a.text.now c.if-text-lt-CODE_OCTETS.false (sym c.in_limits.ensures ∙ c.if-not-in_limits.false) _ (right_is c.new-cipher.result c.args.nonce c.args.aad.now c.args.text.now _ c.open_from.result c.start-first.ensures.x c.open_from.ensures.value) c.if-out-n.false found in
    let z = by_cipher _ (aes128 a.key) (ap aes128 c.new-cipher.ensures) code_octets a.nonce a.aad.now a.out.now a.text.now _ _ (w.0, left_put _ _ _ _ found c.open_from.ensures.out_after ∙ w.1) in
    record { value = z.0; out_after = z.1 }
