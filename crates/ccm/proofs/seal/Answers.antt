use mathlib.Core.Path.{sym, ap, ◌∙◌}
use mathlib.Core.List.{List, ◌++◌}
use Prim.Native.Nat.{ℕ, ◌+◌}
use lib.ListN.{length, drop}
use lib.Dec.{lit≤}
use Rattle.aes.specs.KeyExpansion.{aes128}
use Rattle.ccm.specs.Limits.{code_octets}
use Rattle.ccm.specs.Ccm.{masked, U}
use Rattle.aes.proofs.Laws.{length_aes128}
use Rattle.ccm.proofs.Laws.{in_limits_lem}
use Rattle.ccm.proofs.Answers.{seal_limits, seal_small, seal_done}
use Rattle.ccm.proofs.seal.Goals as goal

-- Each way out is one case of the definition; at the last the schedule's cipher is AES-128 under the key.
pub returns-then-not-in_limits : goal.returns-then-not-in_limits
returns-then-not-in_limits c =
    let a = c.args in
    let w = seal_limits (aes128 a.key) (length_aes128 a.key) code_octets (lit≤ tt) a.nonce a.aad.now a.out.now a.body.now
    (sym c.in_limits.ensures ∙ c.if-not-in_limits.true) in
    record { value = w.0; out_after = w.1 }

pub returns-then-out-n : goal.returns-then-out-n
returns-then-out-n c =
    let a = c.args in
    let w = seal_small (aes128 a.key) (length_aes128 a.key) code_octets (lit≤ tt) a.nonce a.aad.now a.out.now a.body.now c.if-out-n.true in
    record { value = w.0; out_after = w.1 }

pub put-requires : goal.put-requires
put-requires c =
    let h = in_limits_lem _ _ (sym c.in_limits.ensures ∙ c.if-not-in_limits.false) in
    (h.2, c.if-out-n.false)

pub invariant_of-context : goal.invariant_of-context
invariant_of-context c = record { short = (in_limits_lem _ _ (sym c.in_limits.ensures ∙ c.if-not-in_limits.false)).1 }

pub returns : goal.returns
returns c =
    let a = c.args in
    let N = a.nonce in
    let A = a.aad.now in
    let m = a.body.now in
    let out = a.out.now in
    let w = seal_done (aes128 a.key) (length_aes128 a.key) code_octets (lit≤ tt) N A out m
    (sym c.in_limits.ensures ∙ c.if-not-in_limits.false) c.if-out-n.false _
    (c.put.ensures ∙ ap (λ (F : List ℕ → List ℕ). (masked F N 1 m ++ U F code_octets N A m) ++ drop (length m + code_octets) out) (ap aes128 c.new-cipher.ensures)) in
    record { value = w.0; out_after = w.1 }
