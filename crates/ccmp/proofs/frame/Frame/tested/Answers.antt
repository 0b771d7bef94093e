use Rattle.std.proofs.Common.{◌≡◌, ℕ, ◌/◌, ◌≤◌, Bool, true, false, cond, eqb, ltb, List, length, get_or, sym, ◌∙◌, le-ltb, lt-ltb, ne_eqb, arith}
use lib.Bits.{bit_and, and_mask}
use Rattle.rules.specs.Limits.{least_header}
use Rattle.rules.specs.Header.{protected, wrong_kind, header_of}
use Rattle.rules.specs.Tests.{header_tests}
use Rattle.rules.specs.declared.Header.{Header}
use Rattle.rules.proofs.Fields.{header_range}
use Rattle.ccmp.specs.Verdict.{Refuse, Pass, verdict}
use Rattle.ccmp.proofs.Headers.{fields_of}
use Rattle.ccmp.proofs.frame.Frame.tested.Goals as goal

-- Test by test, each as the function called or the mask says.
mark : (f : List ℕ) → bit_and (get_or f 1 0 / 64) 1 ≡ protected f
mark f = and_mask (get_or f 1 0 / 64) 1

unmarked : (f : List ℕ) (wrong : ℕ) → (bit_and (get_or f 1 0 / 64) 1 ≡ wrong → ⊥) → eqb (protected f) wrong ≡ false
unmarked f wrong not = ne_eqb (protected f) wrong (λ e. not (mark f ∙ e))

-- past the first three tests the fourth decides, by the header found
decided : (f : List ℕ) (wrong : ℕ) (h : Header) (b : Bool) → least_header ≤ length f → wrong_kind f ≡ false → eqb (protected f) wrong ≡ false
    → h ≡ header_of f → ltb (length f) h.length ≡ b → cond b (Refuse 2) (Pass h) ≡ verdict (header_tests wrong f) (header_of f)
decided f wrong h b long kind unlike is e =
    rw (le-ltb (length f) least_header long, kind, unlike, ← (fields_of f h is).length_is, e, is)

pub returns-then-octets-header-clause-found : goal.returns-then-octets-header-clause-found
returns-then-octets-header-clause-found c =
    let a = c.args in
    let f = a.octets.now in
    decided f a.wrong c.header-header.result true c.if-octets-lt-LEAST_HEADER.false (sym c.wrong_kind.ensures ∙ c.if-wrong_kind.false)
    (unmarked f a.wrong c.if-octets-wrong.false) c.header-header.ensures (lt-ltb _ _ c.if-octets-header.true)

pub invariant_of-result : goal.invariant_of-result
invariant_of-result c =
    let f = c.args.octets.now in
    let is = c.header-header.ensures in
    record { is = is; least = omega (arith, (fields_of f _ is).length_is, header_range f); whole = c.if-octets-header.false }

pub returns-clause-found : goal.returns-clause-found
returns-clause-found c =
    let a = c.args in
    let f = a.octets.now in
    decided f a.wrong c.header-header.result false c.if-octets-lt-LEAST_HEADER.false (sym c.wrong_kind.ensures ∙ c.if-wrong_kind.false)
    (unmarked f a.wrong c.if-octets-wrong.false) c.header-header.ensures (le-ltb _ _ c.if-octets-header.false)
