use Rattle.std.proofs.Common.{sym, ◌∙◌, arith}
use Rattle.rules.specs.Header.{authenticated}
use Rattle.ccmp.proofs.Masks.{mask_0f, mask_8f}
use Rattle.ccmp.proofs.Headers.{fields_of, whole}
use Rattle.ccmp.proofs.Data.{at_20, at_21, at_qos, at_end, at_other}
use Rattle.ccmp.proofs.frame.Frame.authenticated_octet.Goals as goal

-- Each branch takes its octet from where the authenticated data has it: Frame Control, Sequence Control, QoS Control, or an address.
pub returns-then-i-eq0 : goal.returns-then-i-eq0
unfolding authenticated
returns-then-i-eq0 c = rw c.if-i-eq0.true (mask_8f _ (omega arith))

pub returns-then-i-eq1 : goal.returns-then-i-eq1
unfolding authenticated
returns-then-i-eq1 c = rw c.if-i-eq1.true c.muted_octet.ensures

pub returns-then-i-eq20 : goal.returns-then-i-eq20
returns-then-i-eq20 c =
    let s = c.args.self in
    rw c.if-i-eq20.true (mask_0f _ (omega arith) ∙ sym (at_20 s.octets.now (whole s.octets.now s.header s.is s.whole)))

pub returns-then-i-eq21 : goal.returns-then-i-eq21
returns-then-i-eq21 c =
    let s = c.args.self in
    rw c.if-i-eq21.true (sym (at_21 s.octets.now (whole s.octets.now s.header s.is s.whole)))

pub returns-then-i-qos : goal.returns-then-i-qos
returns-then-i-qos c =
    let s = c.args.self in
    let a = c.args in
    mask_0f _ (omega arith)
    ∙ sym (at_qos s.octets.now (whole s.octets.now s.header s.is s.whole) a.i c.requires.inside (c.if-i-qos.true ∙ (fields_of s.octets.now s.header s.is).qos_is))

pub returns-then-i-qos-2 : goal.returns-then-i-qos-2
returns-then-i-qos-2 c =
    let s = c.args.self in
    let a = c.args in
    sym (at_end s.octets.now (whole s.octets.now s.header s.is s.whole) a.i c.requires.inside (c.if-i-qos-2.true ∙ (fields_of s.octets.now s.header s.is).qos_is))

pub returns : goal.returns
returns c =
    let a = c.args in
    let s = a.self in
    let f = s.octets.now in
    let qos_is = (fields_of f s.header s.is).qos_is in
    sym
    (at_other f (whole f s.header s.is s.whole) a.i c.requires.inside (omega (arith, c.if-i-eq1.false, c.if-i-eq0.false)) c.if-i-eq20.false c.if-i-eq21.false
    (λ e. c.if-i-qos.false (e ∙ sym qos_is)) (λ e. c.if-i-qos-2.false (e ∙ sym qos_is)))
