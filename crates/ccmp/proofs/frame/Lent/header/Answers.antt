use Rattle.std.proofs.Common.{sym, ◌∙◌, arith, rules, eqb-true}
use borrow.Author.Tests.{eqb-false}
use Rattle.rules.specs.Header.{qos, qos_place}
use Rattle.ccmp.proofs.Headers.{with_qos, without_qos}
use Rattle.ccmp.proofs.frame.Lent.header.Goals as goal

-- b7 says whether QoS Control is present, and b15 then whether HT Control is.
pub overflow_add-result : goal.overflow_add-result
unfolding qos_place
overflow_add-result c = record { fits = omega (arith, c.qos_place-qos.ensures) }

pub overflow_add-result-then-has_qos : goal.overflow_add-result-then-has_qos
unfolding qos_place
overflow_add-result-then-has_qos c = record { fits = omega (arith, c.qos_place-qos.ensures, c.ht_octets.ensures) }

pub returns-then-has_qos : goal.returns-then-has_qos
returns-then-has_qos c =
    let f = c.args.self.octets.now in
    with_qos f c.qos_place-qos.result c.qos_place-qos.ensures c.ht_octets.result c.unwrap_or.result
    (eqb-true (qos f) 1 (sym c.has_qos.ensures ∙ c.if-has_qos.true)) c.ht_octets.ensures (search rules) (search rules)

pub overflow_sub-result : goal.overflow_sub-result
unfolding qos_place
overflow_sub-result c = omega (arith, c.qos_place-qos.ensures)

pub returns : goal.returns
returns c =
    let f = c.args.self.octets.now in
    without_qos f c.qos_place-qos.result c.qos_place-qos.ensures (eqb-false (qos f) 1 (sym c.has_qos.ensures ∙ c.if-has_qos.false))
