use Rattle.std.proofs.Common.{arith}
use Rattle.aes.proofs.States.{begun, again, ended}
use Rattle.aes.proofs.rounds.encrypt_two.Goals as goal

pub loop-i-init : goal.loop-i-init
loop-i-init c = (λ h. begun _ _ c.add_round_key-s.ensures, λ h. begun _ _ c.add_round_key-u.ensures)

pub loop-i-preserved : goal.loop-i-preserved
loop-i-preserved c =
    let l = c.loop-i in
    (λ h. again _ _ l.i l.auto.i (l.invariant.0 h) (c.round-s.ensures h), λ h. again _ _ l.i l.auto.i (l.invariant.1 h) (c.round-u.ensures h))

pub returns-clause-first_value : goal.returns-clause-first_value
returns-clause-first_value c h = let l = c.loop-i in ended _ _ l.i (omega arith) (l.invariant.0 h) (c.last_round.ensures h)

pub returns-clause-second_value : goal.returns-clause-second_value
returns-clause-second_value c h = let l = c.loop-i in ended _ _ l.i (omega arith) (l.invariant.1 h) (c.last_round-2.ensures h)
