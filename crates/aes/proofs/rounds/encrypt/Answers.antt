use Rattle.std.proofs.Common.{arith}
use Rattle.aes.proofs.States.{begun, again, ended}
use Rattle.aes.proofs.rounds.encrypt.Goals as goal

pub loop-n-init : goal.loop-n-init
loop-n-init c h = begun _ _ c.add_round_key-s.ensures

pub loop-n-preserved : goal.loop-n-preserved
loop-n-preserved c h = let l = c.loop-n in again _ _ l.n l.auto.n (l.invariant h) (c.round-s.ensures h)

pub returns : goal.returns
returns c h = let l = c.loop-n in ended _ _ l.n (omega arith) (l.invariant h) (c.last_round.ensures h)
