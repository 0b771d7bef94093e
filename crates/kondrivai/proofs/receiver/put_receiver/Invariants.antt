use Rattle.kondrivai.proofs.Numbers.{Written}
use Rattle.kondrivai.proofs.receiver.put_receiver.Given as goal

-- After p turns the first p numbers are written.
abbrev pub invariant-loop-p : goal.invariant-loop-p
invariant-loop-p l = Written 6 42 l.greatest-items l.initial.b l.b l.p

abbrev pub invariant-loop-q : goal.invariant-loop-q
invariant-loop-q l = Written 2 138 l.seen-items l.initial.b l.b l.q
