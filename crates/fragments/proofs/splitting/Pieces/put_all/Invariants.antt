use Prim.Native.Nat.{◌+◌, ◌*◌}
use Rattle.fragments.proofs.Turns.{Put}
use Rattle.fragments.proofs.splitting.Pieces.put_all.Given as goal

-- Before each turn the fragments before stand sealed at the front of the output.
abbrev pub invariant-loop-i : goal.invariant-loop-i
invariant-loop-i l = Put l.initial.sender l.self.size l.self.frame.now l.h l.initial.out l.out l.sender l.i (l.h + l.i * l.self.size) l.written
