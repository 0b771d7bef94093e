use mathlib.Core.Path.{◌≡◌}
use Prim.Native.Nat.{◌-◌}
use Rattle.aes.specs.Cipher.{rounds}
use Rattle.aes.specs.Word.{bytes_of, Products}
use Rattle.aes.proofs.rounds.encrypt.Given as goal

-- Before turn n the state is the standard's after n - 1 rounds, whatever the block was.
abbrev pub invariant-loop-n : goal.invariant-loop-n
invariant-loop-n l = Products l.t → bytes_of l.s ≡ rounds l.w (bytes_of l.fn.block) (l.n - 1)
