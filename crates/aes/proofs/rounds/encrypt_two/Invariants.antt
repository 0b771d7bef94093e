use mathlib.Core.Path.{◌≡◌}
use Prim.Native.Nat.{◌-◌}
use Rattle.aes.specs.Cipher.{rounds}
use Rattle.aes.specs.Word.{bytes_of, Products}
use Rattle.aes.proofs.rounds.encrypt_two.Given as goal

-- What `encrypt` keeps, for each of the two.
abbrev pub invariant-loop-i : goal.invariant-loop-i
invariant-loop-i l =
    (Products l.t → bytes_of l.s ≡ rounds l.w (bytes_of l.fn.first) (l.i - 1)) × (Products l.t → bytes_of l.u ≡ rounds l.w (bytes_of l.fn.second) (l.i - 1))
