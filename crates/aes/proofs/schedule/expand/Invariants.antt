use Rattle.std.proofs.Common.{◌≡◌, ◌-◌, ◌*◌, length, take}
use Rattle.aes.specs.Cipher.{word_at}
use Rattle.aes.specs.KeyExpansion.{schedule}
use Rattle.aes.specs.Word.{bytes, Products}
use Rattle.aes.proofs.schedule.expand.Given as goal

-- Each turn adds one word of the schedule to those that stand, of which the last is at hand.
abbrev pub invariant-loop-i : goal.invariant-loop-i
invariant-loop-i l = (length l.w ≡ 176) × (bytes l.last ≡ word_at l.w (l.i - 1)) × (Products l.t → take (4 * l.i) l.w ≡ schedule 4 l.fn.key (l.i - 4))
