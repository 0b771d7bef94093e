use Rattle.std.proofs.Common.{take}
use Rattle.std.specs.Fmt.{HasWritten, IsPlainFormatter}
use Rattle.show.specs.Digits.{hexadecimal}
use Rattle.show.proofs.HexDisplay.fmt.Given as goal

-- So far the digits of the octets before this one are written.
abbrev pub invariant-loop-x : goal.invariant-loop-x
invariant-loop-x g l =
    IsPlainFormatter l.initial.f
    → HasWritten g.W.Write.write_str_gives l.initial.f (hexadecimal (take l.x-index l.x-items)) l.f
