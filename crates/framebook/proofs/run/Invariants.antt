use Rattle.std.proofs.Common.{◌≡◌, length}
use Rattle.book.specs.Limits.{most_kept}
use Rattle.framebook.proofs.run.Given as goal

abbrev pub invariant-loop : goal.invariant-loop
invariant-loop l = length l.reader.line ≡ most_kept
