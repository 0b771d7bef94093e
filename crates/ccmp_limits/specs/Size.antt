-- The size of the program's arrays, SIZE of src/.
use Rattle.std.specs.Prelude.{ℕ, ◌+◌}
use Rattle.rules.specs.Limits.{most_body}

abbrev pub size : ℕ
size = most_body + 104
