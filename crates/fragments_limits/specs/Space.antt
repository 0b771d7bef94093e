-- The size of the program's arrays, SPACE of src/.
use Rattle.std.specs.Prelude.{ℕ, ◌+◌}
use Rattle.rules.specs.Limits.{most_message}

abbrev pub space : ℕ
space = most_message + 896
