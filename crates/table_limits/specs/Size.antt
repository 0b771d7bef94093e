-- The size of the program's arrays, SIZE of src/.
use Rattle.std.specs.Prelude.{ℕ}

abbrev pub size : ℕ
size = 48
