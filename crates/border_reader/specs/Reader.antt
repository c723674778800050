-- What the code's value stands for: level and number of cells.
use Rattle.std.specs.Prelude.{ℕ}
use Rattle.border_reader.specs.declared.Border as declared

abbrev pub border_is : declared.Border → ℕ × ℕ
border_is b = (b.level, b.count)
