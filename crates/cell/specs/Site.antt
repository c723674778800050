-- A cell of a level, as the code has it: the level and the place.
use Rattle.std.specs.Prelude.{ℕ}
use Rattle.cell.specs.Cell.{Place, place_of}
use Rattle.cell.specs.declared.site.Site as declared

abbrev pub site : declared.Site → ℕ × Place
site s = (s.level.k, place_of s.place)
