-- What the tests find: the level, and the outside cell's number.
use Rattle.std.specs.Prelude.{ℕ}
use Rattle.mask.specs.declared.MaskCell.{MaskCell}

abbrev pub outside_is : MaskCell → ℕ × ℕ
outside_is c = (c.level.k, c.number)
