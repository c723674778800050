-- What the code's private values stand for. No public claim names these.
use Rattle.std.specs.Prelude.{Option, Some, None}
use Rattle.std.proofs.Math.Option as math
use Rattle.cell.specs.Cell.{Place, place_of}
use Rattle.cell.specs.declared.Place as declared

-- where a step leads, if anywhere
abbrev pub target_of : Option declared.Place → math.Option Place
target_of (Some p) = math.some (place_of p)
target_of None = math.none
