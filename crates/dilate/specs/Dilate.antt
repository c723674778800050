-- Growing a mask in place, by touching steps between the cells of a level (dilation).
use Rattle.std.specs.Prelude.{ℕ, ◌^◌, Bool, cond, List}
use Rattle.bitset.specs.Bits.{marked, bytes_of}
use Rattle.cell.specs.Cell.{cells}
use Rattle.corner.specs.Corner.{touches}
use Rattle.raster.specs.Raster.{is_mask}
use Rattle.walk.specs.Reach.{grown}

-- cells that have within m touching steps one of a set
abbrev pub grown_cells : ℕ → ℕ → (ℕ → Bool) → ℕ → Bool
grown_cells k m A = grown (cells k) (touches k) m A

-- the mask that marks these, where the bytes are a mask of level k; any others stay
unfoldable pub dilated : ℕ → ℕ → List ℕ → List ℕ
dilated k m s = cond (is_mask k s) (bytes_of (4 ^ k) (grown_cells k m (marked s))) s
