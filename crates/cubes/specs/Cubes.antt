-- The cells that touch a cell, gathered by cubes in the order of the ways. No contract of `touch` and no demand cites this file.
use Rattle.std.specs.Prelude.{ℕ, ◌&&◌, cond, List, leb, ltb, eqb, length}
use Rattle.cell.specs.Cell.{place, max_level, cells}
use Rattle.adjacency.specs.Cube.{cube_of, gathered}

-- a slice of 12 with the cells that touch cell n at its front, and how many they are; any other slice as it is, and so where the level has no cell n
unfoldable pub gather_call : ℕ → ℕ → List ℕ → List ℕ × ℕ
gather_call k n s = cond (leb k max_level && ltb n (cells k) && eqb (length s) 12) (gathered k (cube_of k (place k n)) s 27) (s, 0)
