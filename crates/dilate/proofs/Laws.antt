-- A mask of a level is grown, and other bytes stay. Assumes nothing.
use Prim.Native.Nat.{ℕ, ◌^◌, ◌≤◌}
use mathlib.Core.Path.{◌≡◌}
use mathlib.Core.Bool.{false}
use mathlib.Core.List.{List}
use lib.ListN.{length}
use Rattle.bitset.specs.Bits.{marked, bytes_of}
use Rattle.raster.specs.Raster.{is_mask}
use Rattle.dilate.specs.Dilate.{grown_cells, dilated}
use Rattle.dilate.proofs.Rings.{mask_fits}

pub dilated_mask : (k m : ℕ) (s : List ℕ) → k ≤ 8 → length s ≡ 4 ^ k → dilated k m s ≡ bytes_of (4 ^ k) (grown_cells k m (marked s))
unfolding dilated
dilated_mask k m s h l = rw (mask_fits k h s l)

pub dilated_other : (k m : ℕ) (s : List ℕ) → is_mask k s ≡ false → dilated k m s ≡ s
unfolding dilated
dilated_other k m s e = rw e
