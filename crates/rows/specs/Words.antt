-- Words and the sets whose bits they hold.
use Rattle.std.specs.Prelude.{ℕ, ◌+◌, ◌*◌, ◌-◌, ◌<◌, ◌≡◌, Bool, cond, ◌||◌, eqb}
use Rattle.bitset.specs.Bits.{bit}
use Rattle.rows.specs.Rows.{row_spots}

-- x is word w of a set: its 64 bits from spot 64 × w on
pub record WordOf (x : ℕ) (P : ℕ → Bool) (w : ℕ) : Type 0 where
  pub bits : (j : ℕ) → j < 64 → bit x j ≡ P (64 * w + j)

-- r is x with each bit one place on, after the last bit of the word before
pub record OneOn (x before r : ℕ) : Type 0 where
  pub bits : (j : ℕ) → j < 64 → bit r j ≡ cond (eqb j 0) (bit before 63) (bit x (j - 1))

-- r is x with each bit one place back, before the first bit of the word after
pub record OneBack (x after r : ℕ) : Type 0 where
  pub bits : (j : ℕ) → j < 64 → bit r j ≡ cond (eqb j 63) (bit after 0) (bit x (j + 1))

-- a set with each spot from which one of its own is a row on or a place on
unfoldable pub with_next : (ℕ → Bool) → ℕ → Bool
with_next P i = P i || (P (i + row_spots) || P (i + 1))
