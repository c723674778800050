-- What the private functions claim. No public contract cites this file.
use Rattle.std.specs.Prelude.{ℕ, ◌+◌, ◌-◌, ◌/◌, ◌%◌, ◌<◌, ◌≡◌, Bool, true, false, ◌&&◌, ◌||◌, List, eqb}
use Rattle.bitset.specs.Bits.{bit}
use Rattle.cell.specs.declared.Kind.{Kind}
use Rattle.cell.specs.declared.Kind.TheVariants.{Up}
use Rattle.rows.specs.Rows.{lit, spot_count, row_spots}
use Rattle.flood.specs.Flood.{lit_of, Beside, Closed, Added}

-- whether one of a down cell's neighbours is in a set of up cells, and the other way round
unfoldable pub near_down : (ℕ → Bool) → ℕ → Bool
near_down U i = U i || (U (i + row_spots) || U (i + 1))

unfoldable pub near_up : (ℕ → Bool) → ℕ → Bool
near_up D i = D i || (D (i - row_spots) || D (i - 1))

-- one word is joined with the open ones among some bits; r says whether that changed it
pub record Joined (at near : ℕ) (opened before after : List ℕ) (r : Bool) : Type 0 where
  pub bits : (i : ℕ) → lit after i ≡ (lit before i || (eqb (i / 64) at && (lit opened i && bit near (i % 64))))
  pub stood : r ≡ false → after ≡ before
  pub more : r ≡ true → (i : ℕ) × (i < spot_count) × (lit before i ≡ false) × (lit after i ≡ true)

-- the steps that lead into one word
abbrev pub Into : ℕ → Kind → ℕ → Kind → ℕ → Type 0
Into at s i t j = Beside s i t j × (j / 64 ≡ at)

-- the step from one spot to another
abbrev pub One : ℕ → ℕ → Kind → ℕ → Kind → ℕ → Type 0
One p q s i t j = (s ≡ Up) × (t ≡ Up) × (i ≡ p) × (j ≡ q)

-- a spot more is set
abbrev pub More : List ℕ → List ℕ → List ℕ → List ℕ → Type 0
More u₀ d₀ u d = (t : Kind) × (i : ℕ) × (i < spot_count) × (lit_of u₀ d₀ t i ≡ false) × (lit_of u d t i ≡ true)

-- some steps are taken; r says whether that changed anything, and where it did not, the set was closed
pub record Turn (S : Kind → ℕ → Kind → ℕ → Type 0) (ou od u₀ d₀ u d : List ℕ) (r : Bool) : Type 0 where
  pub added : Added S ou od u₀ d₀ u d
  pub more : r ≡ true → More u₀ d₀ u d
  pub stood : r ≡ false → (u ≡ u₀) × (d ≡ d₀)
  pub closed : r ≡ false → Closed S ou od (lit_of u₀ d₀)
