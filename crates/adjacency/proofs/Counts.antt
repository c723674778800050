-- How many of the 27 ways are accepted: computed for each pattern of bases that are 0. Assumes nothing.
use Prim.Native.Nat.{ℕ, zero, suc, ◌+◌, ◌≤◌}
use mathlib.Core.Path.{◌≡◌, refl, sym, ap}
use mathlib.Core.Bool.{Bool, cond}
use native.Mathlib.Nat.{le_trans, le_of_eq, le-add_right, add-zero, add-suc}
use native.Mathlib.Omega.{arith}
use Rattle.adjacency.specs.declared.Cube.{Cube}
use Rattle.corner.specs.Corner.{side_of}
use Rattle.adjacency.specs.Cube.{least, most, taken, sums_fit, touching_way}

-- how many numbers below n pass a test
unfoldable pub passes : (ℕ → Bool) → ℕ → ℕ
passes P zero = 0
passes P (suc w) = passes P w + cond (P w) 1 0

-- the number of ways of an up cell, by its bases: an octant's corner cell has two bases 0, the cell of level 0 three
unfoldable pub up_ways : ℕ → ℕ → ℕ → ℕ
up_ways zero zero zero = 6
up_ways zero zero (suc z) = 10
up_ways zero (suc y) zero = 10
up_ways zero (suc y) (suc z) = 12
up_ways (suc x) zero zero = 10
up_ways (suc x) zero (suc z) = 12
up_ways (suc x) (suc y) zero = 12
up_ways (suc x) (suc y) (suc z) = 12

-- what holds for each pattern of numbers that are 0 holds for any three
pub zero-patterns :
    (P : ℕ → ℕ → ℕ → Type 0)
    → P 0 0 0
    → ((z : ℕ) → P 0 0 (suc z))
    → ((y : ℕ) → P 0 (suc y) 0)
    → ((y z : ℕ) → P 0 (suc y) (suc z))
    → ((x : ℕ) → P (suc x) 0 0)
    → ((x z : ℕ) → P (suc x) 0 (suc z))
    → ((x y : ℕ) → P (suc x) (suc y) 0)
    → ((x y z : ℕ) → P (suc x) (suc y) (suc z))
    → (x y z : ℕ) → P x y z
zero-patterns P p0 pz py pyz px pxz pxy pxyz zero zero zero = p0
zero-patterns P p0 pz py pyz px pxz pxy pxyz zero zero (suc z) = pz z
zero-patterns P p0 pz py pyz px pxz pxy pxyz zero (suc y) zero = py y
zero-patterns P p0 pz py pyz px pxz pxy pxyz zero (suc y) (suc z) = pyz y z
zero-patterns P p0 pz py pyz px pxz pxy pxyz (suc x) zero zero = px x
zero-patterns P p0 pz py pyz px pxz pxy pxyz (suc x) zero (suc z) = pxz x z
zero-patterns P p0 pz py pyz px pxz pxy pxyz (suc x) (suc y) zero = pxy x y
zero-patterns P p0 pz py pyz px pxz pxy pxyz (suc x) (suc y) (suc z) = pxyz x y z

-- how many of the 27 ways lead to touching cells, for a cube with given signs and bases
ways : ℕ → Bool → Bool → Bool → ℕ → ℕ → ℕ → ℕ
ways room nx ny nz x y z = passes (touching_way room (record { x = side_of nx x; y = side_of ny y; z = side_of nz z })) 27

pub up_ways_lem : (c : Cube) → passes (touching_way 1 c) 27 ≡ up_ways c.x.base c.y.base c.z.base
unfolding ways passes touching_way sums_fit least most taken up_ways
up_ways_lem c =
    zero-patterns (λ x y z. ways 1 c.x.negative c.y.negative c.z.negative x y z ≡ up_ways x y z)
    refl (λ z. refl) (λ y. refl) (λ y z. refl) (λ x. refl) (λ x z. refl) (λ x y. refl) (λ x y z. refl)
    c.x.base c.y.base c.z.base

-- a down cell has 12 in any case
pub down_ways : (c : Cube) → passes (touching_way 2 c) 27 ≡ 12
unfolding ways passes touching_way sums_fit least most taken
down_ways c =
    zero-patterns (λ x y z. ways 2 c.x.negative c.y.negative c.z.negative x y z ≡ 12)
    refl (λ z. refl) (λ y. refl) (λ y z. refl) (λ x. refl) (λ x z. refl) (λ x y. refl) (λ x y z. refl)
    c.x.base c.y.base c.z.base

-- ---- all ways

up_most : (x y z : ℕ) → up_ways x y z ≤ 12
unfolding up_ways
up_most =
    zero-patterns (λ x y z. up_ways x y z ≤ 12)
    (omega arith) (λ z. omega arith) (λ y. omega arith) (λ y z. omega arith) (λ x. omega arith) (λ x z. omega arith) (λ x y. omega arith) (λ x y z. omega arith)

pub all_ways : (r : ℕ) (c : Cube) → 1 ≤ r → r ≤ 2 → passes (touching_way r c) 27 ≤ 12
all_ways zero c l h = absurd (omega arith)
all_ways (suc zero) c l h = le_trans (le_of_eq (up_ways_lem c)) (up_most c.x.base c.y.base c.z.base)
all_ways (suc (suc zero)) c l h = le_of_eq (down_ways c)
all_ways (suc (suc (suc r))) c l h = absurd (omega arith)

-- fewer numbers pass below a lower bound
pub passes_below : (P : ℕ → Bool) (m j : ℕ) → passes P m ≤ passes P (m + j)
unfolding passes
passes_below P m zero = le_of_eq (ap (passes P) (sym (add-zero m)))
passes_below P m (suc j) = le_trans (passes_below P m j) (rw add-suc (le-add_right (passes P (m + j)) _))

-- tests that agree are passed by as many
pub passes_same : (P Q : ℕ → Bool) → ((w : ℕ) → P w ≡ Q w) → (n : ℕ) → passes P n ≡ passes Q n
unfolding passes
passes_same P Q h zero = refl
passes_same P Q h (suc n) = rw (h n, passes_same P Q h n)
