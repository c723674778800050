-- Pairs of spots of one point, as the code joins them one after the other. n is the number of parts of an octant's edge.
use Rattle.std.specs.Prelude.{ℕ, zero, suc, ◌+◌, ◌*◌, ◌-◌, ◌/◌, ◌%◌, Bool, ◌||◌, cond, eqb}
use Rattle.rows.specs.Rows.{spot}
use Rattle.code.specs.Step.{east}
use Rattle.seam.specs.declared.edges.Edge.{Edge}
use Rattle.seam.specs.declared.edges.Edge.TheVariants.{Meridian, Beside, Across, Equator}

-- both of two spots are set where one of them was; any other stays
unfoldable pub join_pair : ℕ → ℕ → (ℕ → Bool) → ℕ → Bool
join_pair p q P i = cond (eqb i p || eqb i q) (P p || P q) (P i)

-- the pairs 0 to m − 1, joined in this order
unfoldable pub join_pairs : (ℕ → ℕ) → (ℕ → ℕ) → ℕ → (ℕ → Bool) → ℕ → Bool
join_pairs p q zero P = P
join_pairs p q (suc m) P = join_pair (p m) (q m) (join_pairs p q m P)

-- the two spots of pair x of a group
unfoldable pub first_of : Edge → ℕ → ℕ → ℕ
first_of Meridian n x = spot (x % 8) (x / 8) (n - x / 8)
first_of Beside n x = spot (2 * x) n 0
first_of Across n x = spot (x / 2 * 4 + x % 2) n 0
first_of Equator n x = spot (x % 4) 0 (x / 4)

unfoldable pub second_of : Edge → ℕ → ℕ → ℕ
second_of Meridian n x = spot (east (x % 8)) (x / 8) 0
second_of Beside n x = spot (2 * x + 1) n 0
second_of Across n x = spot (x / 2 * 4 + x % 2 + 2) n 0
second_of Equator n x = spot (x % 4 + 4) 0 (x / 4)

-- how many pairs a group has
unfoldable pub count_of : Edge → ℕ → ℕ
count_of Meridian n = 8 * n
count_of Beside n = 4
count_of Across n = 4
count_of Equator n = 4 * (n + 1)
