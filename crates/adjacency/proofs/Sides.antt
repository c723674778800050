-- One axis: two sides have an end in common exactly along a way from the one to the other. Assumes nothing.
use Prim.Native.Nat.{ℕ, zero, suc, ◌+◌, ◌≤◌}
use mathlib.Core.Path.{◌≡◌, refl, sym, ap, ◌∙◌}
use mathlib.Core.Bool.{Bool, true, false, not, cond}
use native.Mathlib.Omega.{arith}
use lib.IntN.{ℤ, pos, nat_abs, pos-ne-negsuc}
use Rattle.corner.specs.Corner.{minus, side_of}
use Rattle.corner.proofs.Laws.{size_minus}
use Rattle.corner.specs.declared.Side.{Side}
use Rattle.adjacency.specs.Cube.{inward, moved, least, most, taken}

-- the end of a side that lies u beyond its base
abbrev pub end : Side → ℕ → ℤ
end s u = cond s.negative (minus (s.base + u)) (pos (s.base + u))

pub size_end : (s : Side) (u : ℕ) → nat_abs (end s u) ≡ s.base + u
size_end s u = go s.negative
  where
    go : (n : Bool) → nat_abs (cond n (minus (s.base + u)) (pos (s.base + u))) ≡ s.base + u
    go true = size_minus (s.base + u)
    go false = refl

pos_minus : (m n : ℕ) → pos m ≡ minus n → m ≡ 0
pos_minus m zero e = ap nat_abs e
pos_minus m (suc n) e = absurd (pos-ne-negsuc m n e)

-- ---- a common end gives the way

pub record WayBetween (a b : Side) (u : ℕ) : Type 0 where
  pub way : ℕ
  pub small : way ≤ 2
  pub low : least way ≤ u
  pub high : u ≤ most way
  pub to : b ≡ moved way a

same_sign : (n : Bool) (a b u v : ℕ) → u ≤ 1 → v ≤ 1 → a + u ≡ b + v → WayBetween (side_of n a) (side_of n b) u
unfolding least most moved inward
same_sign n a b zero zero hu hv e = record { way = 1; small = omega arith; low = omega arith; high = omega arith; to = ap (side_of n) (omega arith) }
same_sign n a b zero (suc v) hu hv e =
    let s : a ≡ suc b = omega arith in
    record { way = 0; small = omega arith; low = omega arith; high = omega arith; to = rw s }
same_sign n a b (suc u) zero hu hv e = record { way = 2; small = omega arith; low = omega arith; high = omega arith; to = ap (side_of n) (omega arith) }
same_sign n a b (suc u) (suc v) hu hv e = record { way = 1; small = omega arith; low = omega arith; high = omega arith; to = ap (side_of n) (omega arith) }

other_sign : (n : Bool) (a b u v : ℕ) → a + u ≡ 0 → b + v ≡ 0 → WayBetween (side_of n a) (side_of (not n) b) u
unfolding least most moved inward
other_sign n a b u v p q =
    let za : a ≡ 0 = omega arith in
    let zb : b ≡ 0 = omega arith in
    record { way = 0; small = omega arith; low = omega arith; high = omega arith; to = rw (za, zb) }

pub common_end : (a b : Side) (u v : ℕ) → u ≤ 1 → v ≤ 1 → end a u ≡ end b v → WayBetween a b u
common_end a b u v hu hv e = go a.negative b.negative e
  where
    sizes : a.base + u ≡ b.base + v
    sizes = sym (size_end a u) ∙ ap nat_abs e ∙ size_end b v

    go : (m n : Bool) → end (side_of m a.base) u ≡ end (side_of n b.base) v → WayBetween (side_of m a.base) (side_of n b.base) u
    go true true e = same_sign true a.base b.base u v hu hv sizes
    go false false e = same_sign false a.base b.base u v hu hv sizes
    go true false e =
        let z : b.base + v ≡ 0 = pos_minus (b.base + v) (a.base + u) (sym e) in
        other_sign true a.base b.base u v (omega (arith, sizes)) z
    go false true e =
        let z : a.base + u ≡ 0 = pos_minus (a.base + u) (b.base + v) e in
        other_sign false a.base b.base u v z (omega (arith, sizes))

-- ---- a way gives a common end

pub record SharedEnd (a b : Side) (u : ℕ) : Type 0 where
  pub unit : ℕ
  pub small : unit ≤ 1
  pub ends : end a u ≡ end b unit
  pub sizes : a.base + u ≡ b.base + unit

end_shared : (a b : Side) (u v : ℕ) → a.negative ≡ b.negative → v ≤ 1 → a.base + u ≡ b.base + v → SharedEnd a b u
end_shared a b u v s h e = record { unit = v; small = h; ends = rw (s, e); sizes = e }

pub along : (a : Side) (w u : ℕ) → w ≤ 2 → least w ≤ u → u ≤ most w → SharedEnd a (moved w a) u
unfolding least most moved inward
along a zero u h l m = go a.negative a.base
  where
    z : u ≡ 0
    z = omega arith

    go : (n : Bool) (b : ℕ) → SharedEnd (side_of n b) (inward n b) u
    go true zero = record { unit = 0; small = omega arith; ends = rw z; sizes = omega arith }
    go false zero = record { unit = 0; small = omega arith; ends = rw z; sizes = omega arith }
    go n (suc b) = end_shared (side_of n (suc b)) (side_of n b) u 1 refl (omega arith) (omega arith)
along a (suc zero) u h l m = end_shared a a u u refl (omega arith) refl
along a (suc (suc w)) u h l m = end_shared a (side_of a.negative (a.base + 1)) u 0 refl (omega arith) (omega arith)

-- what a way does to the base
pub base_moved : (a : Side) (w : ℕ) → w ≤ 2 → (moved w a).base + taken w a.base ≡ a.base + least w
unfolding least moved inward taken
base_moved a zero h = go a.negative a.base
  where
    go : (n : Bool) (b : ℕ) → (inward n b).base + taken 0 b ≡ b + 0
    go n zero = refl
    go n (suc b) = omega arith
base_moved a (suc zero) h = refl
base_moved a (suc (suc w)) h = omega arith
