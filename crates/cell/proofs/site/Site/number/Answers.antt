-- `ascend` meets its contract: its bits are those of the digits, which stand below the octant. Assumes nothing.
use Prim.Native.Nat.{◌*◌, ◌-◌, ◌%◌, ◌^◌, ◌≤◌, ◌<◌}
use mathlib.Core.Path.{◌≡◌, ◌∙◌}
use native.Mathlib.Nat.{le_refl}
use native.Mathlib.Omega.{arith}
use lib.Bits.{or_shifted, xor_lt, and_lt, or_lt}
use lib.Pow.{pow_mono, ones_lt, shl_exact}
use Rattle.cell.specs.Cell.{place_of, span, digits, number, max_level}
use Rattle.cell.proofs.Laws.{shifted, shift_four, triangle_bounds, digits_below}
use Rattle.cell.proofs.DigitBits.{digits_bits_16}
use Rattle.cell.proofs.site.Site.number.Goals as goal
use Rattle.cell.proofs.site.Site.number.Goals.{After-span_of}

-- what the bits are made of fits 16 bits
record Small (c : After-span_of) : Type 0 where
  pub all : 1 * 2 ^ c.args.self.level.k % 2 ^ 64 - 1 < 2 ^ 16
  pub sum : c.span_of.result - 1 < 2 ^ 16
  pub row : c.args.self.place.row < 2 ^ 16
  pub col : c.args.self.place.col < 2 ^ 16

pub overflow_sub-crossed : goal.overflow_sub-crossed
overflow_sub-crossed c =
    let p = c.args.self.place in
    let s = span (place_of p).1 in
    rw c.span_of.ensures (omega (arith, triangle_bounds p.kind p.row p.col s (le_refl s)))

small : (c : After-span_of) → Small c
small c =
    let k = c.args.self.level.k in
    let p = c.args.self.place in
    let s = c.args.self.occurs.1 in
    let b = triangle_bounds p.kind p.row p.col (2 ^ k) s in
    let m : 2 ^ k ≤ 2 ^ max_level = pow_mono {i = k} {j = max_level} (omega arith) in
    record {
      all = rw (shifted 64 k (omega arith)) (omega (arith, ones_lt k));
      sum = rw c.span_of.ensures (omega arith);
      row = omega arith;
      col = omega arith;
    }

pub join-requires : goal.join-requires
join-requires c =
    let s = small c in
    (search (xor_lt 16, and_lt 16, or_lt 16), search (xor_lt 16, and_lt 16, or_lt 16))

pub returns : goal.returns
unfolding number
returns c =
    let a = c.args.self in
    let o = a.occurs in
    let k = a.level.k in
    let p = a.place in
    let d : c.join.result ≡ digits k (place_of p).1 = c.join.ensures ∙ rw (shifted 64 k (omega arith), c.span_of.ensures) (digits_bits_16 k p.kind p.row p.col (omega arith) o.1) in
    rw (d, shl_exact {a = p.octant} 3 (2 * k) 32 o.0 (omega arith), ← (shift_four k))
    (or_shifted p.octant (2 * k) _ (rw (shift_four k) (digits_below k (place_of p).1)))
