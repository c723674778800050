-- Words made of other words' bits by masks, shifts and joins: what the private functions claim. No public contract cites this file.
use Rattle.std.specs.Prelude.{ℕ, zero, suc, ◌*◌, ◌-◌, ◌/◌, ◌%◌, ◌^◌, bit_and, bit_or}

-- a word over numbered inputs
pub data Word : Type 0 where
  input : ℕ → Word
  kept : Word → ℕ → Word
  raised : Word → ℕ → Word
  lowered : Word → ℕ → Word
  joined : Word → Word → Word

unfoldable pub value : (ℕ → ℕ) → Word → ℕ
value e (input n) = e n
value e (kept w m) = bit_and (value e w) m
value e (raised w s) = value e w * 2 ^ s % 2 ^ 64
value e (lowered w s) = value e w / 2 ^ s
value e (joined w x) = bit_or (value e w) (value e x)

-- one input, and two
abbrev pub one : ℕ → ℕ → ℕ
one x n = x

abbrev pub two : ℕ → ℕ → ℕ → ℕ
two x y zero = x
two x y (suc n) = y

-- ---- masks that repeat

-- every 4, 8, 16 and 32 bits
abbrev pub by4 : ℕ → ℕ
by4 m = m * 1229782938247303441

abbrev pub by8 : ℕ → ℕ
by8 m = m * 72340172838076673

abbrev pub by16 : ℕ → ℕ
by16 m = m * 281479271743489

abbrev pub by32 : ℕ → ℕ
by32 m = m * 4294967297

-- ---- bits s apart exchanged: those of `low` with those s above

abbrev pub exchanged : ℕ → ℕ → Word → Word
exchanged s low w =
    let high = low * 2 ^ s % 2 ^ 64 in
    joined (joined (kept w (18446744073709551615 - bit_or low high)) (kept (lowered w s) low)) (kept (raised w s) high)

-- ---- the cells of one kind: x are those whose fours are up cells, or whose block is an up one, and y are the others

-- the children of an up cell and of a down cell, put where they lie
abbrev pub in_up : ℕ → ℕ → ℕ → ℕ → ℕ → Word → Word → Word
in_up far near high middle low x y = joined (joined (kept (lowered x far) high) (kept (raised x near) middle)) (kept y low)

abbrev pub in_down : ℕ → ℕ → ℕ → Word → Word → Word
in_down far high low x y = joined (kept (raised x far) high) (kept y low)

abbrev pub sixteen_up : Word → Word → Word
sixteen_up = in_up 8 4 (by16 255) (by16 3840) (by16 15)

abbrev pub sixteen_down : Word → Word → Word
sixteen_down = in_down 12 (by16 61440) (by16 65520)

-- from fours to a whole block
abbrev pub block_up : Word → Word → Word
block_up x y = in_up 32 16 4294967295 281470681743360 65535 (sixteen_up x y) (sixteen_down x y)

abbrev pub block_down : Word → Word → Word
block_down x y = in_down 48 18446462598732840960 18446744073709486080 (sixteen_up x y) (sixteen_down x y)

-- and back
abbrev pub up_from : ℕ → ℕ → ℕ → ℕ → ℕ → ℕ → Word → Word → Word
up_from far near farthest high middle low x y = joined (joined (kept (raised x far) high) (kept (lowered x near) middle)) (kept (lowered y farthest) low)

abbrev pub down_from : ℕ → ℕ → Word → Word → Word
down_from low high x y = joined (kept x low) (kept y high)

abbrev pub up_sixteen : Word → Word → Word
up_sixteen = up_from 32 16 48 18446744069414584320 4294901760 65535

abbrev pub down_sixteen : Word → Word → Word
down_sixteen = down_from 65535 18446744073709486080

-- from a whole block to fours
abbrev pub up_four : Word → Word → Word
up_four x y = up_from 8 4 12 (by16 65280) (by16 240) (by16 15) (up_sixteen x y) (down_sixteen x y)

abbrev pub down_four : Word → Word → Word
down_four x y = down_from (by16 15) (by16 65520) (up_sixteen x y) (down_sixteen x y)
