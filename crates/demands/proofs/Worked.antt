-- Every starred example (docs/RULES.md, 11) is as worked out, and so are the two fillings: the definitions compute to it.
-- Assumes nothing.
use mathlib.Core.Path.{refl}
use Rattle.cell.specs.Cell.{row, col, children, child, triangle, span, place, parents, parities, as_child, digits, number}
use Rattle.position.specs.Position.{beginning, from_west, north_octant, offset, octant, scaled_t, scaled_r, holder, triangle_at, place_at}
use Rattle.centre.specs.Centre.{thirds, centre_p, centre_m, centre}
use Rattle.code.specs.Step.{across, east, west, steps, step, first_true, code_to}
use Rattle.code.specs.Neighbours.{direct, direct_code, is_direct}
use Rattle.bitset.specs.Bits.{bit, marked, bits_of, bytes_of, outside}
use Rattle.corner.specs.Corner.{equatorial, polar, point_in, corner, triangle_corners, same_number, same_point, among, common, touches}
use Rattle.walk.specs.Reach.{any_below, all_below, reaches, grown, shrunk}
use Rattle.fill.specs.Fill.{open_step, reachable}
use Rattle.demands.specs.Worked.{All, worked_cells}

pub worked_cells_lem : All worked_cells
unfolding
    worked_cells
    row col children child triangle span place parents parities as_child digits number
    beginning from_west north_octant offset octant scaled_t scaled_r holder triangle_at place_at thirds centre_p centre_m centre
    across east west steps step first_true code_to direct direct_code is_direct
    bit marked bits_of bytes_of outside
    equatorial polar point_in corner triangle_corners same_number same_point among common touches
    any_below all_below reaches grown shrunk
    open_step reachable
worked_cells_lem = (refl, (refl, (refl, (refl, (refl, (refl, (refl, (refl, (refl, (refl, (refl, (refl, (refl, (refl, (refl, (refl, tt))))))))))))))))
