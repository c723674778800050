-- Demand 2 holds: the theorems of the crates below, said of their calls. Assumes nothing.
use Prim.Native.Nat.{ℕ, zero, suc, ◌+◌, ◌*◌, ◌^◌, ◌≤◌, ◌<◌}
use mathlib.Core.Path.{◌≡◌, refl, sym, ap, ◌∙◌}
use mathlib.Core.Bool.{Bool, true, false, ◌||◌}
use mathlib.Core.List.{[], ◌∷◌}
use mathlib.Core.Logic.{◌↔◌}
use native.Mathlib.Nat.{pow-suc}
use native.Mathlib.Omega.{arith}
use borrow.Author.Tests.{ltb-false, leb-false}
use lib.IntN.{ℤ, pos, neg_ℤ}
use Rattle.refusal.specs.Answer.{given}
use Rattle.refusal.specs.Tests.{bad_level}
use Rattle.refusal.proofs.Answers.{passed, given_same}
use Rattle.refusal.proofs.Tests.{clash}
use Rattle.cell.specs.Cell.{up, span, child, Place, place, number, Occurs, cells, max_level, bad_place, place_call, number_call}
use Rattle.cell.proofs.Laws.{level_0, number_below, number_place, child_number}
use Rattle.cell.proofs.Answers.{given_place, accepts, given_number, given_at}
use Rattle.position.specs.Position.{latitude_out, longitude_out, place_at, cell_call}
use Rattle.position.proofs.Laws.{offset_below, beginning_and_offset, place_at_occurs}
use Rattle.position.proofs.Calls.{answers, answered, answered_holds, answered_alone, answered_pole, south_mirror, answered_nested}
use Rattle.centre.proofs.Calls.{return_call, centre_returns}
use Rattle.code.proofs.Laws.{east_runs}
use Rattle.code.proofs.Calls.{calls_agree, code_once, call_back, three_neighbours, no_code_joins, code_past}
use Rattle.adjacency.proofs.Laws.{touching_6, touching_10, touching_12, cells_at_4, cells_at_6}
use Rattle.adjacency.proofs.Indirect.{direct_3, indirect_3, indirect_7}
use Rattle.fill.proofs.Laws.{fill_exactly, border_filled, outside_not_filled}
use Rattle.varint.proofs.Laws as numbers
use Rattle.border.proofs.Laws.{read_written, write_read, same_border, written_length}
use Rattle.chart.proofs.Laws.{not_a_number}
use Rattle.demands.specs.Demand2.{Demand2}
use Rattle.demands.proofs.Borders.{one_cell, border_layout, border_lengths}
use Rattle.demands.proofs.Centres.{centre_up, centre_down}
use Rattle.demands.proofs.Charts.{reads_fresh, reads_carried, reads_gap, day_fresh, day_carried, day_gap, day_count, day_coldest, day_warmest, day_none}
use Rattle.demands.proofs.Codes.{inside_octant, T_leads, E_leads, W_leads, direct_step}
use Rattle.demands.proofs.Numbers.{ends_early, not_in_form}
use Rattle.demands.proofs.Touching.{touch_point, touch_mutual, neighbours_touch, listing, touch_list}

-- ---- numbers and places

-- neither of two tests that fail together holds
neither : (a b : Bool) → (a || b) ≡ false → (a ≡ false) × (b ≡ false)
neither true b e = clash refl e
neither false b e = (refl, e)

-- where the number of a place is given, the place occurs
numbered_place : (k n : ℕ) (p : Place) → number_call k p ≡ given n → (k ≤ max_level) × Occurs k p × (number k p ≡ n)
numbered_place k n p e =
    let t = passed (bad_level max_level k ∷ bad_place k p ∷ []) (number k p) n (sym e) in
    let o = neither _ _ t.0.1.0 in
    (ltb-false max_level k t.0.0, (leb-false 8 p.0 o.0, ltb-false (2 ^ k) (span p.1) o.1), t.1)

-- a place that occurs is that of its number
place_found : (k : ℕ) (p : Place) → k ≤ max_level → Occurs k p → place_call k (number k p) ≡ given p
place_found k p h o =
    let g = given_at k p h o in
    sym (accepts k (number k p) (place k (number k p)) h g.below) ∙ ap given g.at

numbered : (k n : ℕ) (p : Place) → (place_call k n ≡ given p) ↔ (number_call k p ≡ given n)
numbered k n p = (
  (λ e.
      let g = given_place k n p (sym e) in
      given_number k p g.level g.occurs ∙ ap given (ap (number k) (sym g.at) ∙ number_place k n)),
  (λ e.
      let t = numbered_place k n p e in
      ap (place_call k) (sym t.2) ∙ place_found k p t.0 t.1),
)

places : (k : ℕ) (p : Place) → k ≤ max_level → ((n : ℕ) × (place_call k n ≡ given p)) ↔ Occurs k p
places k p h = (
  (λ w. (given_place k w.0 p (sym w.1)).occurs),
  (λ o. (number k p, place_found k p h o)),
)

level_zero : (n : ℕ) → n < 8 → place_call 0 n ≡ given (n, up 0 0)
level_zero n h = sym (accepts 0 n (place 0 n) (omega arith) (omega arith)) ∙ ap given (level_0 n)

children : (k n d : ℕ) (p : Place) → suc k ≤ max_level → d < 4 → place_call k n ≡ given p →
    place_call (suc k) (4 * n + d) ≡ given (p.0, child p.1 d)
children k n d p h l e =
    let g = given_place k n p (sym e) in
    sym (accepts (suc k) (4 * n + d) (place (suc k) (4 * n + d)) h (omega (arith, pow-suc 4 k, g.below)))
    ∙ ap given (child_number k n d l ∙ ap (λ (r : Place). (r.0, child r.1 d)) g.at)

-- ---- positions

has_cell : (k : ℕ) (y x : ℤ) → k ≤ max_level → latitude_out y ≡ false → longitude_out x ≡ false →
    (n : ℕ) × (n < cells k) × (cell_call k y x ≡ given n)
has_cell k y x h u v = (number k (place_at k y x), number_below k (place_at k y x) (place_at_occurs k y x u), answers k y x h u v)

south_mirrors : (k y : ℕ) (x : ℤ) (n : ℕ) → 1 ≤ y →
    (cell_call k (pos y) x ≡ given n) ↔ (cell_call k (neg_ℤ (pos y)) x ≡ given (n + 4 * 4 ^ k))
south_mirrors k zero x n h = absurd (omega arith)
south_mirrors k (suc y) x n h = (
  (λ e. south_mirror k y x n e),
  (λ e.
      let a = answered k (neg_ℤ (pos (suc y))) x (n + 4 * 4 ^ k) e in
      let north = answers k (pos (suc y)) x a.level a.latitude a.longitude in
      let same = given_same (sym (south_mirror k y x _ north) ∙ e) in
      let m = number k (place_at k (pos (suc y)) x) in
      let r : m ≡ n = omega (arith, same) in
      north ∙ ap given r),
)

pub demand_2 : Demand2
demand_2 = record {
  numbered = numbered;
  places = places;
  level_zero = level_zero;
  children = children;
  has_cell = has_cell;
  longitude = λ x h. (beginning_and_offset x h, offset_below x);
  cell_holds = answered_holds;
  cell_alone = answered_alone;
  at_pole = answered_pole;
  south_mirrors = south_mirrors;
  cell_nests = answered_nested;
  has_centre = centre_returns;
  centre_up = centre_up;
  centre_down = centre_down;
  centre_returns = return_call;
  inside_octant = inside_octant;
  T_leads = T_leads;
  E_leads = E_leads;
  W_leads = W_leads;
  east_runs = east_runs;
  code_above = code_past;
  code_is = calls_agree;
  one_code = code_once;
  no_code = no_code_joins;
  step_back = call_back;
  three_neighbours = three_neighbours;
  three_direct = direct_3;
  direct_step = direct_step;
  touch_point = touch_point;
  touch_mutual = touch_mutual;
  neighbours_touch = neighbours_touch;
  touch_list = touch_list;
  six_touch = λ n j out e. let g = listing 0 n j out e in sym g.count ∙ touching_6 n g.below;
  ten_touch = λ k n j out e l c. let g = listing k n j out e in sym g.count ∙ touching_10 k n l g.below c;
  twelve_touch = λ k n j out e l c. let g = listing k n j out e in sym g.count ∙ touching_12 k n g.below c;
  seven_indirect = indirect_7;
  three_indirect = indirect_3;
  six_meet = cells_at_6;
  four_meet = cells_at_4;
  fill_exactly = fill_exactly;
  border_filled = border_filled;
  outside_open = outside_not_filled;
  reads_fresh = reads_fresh;
  reads_carried = reads_carried;
  reads_gap = reads_gap;
  nan_out = not_a_number;
  day_fresh = day_fresh;
  day_carried = day_carried;
  day_gap = day_gap;
  day_count = day_count;
  day_coldest = day_coldest;
  day_warmest = day_warmest;
  day_none = day_none;
  number_read = numbers.read_written;
  number_exactly = numbers.read_exactly;
  number_ends_early = ends_early;
  number_not_in_form = not_in_form;
  border_read = read_written;
  border_written = write_read;
  border_layout = border_layout;
  border_lengths = border_lengths;
  one_border = same_border;
  one_cell = one_cell;
  border_length = written_length;
}
