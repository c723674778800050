-- Growing by points, ring by ring: joined at the seams the corners of a set's cells are its points; what is near them are the corners of the cells one
-- touching step on; and those cells are the cells that have a point of them. Assumes nothing.
use Prim.Native.Nat.{ℕ, ◌+◌, ◌≤◌, ◌<◌, ◌^◌}
use mathlib.Core.Path.{◌≡◌, refl, sym, ap, subst, ◌∙◌}
use mathlib.Core.Bool.{Bool, true, false, ◌&&◌, ◌||◌, cond}
use mathlib.Core.List.{List, []}
use mathlib.Core.Logic.{inl, inr, ⊎_elim}
use native.Mathlib.Nat.{one-le-pow, le_trans}
use native.Mathlib.Omega.{arith}
use lib.Dec.{leb, ltb}
use lib.ListN.{get_or}
use borrow.Author.Tests.{le-leb, lt-ltb}
use Rattle.refusal.proofs.Tests.{same_test, both, parts, left, right, cases}
use Rattle.cell.specs.Cell.{Triangle, up, down, span, Place, place, number, Occurs, cells}
use Rattle.cell.proofs.Laws.{place_occurs, place_number, number_below}
use Rattle.corner.specs.Corner.{Point, corner, corners, same_point, among, touches}
use Rattle.corner.proofs.Common.{among_index, index_among, same_point_refl, common_meeting, meeting_common}
use Rattle.walk.specs.Reach.{grown}
use Rattle.rows.specs.Rows.{lit, spot, octant_at, row_at, col_at, inside}
use Rattle.rows.proofs.Spots.{inside_is, inside_spot, spot_octant, spot_row, spot_col, small, size_low}
use Rattle.raster.specs.Raster.{triangle_lit, cell_lit}
use Rattle.seam.specs.Seam.{point_at, joined}
use Rattle.seam.proofs.Laws.{same_corner, joined_out, joined_in, joined_stays}
use Rattle.stencil.specs.Stencil.{near_of, up_of, down_of, in_rows, in_cell_rows}
use Rattle.spread.specs.Spread.{HasCorner, CellWith, CellAt, Corners, Points}
use Rattle.spread.proofs.Touching.{one_in, one_out}
use Rattle.spread.proofs.Triangles.{corner_at, corner_index, corner_within}
use Rattle.spread.proofs.Beside.{Beside, near_in, near_out, corners_beside, beside_triangle}
use Rattle.spread.proofs.Cells.{with_corner, with_inside, in_rows_lem, written}

-- ---- points and corners

-- the point at the spot of a row and a column
spot_point : (k o t r : ℕ) → k ≤ 8 → t + r ≤ 2 ^ k → point_at k (spot o t r) ≡ corner k o t r
unfolding point_at
spot_point k o t r h l = let s = small k t r h l in rw (spot_octant o t r s.0 s.1, spot_row o t r s.0 s.1, spot_col o t r s.0 s.1)

-- a corner of a cell is among its points
corner_among : (k c t r : ℕ) → HasCorner (place k c).1 t r → among (corner k (place k c).0 t r) (corners k (place k c)) ≡ true
corner_among k c t r h =
    let p = place k c in
    let w = corner_index k p.0 p.1 t r h in
    let s : same_point (corner k p.0 t r) (get_or (corners k p) w.0 []) ≡ true = rw w.2 (same_point_refl (corner k p.0 t r)) in
    index_among (corner k p.0 t r) (corners k p) w.0 w.1 s

-- a corner (t,r) of octant o among a cell's points is a corner of the cell
among_corner : (k o t r c : ℕ) → among (corner k o t r) (corners k (place k c)) ≡ true →
    (t' : ℕ) × (r' : ℕ) × HasCorner (place k c).1 t' r' × (corner k o t r ≡ corner k (place k c).0 t' r')
among_corner k o t r c e =
    let p = place k c in
    let w = among_index (corner k o t r) (corners k p) e in
    let q = corner_at k p.0 p.1 w.0 w.1 in
    let s : same_point (corner k o t r) (corner k p.0 q.0 q.1) ≡ true = rw q.3 at w.2 in
    (q.0, q.1, q.2, same_corner k o t r p.0 q.0 q.1 s)

-- ---- joined at the seams

module _ (k : ℕ) (P A : ℕ → Bool) (h : k ≤ 8) (s : Corners k P A) (Q : ℕ → Bool) (f : (i : ℕ) → Q i ≡ joined k P i) where
  joined_only : (i : ℕ) → Q i ≡ true → inside k i ≡ true
  joined_only i e = go (inside k i) refl
    where
      go : (b : Bool) → inside k i ≡ b → inside k i ≡ true
      go true b = b
      go false b = s.only i (sym (joined_stays k P i b) ∙ sym (f i) ∙ e)

  joined_cell : (i : ℕ) → Q i ≡ true → CellAt k A i
  unfolding point_at
  joined_cell i e =
      let w = joined_out k P i (joined_only i e) (sym (f i) ∙ e) in
      let n = inside_is k w.0 w.1 in
      let o = octant_at w.0 in
      let t = row_at w.0 in
      let r = col_at w.0 in
      let c = s.out o t r n.octant n.sum (subst (λ (x : ℕ). P x ≡ true) (sym n.again) w.3) in
      let m = corner_among k c.0 t r c.4 in
      let a : among (corner k o t r) (corners k (place k c.0)) ≡ true =
      subst (λ (x : ℕ). among (corner k x t r) (corners k (place k c.0)) ≡ true) c.3 m in
      (c.0, c.1, c.2, subst (λ (x : Point). among x (corners k (place k c.0)) ≡ true) (sym w.2) a)

  joined_all : (i : ℕ) → inside k i ≡ true → CellAt k A i → Q i ≡ true
  unfolding point_at
  joined_all i n c =
      let q = among_corner k (octant_at i) (row_at i) (col_at i) c.0 c.3 in
      let o = (place k c.0).0 in
      let with : CellWith k A o q.0 q.1 = (c.0, c.1, c.2, refl, q.2) in
      let l = with_inside k A o q.0 q.1 with in
      let j = spot o q.0 q.1 in
      let e : point_at k i ≡ point_at k j = q.3 ∙ sym (spot_point k o q.0 q.1 h l.1) in
      f i ∙ joined_in k P i j n (inside_spot k o q.0 q.1 h l.0 l.1) e (s.all o q.0 q.1 with)

  pub points_joined : Points k Q A
  points_joined = record { only = joined_only; out = joined_cell; all = joined_all }

-- ---- the cells one touching step on

-- a cell with a corner whose spot is set
grown_at : (k : ℕ) (P A : ℕ → Bool) → k ≤ 8 → Points k P A → (c t r : ℕ) → c < cells k → HasCorner (place k c).1 t r →
    P (spot (place k c).0 t r) ≡ true → grown (cells k) (touches k) 1 A c ≡ true
grown_at k P A h s c t r l m e =
    let o = (place k c).0 in
    let n = place_occurs k c l in
    let d = s.out (spot o t r) e in
    let x = spot_point k o t r h (le_trans (corner_within (place k c).1 t r m) n.1) in
    let a : among (corner k o t r) (corners k (place k d.0)) ≡ true = subst (λ (y : Point). among y (corners k (place k d.0)) ≡ true) x d.3 in
    let i = corner_index k o (place k c).1 t r m in
    let j = among_index (corner k o t r) (corners k (place k d.0)) a in
    let y : same_point (get_or (corners k (place k c)) i.0 []) (get_or (corners k (place k d.0)) j.0 []) ≡ true = rw i.2 j.2 in
    one_in k A c d.0 l d.1 d.2
    (meeting_common (corners k (place k c)) (corners k (place k d.0)) (record { i = i.0; j = j.0; low = (i.1, j.1); meet = y }))

-- and one that is grown to has such a corner
grown_corner : (k : ℕ) (P A : ℕ → Bool) → k ≤ 8 → Points k P A → (c : ℕ) → c < cells k → grown (cells k) (touches k) 1 A c ≡ true →
    (t : ℕ) × (r : ℕ) × HasCorner (place k c).1 t r × (P (spot (place k c).0 t r) ≡ true)
grown_corner k P A h s c l g =
    let p = place k c in
    let n = place_occurs k c l in
    let d = one_out k A c l g in
    let m = common_meeting (corners k p) (corners k (place k d.0)) d.3 in
    let q = corner_at k p.0 p.1 m.i m.low.0 in
    let w = le_trans (corner_within p.1 q.0 q.1 q.2) n.1 in
    let x = spot_point k p.0 q.0 q.1 h w in
    let y : same_point (corner k p.0 q.0 q.1) (get_or (corners k (place k d.0)) m.j []) ≡ true = rw q.3 at m.meet in
    let a = index_among (corner k p.0 q.0 q.1) (corners k (place k d.0)) m.j m.low.1 y in
    let i = inside_spot k p.0 q.0 q.1 h n.0 w in
    let z : among (point_at k (spot p.0 q.0 q.1)) (corners k (place k d.0)) ≡ true = rw x a in
    (q.0, q.1, q.2, s.all (spot p.0 q.0 q.1) i (d.0, d.1, d.2, z))

-- a set's cells and those one touching step on
abbrev Stepped : ℕ → (ℕ → Bool) → ℕ → Bool
Stepped k A = grown (cells k) (touches k) 1 A

-- a triangle of which one corner is set is that of such a cell
stepped_with : (k : ℕ) (P A : ℕ → Bool) → k ≤ 8 → Points k P A → (o : ℕ) (g : Triangle) (t r t' r' : ℕ) → Occurs k (o, g) → HasCorner g t r →
    HasCorner g t' r' → P (spot o t' r') ≡ true → CellWith k (Stepped k A) o t r
stepped_with k P A h s o g t r t' r' l c c' p =
    let at = place_number k (o, g) l in
    with_corner k (Stepped k A) o g t r l
    (grown_at k P A h s (number k (o, g)) t' r' (number_below k (o, g) l)
    (subst (λ (x : Place). HasCorner x.1 t' r') (sym at) c')
    (subst (λ (x : Place). P (spot x.0 t' r') ≡ true) (sym at) p)) c

-- a point beside one that is set is a corner of such a cell
beside_stepped : (k : ℕ) (P A : ℕ → Bool) → k ≤ 8 → Points k P A → (o t r o' t' r' : ℕ) → o < 8 → t + r ≤ 2 ^ k → t' + r' ≤ 2 ^ k →
    Beside (spot o t r) (spot o' t' r') → P (spot o' t' r') ≡ true → CellWith k (Stepped k A) o t r
beside_stepped k P A h s o t r o' t' r' l m m' b p =
    let q = beside_triangle (2 ^ k) o t r o' t' r' (one-le-pow k 2 (omega arith)) (size_low k h) m m' b in
    stepped_with k P A h s o q.1.0 t r t' r' (l, q.1.1) q.1.2 q.1.3 (subst (λ (x : ℕ). P (spot x t' r') ≡ true) (sym q.0) p)

-- what is near the points of a set's cells, within the level: the corners of the cells one touching step on
module _ (k : ℕ) (P A : ℕ → Bool) (h : k ≤ 8) (s : Points k P A) (W Q R : ℕ → Bool) (vs : (i : ℕ) → W i ≡ inside k i)
    (f : (i : ℕ) → Q i ≡ cond (in_rows i) (W i && near_of P i) (R i)) (z : (i : ℕ) → in_rows i ≡ false → R i ≡ false) where
  near_only : (i : ℕ) → Q i ≡ true → (640 ≤ i) × (inside k i ≡ true) × (near_of P i ≡ true)
  near_only i e =
      let w = written Q (λ j. W j && near_of P j) R f z i e in
      let p = parts (W i) (near_of P i) w.1 in
      (w.0, sym (vs i) ∙ p.0, p.1)

  near_cell : (o t r : ℕ) → o < 8 → t + r ≤ 2 ^ k → Q (spot o t r) ≡ true → CellWith k (Stepped k A) o t r
  near_cell o t r l m e =
      let w = near_only (spot o t r) e in
      let j = near_out P (spot o t r) w.0 w.2 in
      let n = inside_is k j.0 (s.only j.0 j.2) in
      let b = subst (Beside (spot o t r)) (sym n.again) j.1 in
      beside_stepped k P A h s o t r (octant_at j.0) (row_at j.0) (col_at j.0) l m n.sum b (subst (λ (x : ℕ). P x ≡ true) (sym n.again) j.2)

  near_all : (o t r : ℕ) → CellWith k (Stepped k A) o t r → Q (spot o t r) ≡ true
  near_all o t r w =
      let n = with_inside k (Stepped k A) o t r w in
      let c = w.0 in
      let g = grown_corner k P A h s c w.1 w.2 in
      let near = near_in P (spot (place k c).0 t r) (spot (place k c).0 g.0 g.1) (corners_beside (place k c).0 (place k c).1 t r g.0 g.1 w.4 g.2) g.3 in
      let near' : near_of P (spot o t r) ≡ true = subst (λ (x : ℕ). near_of P (spot x t r) ≡ true) w.3 near in
      let i = spot o t r in
      let v : W i ≡ true = vs i ∙ inside_spot k o t r h n.0 n.1 in
      f i ∙ ap (λ (b : Bool). cond b (W i && near_of P i) (R i)) (in_rows_lem k o t r h n.0 n.1) ∙ both (W i) (near_of P i) v near'

  pub corners_near : Corners k Q (grown (cells k) (touches k) 1 A)
  corners_near = record { only = λ i e. (near_only i e).1; out = near_cell; all = near_all }

-- ---- the cells that have a point

-- spots of cells are in the rows of cells
in-cell-rows : (k o a b : ℕ) → k ≤ 8 → o < 8 → a + b < 2 ^ k → in_cell_rows (spot o a b) ≡ true
in-cell-rows k o a b h l m =
    let n = size_low k h in
    both (leb 640 (spot o a b)) (ltb (spot o a b) 660480) (le-leb 640 (spot o a b) (omega arith)) (lt-ltb (spot o a b) 660480 (omega arith))

module _ (P : ℕ → Bool) (o a b : ℕ) where
  move : (i j : ℕ) → i ≡ j → P i ≡ true → P j ≡ true
  move i j e p = subst (λ (x : ℕ). P x ≡ true) e p

  -- the rows of up cells, and of down cells, ask the three corners
  up_any : (t r : ℕ) → HasCorner (up a b) t r → P (spot o t r) ≡ true → up_of P (spot o a b) ≡ true
  unfolding up_of
  up_any t r (inl e) p = left (P (spot o a b)) _ (move (spot o t r) (spot o a b) (omega arith) p)
  up_any t r (inr (inl e)) p = right (P (spot o a b)) _ (left (P (spot o a b + 320)) _ (move (spot o t r) (spot o a b + 320) (omega arith) p))
  up_any t r (inr (inr e)) p = right (P (spot o a b)) _ (right (P (spot o a b + 320)) _ (move (spot o t r) (spot o a b + 1) (omega arith) p))

  down_any : (t r : ℕ) → HasCorner (down a b) t r → P (spot o t r) ≡ true → down_of P (spot o a b) ≡ true
  unfolding down_of
  down_any t r (inl e) p = left (P (spot o a b + 320)) _ (move (spot o t r) (spot o a b + 320) (omega arith) p)
  down_any t r (inr (inl e)) p = right (P (spot o a b + 320)) _ (left (P (spot o a b + 1)) _ (move (spot o t r) (spot o a b + 1) (omega arith) p))
  down_any t r (inr (inr e)) p = right (P (spot o a b + 320)) _ (right (P (spot o a b + 1)) _ (move (spot o t r) (spot o a b + 321) (omega arith) p))

  abbrev Some : Triangle → Type 0
  Some g = (t : ℕ) × (r : ℕ) × HasCorner g t r × (P (spot o t r) ≡ true)

  up_some : up_of P (spot o a b) ≡ true → Some (up a b)
  unfolding up_of
  up_some e = ⊎_elim
      (λ (p : P (spot o a b) ≡ true). (a, b, inl (refl, refl), p))
      (λ (q : (P (spot o a b + 320) || P (spot o a b + 1)) ≡ true). ⊎_elim
      (λ (p : P (spot o a b + 320) ≡ true). (a + 1, b, inr (inl (refl, refl)), move (spot o a b + 320) (spot o (a + 1) b) (omega arith) p))
      (λ (p : P (spot o a b + 1) ≡ true). (a, b + 1, inr (inr (refl, refl)), move (spot o a b + 1) (spot o a (b + 1)) (omega arith) p))
      (cases (P (spot o a b + 320)) (P (spot o a b + 1)) q))
      (cases (P (spot o a b)) _ e)

  down_some : down_of P (spot o a b) ≡ true → Some (down a b)
  unfolding down_of
  down_some e = ⊎_elim
      (λ (p : P (spot o a b + 320) ≡ true). (a + 1, b, inl (refl, refl), move (spot o a b + 320) (spot o (a + 1) b) (omega arith) p))
      (λ (q : (P (spot o a b + 1) || P (spot o a b + 321)) ≡ true). ⊎_elim
      (λ (p : P (spot o a b + 1) ≡ true). (a, b + 1, inr (inl (refl, refl)), move (spot o a b + 1) (spot o a (b + 1)) (omega arith) p))
      (λ (p : P (spot o a b + 321) ≡ true). (a + 1, b + 1, inr (inr (refl, refl)), move (spot o a b + 321) (spot o (a + 1) (b + 1)) (omega arith) p))
      (cases (P (spot o a b + 1)) (P (spot o a b + 321)) q))
      (cases (P (spot o a b + 320)) _ e)

module _ (k : ℕ) (P A : ℕ → Bool) (h : k ≤ 8) (s : Points k P A) (u u₀ d d₀ : List ℕ)
    (us : (i : ℕ) → lit u i ≡ cond (in_cell_rows i) (up_of P i) (lit u₀ i)) (ds : (i : ℕ) → lit d i ≡ cond (in_cell_rows i) (down_of P i) (lit d₀ i)) where
  set_up : (o a b : ℕ) → Occurs k (o, up a b) → lit u (spot o a b) ≡ up_of P (spot o a b)
  unfolding span
  set_up o a b l = us (spot o a b) ∙ ap (λ (x : Bool). cond x (up_of P (spot o a b)) (lit u₀ (spot o a b))) (in-cell-rows k o a b h l.0 (omega arith))

  set_down : (o a b : ℕ) → Occurs k (o, down a b) → lit d (spot o a b) ≡ down_of P (spot o a b)
  unfolding span
  set_down o a b l = ds (spot o a b) ∙ ap (λ (x : Bool). cond x (down_of P (spot o a b)) (lit d₀ (spot o a b))) (in-cell-rows k o a b h l.0 (omega arith))

  triangle_any : (o : ℕ) (g : Triangle) → Occurs k (o, g) → (t r : ℕ) → HasCorner g t r → P (spot o t r) ≡ true → triangle_lit u d o g ≡ true
  unfolding triangle_lit
  triangle_any o (up a b) l t r c p = set_up o a b l ∙ up_any P o a b t r c p
  triangle_any o (down a b) l t r c p = set_down o a b l ∙ down_any P o a b t r c p

  triangle_some : (o : ℕ) (g : Triangle) → Occurs k (o, g) → triangle_lit u d o g ≡ true → (t : ℕ) × (r : ℕ) × HasCorner g t r × (P (spot o t r) ≡ true)
  unfolding triangle_lit
  triangle_some o (up a b) l e = up_some P o a b (sym (set_up o a b l) ∙ e)
  triangle_some o (down a b) l e = down_some P o a b (sym (set_down o a b l) ∙ e)

  -- each cell's spot tells whether it is one touching step on
  pub cells_grown : (c : ℕ) → c < cells k → cell_lit k u d c ≡ grown (cells k) (touches k) 1 A c
  unfolding cell_lit
  cells_grown c l =
      let p = place k c in
      let n = place_occurs k c l in
      same_test (triangle_lit u d p.0 p.1) (grown (cells k) (touches k) 1 A c)
      (λ e. let w = triangle_some p.0 p.1 n e in grown_at k P A h s c w.0 w.1 l w.2 w.3)
      (λ e. let w = grown_corner k P A h s c l e in triangle_any p.0 p.1 n w.0 w.1 w.2 w.3)

-- ---- the set may be said otherwise

pub points_cong : (k : ℕ) (P A B : ℕ → Bool) → ((c : ℕ) → c < cells k → A c ≡ B c) → Points k P A → Points k P B
points_cong k P A B e s = record {
  only = s.only;
  out = λ i p. let w = s.out i p in (w.0, w.1, sym (e w.0 w.1) ∙ w.2, w.3);
  all = λ i n w. s.all i n (w.0, w.1, e w.0 w.1 ∙ w.2, w.3);
}
