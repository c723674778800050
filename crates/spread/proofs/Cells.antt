-- Cells in rows, and the spots of their corners: `points_of` of a set's cells has each corner in its cell's octant. Assumes nothing.
use Prim.Native.Nat.{ℕ, ◌+◌, ◌-◌, ◌≤◌, ◌<◌, ◌^◌}
use mathlib.Core.Path.{◌≡◌, refl, sym, ap, subst, ◌∙◌}
use mathlib.Core.Bool.{Bool, true, false, ◌&&◌, ◌||◌, cond}
use mathlib.Core.Logic.{inl, inr, ⊎_elim}
use native.Mathlib.Nat.{le_trans}
use native.Mathlib.Omega.{arith}
use lib.Dec.{leb, ltb}
use borrow.Author.Tests.{leb-true, ltb-true, le-leb, lt-ltb}
use Rattle.refusal.proofs.Tests.{clash, both, parts, left, right, cases}
use Rattle.cell.specs.Cell.{Triangle, up, down, span, Place, place, number, Occurs}
use Rattle.cell.proofs.Laws.{place_occurs, place_number, number_place, number_below}
use Rattle.rows.specs.Rows.{spot, octant_at, row_at, col_at, inside}
use Rattle.rows.proofs.Spots.{spot_again, spot_octant, spot_row, spot_col, spot_same, inside_is, inside_spot, size_low}
use Rattle.raster.specs.Raster.{cell_at}
use Rattle.stencil.specs.Stencil.{points_of, in_rows}
use Rattle.spread.specs.Spread.{HasCorner, CellWith, Corners}
use Rattle.spread.proofs.Triangles.{corner_within}

-- ---- the spot of a cell

-- a cell of a set at spot i, of one kind
pub record CellOut (kind : ℕ → ℕ → Triangle) (k : ℕ) (A : ℕ → Bool) (i : ℕ) : Type 0 where
  pub o : ℕ
  pub a : ℕ
  pub b : ℕ
  pub occurs : Occurs k (o, kind a b)
  pub in-set : A (number k (o, kind a b)) ≡ true
  pub is : i ≡ spot o a b

pub cell_out : (kind : ℕ → ℕ → Triangle) (k : ℕ) (A : ℕ → Bool) (i : ℕ) → cell_at kind k A i ≡ true → CellOut kind k A i
unfolding cell_at
cell_out kind k A i e =
    let p = parts (leb 640 i && (ltb (octant_at i) 8 && leb (span (kind (row_at i) (col_at i))) (2 ^ k))) _ e in
    let q = parts (leb 640 i) _ p.0 in
    let s = parts (ltb (octant_at i) 8) _ q.1 in
    record {
      o = octant_at i;
      a = row_at i;
      b = col_at i;
      in-set = p.1;
      occurs = (ltb-true (octant_at i) 8 s.0, leb-true (span (kind (row_at i) (col_at i))) (2 ^ k) s.1);
      is = sym (spot_again i (leb-true 640 i q.0));
    }

pub cell_in : (kind : ℕ → ℕ → Triangle) (k : ℕ) (A : ℕ → Bool) (o a b : ℕ) → a < 258 → b < 320 → Occurs k (o, kind a b) →
    A (number k (o, kind a b)) ≡ true → cell_at kind k A (spot o a b) ≡ true
unfolding cell_at
cell_in kind k A o a b ha hb h e =
    let i = spot o a b in
    let eo = spot_octant o a b ha hb in
    let ea = spot_row o a b ha hb in
    let eb = spot_col o a b ha hb in
    let l : leb 640 i ≡ true = le-leb 640 i (omega arith) in
    let x : ltb (octant_at i) 8 ≡ true = ap (λ (n : ℕ). ltb n 8) eo ∙ lt-ltb o 8 h.0 in
    let f : kind (row_at i) (col_at i) ≡ kind a b = rw (ea, eb) in
    let y : leb (span (kind (row_at i) (col_at i))) (2 ^ k) ≡ true = ap (λ (g : Triangle). leb (span g) (2 ^ k)) f ∙ le-leb (span (kind a b)) (2 ^ k) h.1 in
    let z : A (number k (octant_at i, kind (row_at i) (col_at i))) ≡ true = rw (eo, f) e in
    both _ _ (both _ _ l (both _ _ x y)) z

-- ---- a cell of a set with a corner

-- by its place
pub with_corner : (k : ℕ) (A : ℕ → Bool) (o : ℕ) (f : Triangle) (t r : ℕ) → Occurs k (o, f) → A (number k (o, f)) ≡ true → HasCorner f t r → CellWith k A o t r
with_corner k A o f t r h e c =
    let p = place_number k (o, f) h in
    (number k (o, f), number_below k (o, f) h, e, ap (λ (q : Place). q.0) p, subst (λ (q : Place). HasCorner q.1 t r) (sym p) c)

-- the corner's octant is below 8 and its row and column lie in it
pub with_inside : (k : ℕ) (A : ℕ → Bool) (o t r : ℕ) → CellWith k A o t r → (o < 8) × (t + r ≤ 2 ^ k)
with_inside k A o t r w =
    let h = place_occurs k w.0 w.1 in
    (subst (λ (x : ℕ). x < 8) w.3 h.0, le_trans (corner_within (place k w.0).1 t r w.4) h.1)

-- ---- the points of a set's cells

-- a corner of a cell of a set, and its spot
abbrev pub CornerAt : ℕ → (ℕ → Bool) → ℕ → Type 0
CornerAt k A i = (o : ℕ) × (t : ℕ) × (r : ℕ) × (i ≡ spot o t r) × CellWith k A o t r

at_corner : (k : ℕ) (A : ℕ → Bool) (kind : ℕ → ℕ → Triangle) (j : ℕ) (w : CellOut kind k A j) (i t r : ℕ) → i ≡ spot w.o t r →
    HasCorner (kind w.a w.b) t r → CornerAt k A i
at_corner k A kind j w i t r e c = (w.o, t, r, e, with_corner k A w.o (kind w.a w.b) t r w.occurs w.in-set c)

module _ (k : ℕ) (A U D : ℕ → Bool) (us : (i : ℕ) → U i ≡ cell_at up k A i) (ds : (i : ℕ) → D i ≡ cell_at down k A i) where
  up_out : (j : ℕ) → U j ≡ true → CellOut up k A j
  up_out j e = cell_out up k A j (sym (us j) ∙ e)

  down_out : (j : ℕ) → D j ≡ true → CellOut down k A j
  down_out j e = cell_out down k A j (sym (ds j) ∙ e)

  points_out : (i : ℕ) → 640 ≤ i → points_of U D i ≡ true → CornerAt k A i
  unfolding points_of
  points_out i h e = ⊎_elim
      (λ (p : U i ≡ true). let w = up_out i p in at_corner k A up i w i w.a w.b w.is (inl (refl, refl)))
      one (cases (U i) _ e)
    where
      five : (D (i - 1) || D (i - 321)) ≡ true → CornerAt k A i
      five q = ⊎_elim
          (λ (p : D (i - 1) ≡ true). let w = down_out (i - 1) p in at_corner k A down (i - 1) w i w.a (w.b + 1) (omega (arith, w.is)) (inr (inl (refl, refl))))
          (λ (p : D (i - 321) ≡ true). let w = down_out (i - 321) p in at_corner k A down (i - 321) w i (w.a + 1) (w.b + 1) (omega (arith, w.is)) (inr (inr (refl, refl))))
          (cases (D (i - 1)) (D (i - 321)) q)

      four : (D (i - 320) || (D (i - 1) || D (i - 321))) ≡ true → CornerAt k A i
      four q = ⊎_elim
          (λ (p : D (i - 320) ≡ true). let w = down_out (i - 320) p in at_corner k A down (i - 320) w i (w.a + 1) w.b (omega (arith, w.is)) (inl (refl, refl)))
          five (cases (D (i - 320)) _ q)

      two : (U (i - 1) || (D (i - 320) || (D (i - 1) || D (i - 321)))) ≡ true → CornerAt k A i
      two q = ⊎_elim
          (λ (p : U (i - 1) ≡ true). let w = up_out (i - 1) p in at_corner k A up (i - 1) w i w.a (w.b + 1) (omega (arith, w.is)) (inr (inr (refl, refl))))
          four (cases (U (i - 1)) _ q)

      one : (U (i - 320) || (U (i - 1) || (D (i - 320) || (D (i - 1) || D (i - 321))))) ≡ true → CornerAt k A i
      one q = ⊎_elim
          (λ (p : U (i - 320) ≡ true). let w = up_out (i - 320) p in at_corner k A up (i - 320) w i (w.a + 1) w.b (omega (arith, w.is)) (inr (inl (refl, refl))))
          two (cases (U (i - 320)) _ q)

  module _ (h : k ≤ 8) where
    -- the cell's own spot is set
    own-up : (o a b : ℕ) → Occurs k (o, up a b) → A (number k (o, up a b)) ≡ true → (i : ℕ) → i ≡ spot o a b → U i ≡ true
    unfolding span
    own-up o a b l e i q = us i ∙ subst (λ (x : ℕ). cell_at up k A x ≡ true) (sym q) (cell_in up k A o a b (omega (arith, size_low k h)) (omega (arith, size_low k h)) l e)

    own-down : (o a b : ℕ) → Occurs k (o, down a b) → A (number k (o, down a b)) ≡ true → (i : ℕ) → i ≡ spot o a b → D i ≡ true
    unfolding span
    own-down o a b l e i q = ds i ∙ subst (λ (x : ℕ). cell_at down k A x ≡ true) (sym q) (cell_in down k A o a b (omega (arith, size_low k h)) (omega (arith, size_low k h)) l e)

    at_place : (o : ℕ) (f : Triangle) (t r : ℕ) → Occurs k (o, f) → A (number k (o, f)) ≡ true → HasCorner f t r → points_of U D (spot o t r) ≡ true
    unfolding points_of
    at_place o (up a b) t r l e (inl c) = left (U (spot o t r)) _ (own-up o a b l e (spot o t r) (omega arith))
    at_place o (up a b) t r l e (inr (inl c)) =
        let i = spot o t r in
        right (U i) _ (left (U (i - 320)) _ (own-up o a b l e (i - 320) (omega arith)))
    at_place o (up a b) t r l e (inr (inr c)) =
        let i = spot o t r in
        right (U i) _ (right (U (i - 320)) _ (left (U (i - 1)) _ (own-up o a b l e (i - 1) (omega arith))))
    at_place o (down a b) t r l e (inl c) =
        let i = spot o t r in
        right (U i) _ (right (U (i - 320)) _ (right (U (i - 1)) _ (left (D (i - 320)) _ (own-down o a b l e (i - 320) (omega arith)))))
    at_place o (down a b) t r l e (inr (inl c)) =
        let i = spot o t r in
        right (U i) _ (right (U (i - 320)) _ (right (U (i - 1)) _ (right (D (i - 320)) _ (left (D (i - 1)) _ (own-down o a b l e (i - 1) (omega arith))))))
    at_place o (down a b) t r l e (inr (inr c)) =
        let i = spot o t r in
        right (U i) _ (right (U (i - 320)) _ (right (U (i - 1)) _ (right (D (i - 320)) _ (right (D (i - 1)) _ (own-down o a b l e (i - 321) (omega arith))))))

    points-in : (o t r : ℕ) → CellWith k A o t r → points_of U D (spot o t r) ≡ true
    points-in o t r w =
        let p = place k w.0 in
        let e : A (number k p) ≡ true = ap A (number_place k w.0) ∙ w.2 in
        subst (λ (x : ℕ). points_of U D (spot x t r) ≡ true) w.3 (at_place p.0 p.1 t r (place_occurs k w.0 w.1) e w.4)

-- spots of the rows
pub in_rows_lem : (k o t r : ℕ) → k ≤ 8 → o < 8 → t + r ≤ 2 ^ k → in_rows (spot o t r) ≡ true
in_rows_lem k o t r h l m =
    let b = size_low k h in
    both (leb 640 (spot o t r)) (ltb (spot o t r) 660800) (le-leb 640 (spot o t r) (omega arith)) (lt-ltb (spot o t r) 660800 (omega arith))

-- what is written in the rows, where what is past them was clear
pub written : (P Q R : ℕ → Bool) → ((i : ℕ) → P i ≡ cond (in_rows i) (Q i) (R i)) → ((i : ℕ) → in_rows i ≡ false → R i ≡ false) →
    (i : ℕ) → P i ≡ true → (640 ≤ i) × (Q i ≡ true)
written P Q R f z i e = go (in_rows i) refl
  where
    go : (b : Bool) → in_rows i ≡ b → (640 ≤ i) × (Q i ≡ true)
    go true b = (leb-true 640 i (parts (leb 640 i) (ltb i 660800) b).0, sym (f i ∙ ap (λ (x : Bool). cond x (Q i) (R i)) b) ∙ e)
    go false b = clash e (f i ∙ ap (λ (x : Bool). cond x (Q i) (R i)) b ∙ z i b)

pub corners_of_lem : (k : ℕ) (A U D P R : ℕ → Bool) → k ≤ 8 → ((i : ℕ) → U i ≡ cell_at up k A i) → ((i : ℕ) → D i ≡ cell_at down k A i) →
    ((i : ℕ) → P i ≡ cond (in_rows i) (points_of U D i) (R i)) → ((i : ℕ) → in_rows i ≡ false → R i ≡ false) → Corners k P A
corners_of_lem k A U D P R h us ds f z = record { only = only; out = out; all = all }
  where
    found : (i : ℕ) → P i ≡ true → CornerAt k A i
    found i e = let w = written P (points_of U D) R f z i e in points_out k A U D us ds i w.0 w.1

    only : (i : ℕ) → P i ≡ true → inside k i ≡ true
    only i e =
        let c = found i e in
        let n = with_inside k A c.0 c.1 c.2 c.4 in
        subst (λ (x : ℕ). inside k x ≡ true) (sym c.3) (inside_spot k c.0 c.1 c.2 h n.0 n.1)

    out : (o t r : ℕ) → o < 8 → t + r ≤ 2 ^ k → P (spot o t r) ≡ true → CellWith k A o t r
    out o t r l m e =
        let c = found (spot o t r) e in
        let n = with_inside k A c.0 c.1 c.2 c.4 in
        let b = size_low k h in
        let q = spot_same c.0 c.1 c.2 o t r (omega arith) (omega arith) (omega arith) (omega arith) (sym c.3) in
        subst (λ (x : ℕ). CellWith k A x t r) q.0
        (subst (λ (x : ℕ). CellWith k A c.0 x r) q.1
        (subst (λ (x : ℕ). CellWith k A c.0 c.1 x) q.2 c.4))

    all : (o t r : ℕ) → CellWith k A o t r → P (spot o t r) ≡ true
    all o t r w =
        let n = with_inside k A o t r w in
        f (spot o t r) ∙ ap (λ (x : Bool). cond x (points_of U D (spot o t r)) (R (spot o t r))) (in_rows_lem k o t r h n.0 n.1)
        ∙ points-in k A U D us ds h o t r w

-- what is past the rows is no point
pub past_rows : (k : ℕ) (P : ℕ → Bool) → k ≤ 8 → ((i : ℕ) → P i ≡ true → inside k i ≡ true) → (i : ℕ) → in_rows i ≡ false → P i ≡ false
past_rows k P h f i e = go (P i) refl
  where
    go : (b : Bool) → P i ≡ b → P i ≡ false
    go true b =
        let n = inside_is k i (f i b) in
        clash (rw n.again at (in_rows_lem k (octant_at i) (row_at i) (col_at i) h n.octant n.sum)) e
    go false b = b
