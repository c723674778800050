-- The steps between spots, in rows, are exactly the direct steps between the cells that lie there. Assumes nothing.
use Prim.Native.Nat.{ℕ, ◌+◌, ◌-◌, ◌^◌, ◌≤◌, ◌<◌}
use mathlib.Core.Path.{◌≡◌, refl, sym, ap, subst, ◌∙◌}
use mathlib.Core.Bool.{true}
use mathlib.Core.Logic.{inl, inr, ⊎_elim}
use mathlib.Core.Option.{Option, none, some}
use native.Mathlib.Numerals.{add-one}
use native.Mathlib.Omega.{arith}
use Rattle.refusal.proofs.Tests.{clash}
use Rattle.cell.specs.declared.Kind.{Kind}
use Rattle.cell.specs.declared.Kind.TheVariants.{Up, Down}
use Rattle.cell.specs.Cell.{Triangle, up, down, row, col, span, triangle_of, Place, place, Occurs, cells}
use Rattle.cell.proofs.Laws.{place_occurs}
use Rattle.code.specs.Step.{across, east, west, code_to}
use Rattle.code.specs.Neighbours.{direct, direct_code, is_direct}
use Rattle.code.proofs.Laws.{Inner, up_t, up_l, up_r, up_e, up_w, down_t, down_l, down_r, down_e, down_w}
use Rattle.code.proofs.Laws.{Move, stay, over_t, over_e, over_w, step_move, move_step, code_step}
use Rattle.rows.specs.Rows.{cells_end, spot}
use Rattle.rows.proofs.Spots.{spot_same, size_low}
use Rattle.flood.specs.Flood.{Beside, down_here, down_back, down_last, up_here, up_on, up_next, Within, Edges, Over, Near}

-- ---- direct neighbours as moves

pub move_direct : (k n m c : ℕ) → n < cells k → direct c ≡ true → Move k (place k n) c (place k m) → is_direct k n m ≡ true
unfolding is_direct direct_code
move_direct k n m c h d v = ap direct_code ((code_step k m (place k n) c (place_occurs k n h)).1 (move_step k v)) ∙ d

pub direct_move : (k n m : ℕ) → n < cells k → is_direct k n m ≡ true → (c : ℕ) × (direct c ≡ true) × Move k (place k n) c (place k m)
unfolding is_direct direct_code
direct_move k n m h e = go (code_to k m (place k n)) refl e
  where
    go : (s : Option ℕ) → code_to k m (place k n) ≡ s → direct_code s ≡ true → (c : ℕ) × (direct c ≡ true) × Move k (place k n) c (place k m)
    go none q p = clash p refl
    go (some c) q p = (c, p, step_move k (place k n) c (place k m) ((code_step k m (place k n) c (place_occurs k n h)).0 q))

-- ---- from cells to spots

-- the rows in which a cell lies, and its spot there
unfoldable pub kind_of : Triangle → Kind
kind_of (up a b) = Up
kind_of (down a b) = Down

unfoldable pub spot_of : Place → ℕ
spot_of p = spot p.0 (row p.1) (col p.1)

module _ (k : ℕ) (low : k ≤ 8) where
  bound : 2 ^ k ≤ 256
  bound = size_low k low

  inner_near : {o : ℕ} {f g : Triangle} {c : ℕ} → Inner f c g → direct c ≡ true → o < 8 → span f ≤ 2 ^ k → span g ≤ 2 ^ k →
      Near k (kind_of f) (spot_of (o, f)) (kind_of g) (spot_of (o, g))
  unfolding kind_of spot_of row col span direct
  inner_near {o} (up_t {a} {a'} {b} e) d h x y =
      let n = bound in
      let q : spot o a b ≡ spot o a' b + 320 = omega arith in
      inl (down_last q, omega arith, omega arith)
  inner_near {o} (up_l {a} {b} {b'} e) d h x y =
      let n = bound in
      let q : spot o a b ≡ spot o a b' + 1 = omega arith in
      inl (down_back q, omega arith, omega arith)
  inner_near up_r d h x y = let n = bound in inl (down_here refl, omega arith, omega arith)
  inner_near (up_e e) d h x y = clash d refl
  inner_near (up_w e) d h x y = clash d refl
  inner_near {o} (down_t {a} {a'} {b} e) d h x y =
      let n = bound in
      let q : spot o a' b ≡ spot o a b + 320 = omega arith in
      inl (up_next q, omega arith, omega arith)
  inner_near down_l d h x y = let n = bound in inl (up_here refl, omega arith, omega arith)
  inner_near {o} (down_r {a} {b} {b'} e) d h x y =
      let n = bound in
      let q : spot o a b' ≡ spot o a b + 1 = omega arith in
      inl (up_on q, omega arith, omega arith)
  inner_near (down_e e) d h x y = clash d refl
  inner_near (down_w e) d h x y = clash d refl

  pub move_near : {p r : Place} {c : ℕ} → Move k p c r → direct c ≡ true → Occurs k p → Occurs k r → Near k (kind_of p.1) (spot_of p) (kind_of r.1) (spot_of r)
  unfolding kind_of spot_of row col span across east west
  move_near (stay i g) d x y = inner_near i d x.0 x.1 y.1
  move_near (over_t {o} {o'} {a} {b} q e) d x y =
      inr (o, x.0, (b, omega (arith, x.1), inr (refl, refl, inl (ap (λ (t : ℕ). spot o t b) e, omega arith))))
  move_near (over_e {o} {o'} {a} {b} {b'} q e z) d x y =
      inr (o, x.0, (a, omega (arith, x.1), inl (refl, refl, inl (omega arith, omega arith))))
  move_near (over_w {o} {o'} {a} {b} {b'} q e z) d x y =
      inr (o', y.0, (a, omega (arith, x.1), inl (refl, refl, inr (omega (arith, x.0), omega arith))))

  pub direct_near : (n m : ℕ) → n < cells k → m < cells k → is_direct k n m ≡ true →
      Near k (kind_of (place k n).1) (spot_of (place k n)) (kind_of (place k m).1) (spot_of (place k m))
  direct_near n m hn hm e = let w = direct_move k n m hn e in move_near w.2 w.1 (place_occurs k n hn) (place_occurs k m hm)

  -- ---- from spots to cells

  -- a direct move from one place to another
  abbrev Leads : Place → Place → Type 0
  Leads p r = (c : ℕ) × (direct c ≡ true) × Move k p c r

  never : {A : Type 0} → Down ≡ Up → A
  never e = let z : ◌≡◌ {A = ℕ} 0 1 = cc in absurd (omega arith)

  -- two spots that are one, of rows and columns to 256
  one_spot : (o a b o' a' b' : ℕ) → a + b < 2 ^ k → a' + b' < 2 ^ k → spot o a b ≡ spot o' a' b' → (o ≡ o') × (a ≡ a') × (b ≡ b')
  one_spot o a b o' a' b' h l e = let n = bound in spot_same o a b o' a' b' (omega arith) (omega arith) (omega arith) (omega arith) e

  beside_leads : {s t : Kind} {i j : ℕ} → Beside s i t j → (o a b o' a' b' : ℕ) → Occurs k (o, triangle_of s a b) → Occurs k (o', triangle_of t a' b') →
      spot o a b ≡ i → spot o' a' b' ≡ j → Leads (o, triangle_of s a b) (o', triangle_of t a' b')
  unfolding span direct
  beside_leads (down_here e) o a b o' a' b' x y p q =
      let w = one_spot o a b o' a' b' (omega (arith, x.1)) (omega (arith, y.1)) (p ∙ e ∙ sym q) in
      (2, refl, rw (w.0, w.1, w.2) (stay up_r y.1))
  beside_leads (down_back e) o a b o' a' b' x y p q =
      let w = one_spot o a b o' a' (b' + 1) (omega (arith, x.1)) (omega (arith, y.1)) (omega arith) in
      (1, refl, rw (w.0, w.1) (stay (up_l (w.2 ∙ add-one b')) y.1))
  beside_leads (down_last e) o a b o' a' b' x y p q =
      let w = one_spot o a b o' (a' + 1) b' (omega (arith, x.1)) (omega (arith, y.1)) (omega arith) in
      (0, refl, rw (w.0, w.2) (stay (up_t (w.1 ∙ add-one a')) y.1))
  beside_leads (up_here e) o a b o' a' b' x y p q =
      let w = one_spot o a b o' a' b' (omega (arith, x.1)) (omega (arith, y.1)) (p ∙ sym e ∙ sym q) in
      (1, refl, rw (w.0, w.1, w.2) (stay down_l y.1))
  beside_leads (up_on e) o a b o' a' b' x y p q =
      let w = one_spot o' a' b' o a (b + 1) (omega (arith, y.1)) (omega (arith, x.1)) (omega arith) in
      (2, refl, rw (w.0, w.1) (stay (down_r (w.2 ∙ add-one b)) (rw w.1 at y.1)))
  beside_leads (up_next e) o a b o' a' b' x y p q =
      let w = one_spot o' a' b' o (a + 1) b (omega (arith, y.1)) (omega (arith, x.1)) (omega arith) in
      (0, refl, rw (w.0, w.2) (stay (down_t (w.1 ∙ add-one a)) (rw w.2 at y.1)))

  edges_lead : (v n : ℕ) → v < 8 → n < 2 ^ k → (s t : Kind) (i j : ℕ) → Edges k v n s i t j → (o a b o' a' b' : ℕ) →
      Occurs k (o, triangle_of s a b) → Occurs k (o', triangle_of t a' b') → spot o a b ≡ i → spot o' a' b' ≡ j → Leads (o, triangle_of s a b) (o', triangle_of t a' b')
  unfolding span direct across east west
  edges_lead v n hv hn Down t i j (inl m) o a b o' a' b' x y p q = never m.0
  edges_lead v n hv hn Down t i j (inr m) o a b o' a' b' x y p q = never m.0
  edges_lead v n hv hn Up Down i j (inl m) o a b o' a' b' x y p q = never m.1
  edges_lead v n hv hn Up Down i j (inr m) o a b o' a' b' x y p q = never m.1
  edges_lead v n hv hn Up Up i j (inl m) o a b o' a' b' x y p q = ⊎_elim
      (λ (z : (i ≡ spot v n (2 ^ k - 1 - n)) × (j ≡ spot (east v) n 0)).
      let f = one_spot o a b v n (2 ^ k - 1 - n) (omega (arith, x.1)) (omega arith) (p ∙ z.0) in
      let g = one_spot o' a' b' (east v) n 0 (omega (arith, y.1)) (omega arith) (q ∙ z.1) in
      let ea : a' ≡ a = g.1 ∙ sym f.1 in
      let eo : o' ≡ east o = omega (arith, f.0, g.0) in
      let far : a + b + 1 ≡ 2 ^ k = omega (arith, f.1, f.2) in
      (6, refl, rw ea (over_e eo far g.2)))
      (λ (z : (i ≡ spot (east v) n 0) × (j ≡ spot v n (2 ^ k - 1 - n))).
      let f = one_spot o a b (east v) n 0 (omega (arith, x.1)) (omega arith) (p ∙ z.0) in
      let g = one_spot o' a' b' v n (2 ^ k - 1 - n) (omega (arith, y.1)) (omega arith) (q ∙ z.1) in
      let ea : a' ≡ a = g.1 ∙ sym f.1 in
      let eo : o' ≡ west o = omega (arith, f.0, g.0) in
      let far : b' ≡ 2 ^ k - 1 - a = omega (arith, f.1, g.2) in
      (7, refl, rw ea (over_w eo f.2 far)))
      m.2
  edges_lead v n hv hn Up Up i j (inr m) o a b o' a' b' x y p q = ⊎_elim
      (λ (z : (i ≡ spot v 0 n) × (j ≡ spot (across v) 0 n)).
      let f = one_spot o a b v 0 n (omega (arith, x.1)) (omega arith) (p ∙ z.0) in
      let g = one_spot o' a' b' (across v) 0 n (omega (arith, y.1)) (omega arith) (q ∙ z.1) in
      crossed (omega (arith, f.0, g.0)) f g)
      (λ (z : (i ≡ spot (across v) 0 n) × (j ≡ spot v 0 n)).
      let f = one_spot o a b (across v) 0 n (omega (arith, x.1)) (omega arith) (p ∙ z.0) in
      let g = one_spot o' a' b' v 0 n (omega (arith, y.1)) (omega arith) (q ∙ z.1) in
      crossed (omega (arith, f.0, g.0)) f g)
      m.2
    where
      crossed : {w w' : ℕ} → o' ≡ across o → (o ≡ w) × (a ≡ 0) × (b ≡ n) → (o' ≡ w') × (a' ≡ 0) × (b' ≡ n) → Leads (o, up a b) (o', up a' b')
      crossed e f g =
          let ea : a' ≡ a = g.1 ∙ sym f.1 in
          let eb : b' ≡ b = g.2 ∙ sym f.2 in
          (5, refl, rw (ea, eb) (over_t e f.1))

  pub near_direct : (s t : Kind) (i j : ℕ) → Near k s i t j → (n m o a b o' a' b' : ℕ) → n < cells k → m < cells k →
      place k n ≡ (o, triangle_of s a b) → spot o a b ≡ i → place k m ≡ (o', triangle_of t a' b') → spot o' a' b' ≡ j → is_direct k n m ≡ true
  near_direct s t i j z n m o a b o' a' b' hn hm en p em q =
      let x = subst (Occurs k) en (place_occurs k n hn) in
      let y = subst (Occurs k) em (place_occurs k m hm) in
      let w = ⊎_elim
      (λ (v : Within cells_end s i t j). beside_leads v.0 o a b o' a' b' x y p q)
      (λ (v : Over k 8 s i t j). edges_lead v.0 v.2.0 v.1 v.2.1 s t i j v.2.2 o a b o' a' b' x y p q)
      z in
      move_direct k n m w.0 hn w.1 (rw (en, em) w.2)
