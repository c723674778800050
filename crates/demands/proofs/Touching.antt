-- Touching by the calls: two cells touch exactly where they have a corner point in common, and the list call gives exactly the cells that touch.
-- Assumes nothing.
use Prim.Native.Nat.{ℕ, zero, suc, ◌+◌, ◌-◌, ◌≤◌, ◌<◌}
use mathlib.Core.Path.{◌≡◌, refl, sym, ap, subst, ◌∙◌}
use mathlib.Core.Bool.{Bool, true, false, not, cond}
use mathlib.Core.List.{List, [], ◌∷◌, ◌++◌}
use mathlib.Core.Logic.{◌⊎◌, inl, inr, ◌↔◌}
use native.Mathlib.Nat.{eq-or-lt_of_le}
use native.Mathlib.Omega.{arith}
use borrow.Author.Tests.{ltb-false, leb-false, le-ltb, lt-leb, eq-eqb, ne_eqb, not-true}
use lib.Dec.{leb, ltb, eqb}
use lib.ListN.{length, get_or, replicate}
use Rattle.refusal.specs.Answer.{Test, ◌when◌, given, in_order}
use Rattle.refusal.specs.Tests.{bad_level, bad_length}
use Rattle.refusal.proofs.Answers.{passed, gives}
use Rattle.refusal.proofs.Tests.{clash, both, parts}
use Rattle.cell.specs.Cell.{Triangle, up, down, Place, place, cells, max_level, bad_cell}
use Rattle.code.specs.Neighbours.{direct}
use Rattle.code.specs.Step.{step_call}
use Rattle.code.proofs.Calls.{stepped}
use Rattle.corner.specs.Corner.{Point, coordinate, point_in, corner, triangle_corners, corners, common, touches, touch_call}
use Rattle.corner.proofs.Common.{index_cases, three, same_coordinates, common_meeting, shared_common}
use Rattle.corner.proofs.Laws.{touches_symmetric}
use Rattle.adjacency.specs.Touch.{rising, touching, unused, padded, list_call}
use Rattle.adjacency.proofs.Listed.{touching_few}
use Rattle.adjacency.proofs.Direct.{direct_touches}
use Rattle.demands.specs.Demand2.{In, Rises, TouchList}

-- ---- the call

-- it answers yes exactly where level and cells are in range and the cells touch
pub record Touch (k n m : ℕ) : Type 0 where
  pub level : k ≤ max_level
  pub first : n < cells k
  pub second : m < cells k
  pub yes : touches k n m ≡ true

abbrev tests : ℕ → ℕ → ℕ → List Test
tests k n m = bad_level max_level k ∷ bad_cell k n ∷ bad_cell k m ∷ []

pub touch_known : (k n m : ℕ) → touch_call k n m ≡ given true → Touch k n m
touch_known k n m e =
    let t = passed (tests k n m) (touches k n m) true (sym e) in
    record {
      level = ltb-false max_level k t.0.0;
      first = leb-false (cells k) n t.0.1.0;
      second = leb-false (cells k) m t.0.1.1.0;
      yes = t.1;
    }

pub touch_given : (k n m : ℕ) → Touch k n m → touch_call k n m ≡ given true
touch_given k n m t =
    sym (gives (tests k n m) (touches k n m) (le-ltb max_level k t.level, (lt-leb (cells k) n t.first, (lt-leb (cells k) m t.second, tt))))
    ∙ ap given t.yes

-- both ways the same, whatever is refused
pub touch_mutual : (k n m : ℕ) → touch_call k n m ≡ touch_call k m n
touch_mutual k n m = rw (touches_symmetric k n m) (go (ltb max_level k) (leb (cells k) n) (leb (cells k) m) (touches k m n))
  where
    go : (l a b t : Bool) → in_order (1 when l ∷ 4 when a ∷ 4 when b ∷ []) t ≡ in_order (1 when l ∷ 4 when b ∷ 4 when a ∷ []) t
    go true a b t = refl
    go false true true t = refl
    go false true false t = refl
    go false false true t = refl
    go false false false t = refl

-- a direct code leads to a cell that touches
pub neighbours_touch : (k n m c : ℕ) → direct c ≡ true → step_call k n c ≡ given m → touch_call k n m ≡ given true
neighbours_touch k n m c d e =
    let s = stepped k n c m e in
    touch_given k n m (record {
      level = s.from.level;
      first = s.from.below;
      second = s.to.below;
      yes = direct_touches k n m s.from.below (c, d, s.goes);
    })

-- ---- points

-- corner i stands in the list of corners, and is its three numbers
corner_in : (k : ℕ) (p : Place) (i : ℕ) → i < 3 → In (get_or (corners k p) i []) (corners k p)
unfolding triangle_corners
corner_in k p i h = go p.1
  where
    go : (f : Triangle) → In (get_or (triangle_corners k p.0 f) i []) (triangle_corners k p.0 f)
    go (up a b) =
        let l = triangle_corners k p.0 (up a b) in
        index_cases (λ i. In (get_or l i []) l) (inl refl) (inr (inl refl)) (inr (inr (inl refl))) i h
    go (down a b) =
        let l = triangle_corners k p.0 (down a b) in
        index_cases (λ i. In (get_or l i []) l) (inl refl) (inr (inl refl)) (inr (inr (inl refl))) i h

in-corner : (k : ℕ) (p : Place) (x : Point) → In x (corners k p) → (i : ℕ) × (i < 3) × (x ≡ get_or (corners k p) i [])
unfolding triangle_corners
in-corner k p x e = go p.1 e
  where
    go : (f : Triangle) → In x (triangle_corners k p.0 f) → (i : ℕ) × (i < 3) × (x ≡ get_or (triangle_corners k p.0 f) i [])
    go (up a b) (inl e) = (0, omega arith, e)
    go (up a b) (inr (inl e)) = (1, omega arith, e)
    go (up a b) (inr (inr (inl e))) = (2, omega arith, e)
    go (up a b) (inr (inr (inr e))) = absurd e
    go (down a b) (inl e) = (0, omega arith, e)
    go (down a b) (inr (inl e)) = (1, omega arith, e)
    go (down a b) (inr (inr (inl e))) = (2, omega arith, e)
    go (down a b) (inr (inr (inr e))) = absurd e

abbrev numbers : Point → Point
numbers x = coordinate x 0 ∷ coordinate x 1 ∷ coordinate x 2 ∷ []

corner_numbers : (k : ℕ) (p : Place) (i : ℕ) → i < 3 → get_or (corners k p) i [] ≡ numbers (get_or (corners k p) i [])
unfolding triangle_corners corner point_in
corner_numbers k p i h = go p.1
  where
    go : (f : Triangle) → get_or (triangle_corners k p.0 f) i [] ≡ numbers (get_or (triangle_corners k p.0 f) i [])
    go (up a b) =
        let l = triangle_corners k p.0 (up a b) in
        index_cases (λ i. get_or l i [] ≡ numbers (get_or l i [])) refl refl refl i h
    go (down a b) =
        let l = triangle_corners k p.0 (down a b) in
        index_cases (λ i. get_or l i [] ≡ numbers (get_or l i [])) refl refl refl i h

-- two places have a point in common where one of it stands in both lists
abbrev Shared : ℕ → Place → Place → Type 0
Shared k p r = (x : Point) × In x (corners k p) × In x (corners k r)

common_shared : (k : ℕ) (p r : Place) → common (corners k p) (corners k r) ≡ true → Shared k p r
common_shared k p r e =
    let m = common_meeting (corners k p) (corners k r) e in
    let x = get_or (corners k p) m.i [] in
    let y = get_or (corners k r) m.j [] in
    let s = same_coordinates x y m.meet in
    let same : x ≡ y =
    corner_numbers k p m.i m.low.0 ∙ three (s 0 (omega arith)) (s 1 (omega arith)) (s 2 (omega arith)) ∙ sym (corner_numbers k r m.j m.low.1) in
    (x, corner_in k p m.i m.low.0, subst (λ (z : Point). In z (corners k r)) (sym same) (corner_in k r m.j m.low.1))

shared_corner : (k : ℕ) (p r : Place) → Shared k p r → common (corners k p) (corners k r) ≡ true
shared_corner k p r w =
    let i = in-corner k p w.0 w.1 in
    let j = in-corner k r w.0 w.2 in
    shared_common (corners k p) (corners k r) i.0 j.0 i.1 j.1 (sym i.2 ∙ j.2)

pub touch_point : (k n m : ℕ) → k ≤ max_level → n < cells k → m < cells k →
    (touch_call k n m ≡ given true) ↔ (¬ (n ≡ m) × ((x : Point) × In x (corners k (place k n)) × In x (corners k (place k m))))
unfolding touches
touch_point k n m h l l' = (
  (λ e.
      let t = parts (not (eqb n m)) _ (touch_known k n m e).yes in
      ((λ q. clash (eq-eqb n m q) (not-true (eqb n m) t.0)), common_shared k (place k n) (place k m) t.1)),
  (λ w.
      touch_given k n m (record {
        level = h;
        first = l;
        second = l';
        yes = both (not (eqb n m)) _ (ap not (ne_eqb n m w.0)) (shared_corner k (place k n) (place k m) w.1);
      })),
)

-- ---- rising lists

rising_rises : (P : ℕ → Bool) (j m b : ℕ) → b ≤ m → Rises b (rising P j m)
unfolding rising
rising_rises P zero m b h = tt
rising_rises P (suc j) m b h = go (P m) (rising_rises P j (suc m))
  where
    go : (t : Bool) → ((b : ℕ) → b ≤ suc m → Rises b (rising P j (suc m))) → Rises b (cond t (m ∷ rising P j (suc m)) (rising P j (suc m)))
    go true later = (h, later (m + 1) (omega arith))
    go false later = later b (omega arith)

in-rising : (P : ℕ → Bool) (j m d : ℕ) → In d (rising P j m) → (d < m + j) × (P d ≡ true)
unfolding rising
in-rising P zero m d e = absurd e
in-rising P (suc j) m d e = go (P m) refl (λ i. let r = in-rising P j (suc m) d i in (omega (arith, r.0), r.1)) e
  where
    go : (t : Bool) → P m ≡ t → (In d (rising P j (suc m)) → (d < m + suc j) × (P d ≡ true)) →
        In d (cond t (m ∷ rising P j (suc m)) (rising P j (suc m))) → (d < m + suc j) × (P d ≡ true)
    go true p later (inl e) = (omega arith, ap P e ∙ p)
    go true p later (inr e) = later e
    go false p later e = later e

rising_in : (P : ℕ → Bool) (j m d : ℕ) → m ≤ d → d < m + j → P d ≡ true → In d (rising P j m)
unfolding rising
rising_in P zero m d h l p = absurd (omega arith)
rising_in P (suc j) m d h l p = go (P m) refl (eq-or-lt_of_le h) (λ g. rising_in P j (suc m) d g (omega arith) p)
  where
    go : (t : Bool) → P m ≡ t → (m ≡ d) ⊎ (m < d) → (m < d → In d (rising P j (suc m))) →
        In d (cond t (m ∷ rising P j (suc m)) (rising P j (suc m)))
    go true e (inl q) later = inl (sym q)
    go true e (inr q) later = inr (later q)
    go false e (inl q) later = clash (ap P q ∙ p) e
    go false e (inr q) later = later q

-- ---- the list

abbrev list_tests : ℕ → ℕ → List ℕ → List Test
list_tests k n out = bad_level max_level k ∷ bad_cell k n ∷ bad_length 12 out ∷ []

-- what is known where the call gives a list of j cells
pub record Listing (k n j : ℕ) (out : List ℕ) : Type 0 where
  pub level : k ≤ max_level
  pub below : n < cells k
  pub count : length (touching k n) ≡ j
  pub written : (list_call k n out).1 ≡ padded (touching k n)

pub listing : (k n j : ℕ) (out : List ℕ) → (list_call k n out).0 ≡ given j → Listing k n j out
listing k n j out e =
    let t = passed (list_tests k n out) (length (touching k n)) j (sym e) in
    record { level = ltb-false max_level k t.0.0; below = leb-false (cells k) n t.0.1.0; count = t.1; written = rw e }

pub touch_list : (k n j : ℕ) (out : List ℕ) → (list_call k n out).0 ≡ given j → TouchList k n j (list_call k n out).1
unfolding padded touching
touch_list k n j out e =
    let g = listing k n j out e in
    record {
      listed = touching k n;
      count = g.count;
      room = subst (λ (i : ℕ). i ≤ 12) g.count (touching_few k n g.below);
      holds = g.written ∙ ap (λ (i : ℕ). touching k n ++ replicate (12 - i) unused) g.count;
      rises = rising_rises (touches k n) (cells k) 0 0 (omega arith);
      exactly = λ m. (
        (λ i.
            let r = in-rising (touches k n) (cells k) 0 m i in
            touch_given k n m (record { level = g.level; first = g.below; second = omega (arith, r.0); yes = r.1 })),
        (λ t.
            let s = touch_known k n m t in
            rising_in (touches k n) (cells k) 0 m (omega arith) (omega (arith, s.second)) s.yes),
      );
    }
