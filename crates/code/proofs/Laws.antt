-- The laws of steps and codes, each once over the level k. They are what the crates above cite.
-- The table of steps is read once, into the relation Move; all that follows goes by its four kinds of step.
-- Assumes nothing.
use Prim.Native.Nat.{ℕ, zero, suc, ◌+◌, ◌*◌, ◌-◌, ◌/◌, ◌%◌, ◌^◌, ◌≤◌, ◌<◌}
use mathlib.Core.Bool.{Bool, true, false, false≢true}
use mathlib.Core.List.{List, [], ◌∷◌, map}
use mathlib.Core.Logic.{◌⊎◌, inl, inr, ◌↔◌}
use mathlib.Core.Option.{Option, none, some, some-injective, none-ne-some}
use mathlib.Core.Path.{◌≡◌, refl, sym, ap, subst, ◌∙◌}
use native.Mathlib.Numerals.{add-one}
use native.Mathlib.Omega.{arith}
use lib.Dec.{leb, eqb}
use lib.ListN.{get_or, get_or-map, get_or-eq_default}
use borrow.Author.Tests.{leb-true, leb-false, eqb-true, le-leb, eq-eqb, ne_eqb}
use Rattle.refusal.proofs.Tests.{clash}
use Rattle.cell.specs.Cell.{Triangle, up, down, span, Place, place, number, Occurs}
use Rattle.cell.proofs.Laws.{place_number, number_place}
use Rattle.code.specs.Step.{across, east, west, less, found_if, inside, steps, step, leads_to, first_true, code_to}
use Rattle.code.specs.Neighbours.{back, direct}

-- a place has a direct neighbour along one of them
abbrev pub Direct : ℕ → Place → Place → Type 0
Direct k p r = (c : ℕ) × (direct c ≡ true) × (step k p c ≡ some r)

-- ---- three direct neighbours, of a place

-- exactly one of two steps exists, and it leads to x
abbrev pub One : Option Place → Option Place → Place → Type 0
One s s' x = ((s ≡ some x) × (s' ≡ none)) ⊎ ((s ≡ none) × (s' ≡ some x))

-- one by t or T, one by l or W, one by r or E, all different, and no other
pub record Three (k : ℕ) (p : Place) : Type 0 where
  pub top : Place
  pub left : Place
  pub right : Place
  pub by_top : One (step k p 0) (step k p 5) top
  pub by_left : One (step k p 1) (step k p 7) left
  pub by_right : One (step k p 2) (step k p 6) right
  pub top_left : ¬ (top ≡ left)
  pub left_right : ¬ (left ≡ right)
  pub right_top : ¬ (right ≡ top)
  pub only : (r : Place) → Direct k p r → (r ≡ top) ⊎ (r ≡ left) ⊎ (r ≡ right)

-- ---- the table as a relation

-- the steps inside an octant, from one triangle along a code to another
pub data Inner : Triangle → ℕ → Triangle → Type 0 where
  up_t : {a a' b : ℕ} → a ≡ suc a' → Inner (up a b) 0 (down a' b)
  up_l : {a b b' : ℕ} → b ≡ suc b' → Inner (up a b) 1 (down a b')
  up_r : {a b : ℕ} → Inner (up a b) 2 (down a b)
  up_e : {a b b' : ℕ} → b' ≡ suc b → Inner (up a b) 3 (up a b')
  up_w : {a b b' : ℕ} → b ≡ suc b' → Inner (up a b) 4 (up a b')
  down_t : {a a' b : ℕ} → a' ≡ suc a → Inner (down a b) 0 (up a' b)
  down_l : {a b : ℕ} → Inner (down a b) 1 (up a b)
  down_r : {a b b' : ℕ} → b' ≡ suc b → Inner (down a b) 2 (up a b')
  down_e : {a b b' : ℕ} → b' ≡ suc b → Inner (down a b) 3 (down a b')
  down_w : {a b b' : ℕ} → b ≡ suc b' → Inner (down a b) 4 (down a b')

-- the steps at level k: those inside an octant, and those over one of its three edges
pub data Move (k : ℕ) : Place → ℕ → Place → Type 0 where
  stay : {o c : ℕ} {f f' : Triangle} → Inner f c f' → span f' ≤ 2 ^ k → Move k (o, f) c (o, f')
  over_t : {o o' a b : ℕ} → o' ≡ across o → a ≡ 0 → Move k (o, up a b) 5 (o', up a b)
  over_e : {o o' a b b' : ℕ} → o' ≡ east o → a + b + 1 ≡ 2 ^ k → b' ≡ 0 → Move k (o, up a b) 6 (o', up a b')
  over_w : {o o' a b b' : ℕ} → o' ≡ west o → b ≡ 0 → b' ≡ 2 ^ k - 1 - a → Move k (o, up a b) 7 (o', up a b')

-- what holds of 0 to 7, and of all above, holds of each code
pub code_cases : (P : ℕ → Type 0) → P 0 → P 1 → P 2 → P 3 → P 4 → P 5 → P 6 → P 7 →
    ((c : ℕ) → P (suc (suc (suc (suc (suc (suc (suc (suc c))))))))) → (c : ℕ) → P c
code_cases P p0 p1 p2 p3 p4 p5 p6 p7 past zero = p0
code_cases P p0 p1 p2 p3 p4 p5 p6 p7 past (suc zero) = p1
code_cases P p0 p1 p2 p3 p4 p5 p6 p7 past (suc (suc zero)) = p2
code_cases P p0 p1 p2 p3 p4 p5 p6 p7 past (suc (suc (suc zero))) = p3
code_cases P p0 p1 p2 p3 p4 p5 p6 p7 past (suc (suc (suc (suc zero)))) = p4
code_cases P p0 p1 p2 p3 p4 p5 p6 p7 past (suc (suc (suc (suc (suc zero))))) = p5
code_cases P p0 p1 p2 p3 p4 p5 p6 p7 past (suc (suc (suc (suc (suc (suc zero)))))) = p6
code_cases P p0 p1 p2 p3 p4 p5 p6 p7 past (suc (suc (suc (suc (suc (suc (suc zero))))))) = p7
code_cases P p0 p1 p2 p3 p4 p5 p6 p7 past (suc (suc (suc (suc (suc (suc (suc (suc c)))))))) = past c

-- an entry of the table that holds no step
absent : {P : Type 0} (r : Place) → ◌≡◌ {A = Option Place} none (some r) → P
absent r e = absurd (none-ne-some r e)

-- an entry that holds a step where a test holds
if_cases : (P : Place → Type 0) (t : Bool) (x : Place) → (t ≡ true → P x) → (r : Place) → found_if t x ≡ some r → P r
if_cases P true x h r e = subst P (some-injective x r e) (h refl)
if_cases P false x h r e = absent r e

-- an entry that holds a step where its triangle lies inside the octant
inside_cases : (k o : ℕ) (P : Place → Type 0) (f : Triangle) → (span f ≤ 2 ^ k → P (o, f)) → (r : Place) → inside k o (some f) ≡ some r → P r
inside_cases k o P f h = if_cases P (leb (span f) (2 ^ k)) (o, f) (λ e. h (leb-true _ _ e))

-- the same of a triangle with one less than n
less_cases : (k o : ℕ) (P : ℕ → Place → Type 0) (g : ℕ → Triangle) →
    ((m : ℕ) → span (g m) ≤ 2 ^ k → P (suc m) (o, g m)) → (n : ℕ) (r : Place) → inside k o (less n g) ≡ some r → P n r
less_cases k o P g h zero r e = absent r e
less_cases k o P g h (suc m) r e = inside_cases k o (P (suc m)) (g m) (h m) r e

-- each step of the table is one of the relation's
pub step_move : (k : ℕ) (p : Place) (c : ℕ) (r : Place) → step k p c ≡ some r → Move k p c r
unfolding step steps
step_move k p c r e = go p.0 p.1 c r e
  where
    go : (o : ℕ) (f : Triangle) (c : ℕ) (r : Place) → step k (o, f) c ≡ some r → Move k (o, f) c r
    go o (up a b) c r = code_cases (λ (c : ℕ). step k (o, up a b) c ≡ some r → Move k (o, up a b) c r)
        (less_cases k o (λ a r. Move k (o, up a b) 0 r) (λ a'. down a' b) (λ a'. stay (up_t refl)) a r)
        (less_cases k o (λ b r. Move k (o, up a b) 1 r) (λ b'. down a b') (λ b'. stay (up_l refl)) b r)
        (inside_cases k o (Move k (o, up a b) 2) (down a b) (stay up_r) r)
        (inside_cases k o (Move k (o, up a b) 3) (up a (b + 1)) (stay (up_e (add-one b))) r)
        (less_cases k o (λ b r. Move k (o, up a b) 4 r) (λ b'. up a b') (λ b'. stay (up_w refl)) b r)
        (if_cases (Move k (o, up a b) 5) (eqb a 0) (across o, up a b) (λ e. over_t refl (eqb-true _ _ e)) r)
        (if_cases (Move k (o, up a b) 6) (eqb (a + b + 1) (2 ^ k)) (east o, up a 0) (λ e. over_e refl (eqb-true _ _ e) refl) r)
        (if_cases (Move k (o, up a b) 7) (eqb b 0) (west o, up a (2 ^ k - 1 - a)) (λ e. over_w refl (eqb-true _ _ e) refl) r)
        (λ c. absent r)
        c
    go o (down a b) c r = code_cases (λ (c : ℕ). step k (o, down a b) c ≡ some r → Move k (o, down a b) c r)
        (inside_cases k o (Move k (o, down a b) 0) (up (a + 1) b) (stay (down_t (add-one a))) r)
        (inside_cases k o (Move k (o, down a b) 1) (up a b) (stay down_l) r)
        (inside_cases k o (Move k (o, down a b) 2) (up a (b + 1)) (stay (down_r (add-one b))) r)
        (inside_cases k o (Move k (o, down a b) 3) (down a (b + 1)) (stay (down_e (add-one b))) r)
        (less_cases k o (λ b r. Move k (o, down a b) 4 r) (λ b'. down a b') (λ b'. stay (down_w refl)) b r)
        (absent r)
        (absent r)
        (absent r)
        (λ c. absent r)
        c

-- each step of the relation is one of the table's
pub move_step : (k : ℕ) {p : Place} {c : ℕ} {r : Place} → Move k p c r → step k p c ≡ some r
unfolding step steps
move_step k (stay i h) = inner i h
  where
    inner : {o : ℕ} {f : Triangle} {c : ℕ} {f' : Triangle} → Inner f c f' → span f' ≤ 2 ^ k → step k (o, f) c ≡ some (o, f')
    inner (up_t e) h = simp (e, le-leb _ _ h)
    inner (up_l e) h = simp (e, le-leb _ _ h)
    inner up_r h = simp (le-leb _ _ h)
    inner (up_e e) h = simp (add-one, ← e, le-leb _ _ h)
    inner (up_w e) h = simp (e, le-leb _ _ h)
    inner (down_t e) h = simp (add-one, ← e, le-leb _ _ h)
    inner down_l h = simp (le-leb _ _ h)
    inner (down_r e) h = simp (add-one, ← e, le-leb _ _ h)
    inner (down_e e) h = simp (add-one, ← e, le-leb _ _ h)
    inner (down_w e) h = simp (e, le-leb _ _ h)
move_step k (over_t x e) = simp (x, eq-eqb _ _ e)
move_step k (over_e x e z) = simp (x, z, eq-eqb _ _ e)
move_step k (over_w x e z) = simp (x, z, eq-eqb _ _ e)

-- ---- where the codes lead

-- the steps inside an octant have the codes t, l, r, e, w
inner_below : {f : Triangle} {c : ℕ} {f' : Triangle} → Inner f c f' → c < 5
inner_below (up_t e) = omega arith
inner_below (up_l e) = omega arith
inner_below up_r = omega arith
inner_below (up_e e) = omega arith
inner_below (up_w e) = omega arith
inner_below (down_t e) = omega arith
inner_below down_l = omega arith
inner_below (down_r e) = omega arith
inner_below (down_e e) = omega arith
inner_below (down_w e) = omega arith

-- and stay in the octant
pub inside_octant : (k : ℕ) (p : Place) (c : ℕ) (r : Place) → step k p c ≡ some r → c < 5 → r.0 ≡ p.0
inside_octant k p c r e = go (step_move k p c r e)
  where
    go : {p : Place} {c : ℕ} {r : Place} → Move k p c r → c < 5 → r.0 ≡ p.0
    go (stay i h) g = refl
    go (over_t x e) g = absurd (omega arith)
    go (over_e x e z) g = absurd (omega arith)
    go (over_w x e z) g = absurd (omega arith)

-- T leads from an up cell in row 0 to the same row and column of the other hemisphere
pub T_leads : (k : ℕ) (p r : Place) → step k p 5 ≡ some r → (o : ℕ) × (b : ℕ) × (p ≡ (o, up 0 b)) × (r ≡ (across o, up 0 b))
T_leads k p r e = go (step_move k p 5 r e) refl
  where
    go : {p : Place} {c : ℕ} {r : Place} → Move k p c r → c ≡ 5 → (o : ℕ) × (b : ℕ) × (p ≡ (o, up 0 b)) × (r ≡ (across o, up 0 b))
    go (stay i h) f = absurd (omega (arith, inner_below i))
    go (over_t {o} {o'} {a} {b} x e) f = (o, b, rw e, rw (x, e))
    go (over_e x e z) f = absurd (omega arith)
    go (over_w x e z) f = absurd (omega arith)

-- E leads from an up cell with a + b = N − 1 to up(a,0) of the octant to the east
pub E_leads : (k : ℕ) (p r : Place) → step k p 6 ≡ some r →
    (o : ℕ) × (a : ℕ) × (b : ℕ) × (a + b + 1 ≡ 2 ^ k) × (p ≡ (o, up a b)) × (r ≡ (east o, up a 0))
E_leads k p r e = go (step_move k p 6 r e) refl
  where
    go : {p : Place} {c : ℕ} {r : Place} → Move k p c r → c ≡ 6 →
        (o : ℕ) × (a : ℕ) × (b : ℕ) × (a + b + 1 ≡ 2 ^ k) × (p ≡ (o, up a b)) × (r ≡ (east o, up a 0))
    go (stay i h) f = absurd (omega (arith, inner_below i))
    go (over_t x e) f = absurd (omega arith)
    go (over_e {o} {o'} {a} {b} x e z) f = (o, a, b, e, refl, rw (x, z))
    go (over_w x e z) f = absurd (omega arith)

-- W leads from an up cell with b = 0 to up(a,N−1−a) of the octant to the west
pub W_leads : (k : ℕ) (p r : Place) → step k p 7 ≡ some r →
    (o : ℕ) × (a : ℕ) × (p ≡ (o, up a 0)) × (r ≡ (west o, up a (2 ^ k - 1 - a)))
W_leads k p r e = go (step_move k p 7 r e) refl
  where
    go : {p : Place} {c : ℕ} {r : Place} → Move k p c r → c ≡ 7 →
        (o : ℕ) × (a : ℕ) × (p ≡ (o, up a 0)) × (r ≡ (west o, up a (2 ^ k - 1 - a)))
    go (stay i h) f = absurd (omega (arith, inner_below i))
    go (over_t x e) f = absurd (omega arith)
    go (over_e x e z) f = absurd (omega arith)
    go (over_w {o} {o'} {a} {b} x e z) f = (o, a, rw e, rw (x, z))

-- east runs 0, 1, 2, 3, 0 and 4, 5, 6, 7, 4
pub east_runs : map east (0 ∷ 1 ∷ 2 ∷ 3 ∷ 4 ∷ 5 ∷ 6 ∷ 7 ∷ []) ≡ 1 ∷ 2 ∷ 3 ∷ 0 ∷ 5 ∷ 6 ∷ 7 ∷ 4 ∷ []
unfolding east
east_runs = refl

-- west runs the other way round
pub west_runs : map west (1 ∷ 2 ∷ 3 ∷ 0 ∷ 5 ∷ 6 ∷ 7 ∷ 4 ∷ []) ≡ 0 ∷ 1 ∷ 2 ∷ 3 ∷ 4 ∷ 5 ∷ 6 ∷ 7 ∷ []
unfolding west
west_runs = refl

-- across changes 0, 1, 2, 3 with 4, 5, 6, 7
pub across_runs : map across (0 ∷ 1 ∷ 2 ∷ 3 ∷ 4 ∷ 5 ∷ 6 ∷ 7 ∷ []) ≡ 4 ∷ 5 ∷ 6 ∷ 7 ∷ 0 ∷ 1 ∷ 2 ∷ 3 ∷ []
unfolding across
across_runs = refl

-- ---- where a step leads, a cell is

-- each step from a place that occurs leads to one that occurs
pub step_occurs : (k : ℕ) (p : Place) (c : ℕ) (r : Place) → Occurs k p → step k p c ≡ some r → Occurs k r
unfolding across east west span
step_occurs k p c r h e = go (step_move k p c r e) h
  where
    go : {p : Place} {c : ℕ} {r : Place} → Move k p c r → Occurs k p → Occurs k r
    go (stay i g) h = (h.0, g)
    go (over_t x e) h = omega arith
    go (over_e x e z) h = omega arith
    go (over_w x e z) h = omega arith

-- two places that occur and have one number are one place
pub one_place : (k : ℕ) (p q : Place) → Occurs k p → Occurs k q → number k p ≡ number k q → p ≡ q
one_place k p q h g e = sym (place_number k p h) ∙ ap (place k) e ∙ place_number k q g

-- ---- one code for each neighbour

-- the code of a step inside an octant, read off its two triangles
inner_code : Triangle → Triangle → ℕ
inner_code (up a b) (down a' b') = 2 - 2 * (a - a') - (b - b')
inner_code (up a b) (up a' b') = 3 + (b - b')
inner_code (down a b) (up a' b') = 1 + (b' - b) - (a' - a)
inner_code (down a b) (down a' b') = 3 + (b - b')

inner_code_lem : {f : Triangle} {c : ℕ} {f' : Triangle} → Inner f c f' → inner_code f f' ≡ c
unfolding inner_code
inner_code_lem (up_t e) = omega arith
inner_code_lem (up_l e) = omega arith
inner_code_lem up_r = omega arith
inner_code_lem (up_e e) = omega arith
inner_code_lem (up_w e) = omega arith
inner_code_lem (down_t e) = omega arith
inner_code_lem down_l = omega arith
inner_code_lem (down_r e) = omega arith
inner_code_lem (down_e e) = omega arith
inner_code_lem (down_w e) = omega arith

-- the code of a step, read off its two places: where the octants differ, they tell it
between : Place → Place → ℕ
between p r = pick (eqb r.0 p.0)
  where
    pick : Bool → ℕ
    pick true = inner_code p.1 r.1
    pick false = 5 + ((r.0 + 8 - p.0) % 4 + 1) / 2

between_code : (k : ℕ) {p : Place} {c : ℕ} {r : Place} → p.0 < 8 → Move k p c r → between p r ≡ c
unfolding between across east west
between_code k g (stay {o} i h) = simp (eq-eqb o o refl) (inner_code_lem i)
between_code k g (over_t {o} {o'} x e) = simp (ne_eqb o' o (omega arith)) (omega arith)
between_code k g (over_e {o} {o'} x e z) = simp (ne_eqb o' o (omega arith)) (omega arith)
between_code k g (over_w {o} {o'} x e z) = simp (ne_eqb o' o (omega arith)) (omega arith)

-- from a place that occurs two different codes lead to different cells
pub code_unique : (k : ℕ) (p : Place) (c d : ℕ) (r : Place) → Occurs k p → step k p c ≡ some r → step k p d ≡ some r → c ≡ d
code_unique k p c d r h e f = sym (between_code k h.0 (step_move k p c r e)) ∙ between_code k h.0 (step_move k p d r f)

-- ---- the way back

-- each step can be taken back, along the code back
pub step_back : (k : ℕ) (p : Place) (c : ℕ) (r : Place) → Occurs k p → step k p c ≡ some r → step k r (back c) ≡ some p
unfolding back across east west span
step_back k p c r h e = move_step k (go (step_move k p c r e) h)
  where
    inner : {f : Triangle} {c : ℕ} {f' : Triangle} → Inner f c f' → Inner f' (back c) f
    inner (up_t e) = down_t e
    inner (up_l e) = down_r e
    inner up_r = down_l
    inner (up_e e) = up_w e
    inner (up_w e) = up_e e
    inner (down_t e) = up_t e
    inner down_l = up_r
    inner (down_r e) = up_l e
    inner (down_e e) = down_w e
    inner (down_w e) = down_e e

    go : {p : Place} {c : ℕ} {r : Place} → Move k p c r → Occurs k p → Move k r (back c) p
    go (stay i g) h = stay (inner i) h.1
    go (over_t {o} {o'} x e) h = let y : o ≡ across o' = omega arith in over_t y e
    go (over_e {o} {o'} {a} {b} x e z) h = let y : o ≡ west o' = omega arith in let w : b ≡ 2 ^ k - 1 - a = omega arith in over_w y z w
    go (over_w {o} {o'} {a} {b} {b'} x e z) h = let y : o ≡ east o' = omega arith in let w : a + b' + 1 ≡ 2 ^ k = omega arith in over_e y w e

back_direct : (c : ℕ) → direct c ≡ true → direct (back c) ≡ true
unfolding direct back
back_direct = code_cases (λ (c : ℕ). direct c ≡ true → direct (back c) ≡ true)
    (λ e. e)
    (λ e. e)
    (λ e. e)
    (λ e. e)
    (λ e. e)
    (λ e. e)
    (λ e. e)
    (λ e. e)
    (λ c e. e)

-- to be direct neighbours is mutual
pub direct_mutual : (k : ℕ) (p r : Place) → Occurs k p → Direct k p r → Direct k r p
direct_mutual k p r h d = (back d.0, back_direct d.0 d.1, step_back k p d.0 r h d.2)

-- ---- three direct neighbours

-- the step that exists of two leads there
one_first : {s s' : Option Place} {x : Place} (r : Place) → One s s' x → s ≡ some r → r ≡ x
one_first {x = x} r (inl u) e = some-injective r x (sym e ∙ u.0)
one_first r (inr u) e = absent r (sym u.0 ∙ e)

one_second : {s s' : Option Place} {x : Place} (r : Place) → One s s' x → s' ≡ some r → r ≡ x
one_second r (inl u) e = absent r (sym u.1 ∙ e)
one_second {x = x} r (inr u) e = some-injective r x (sym e ∙ u.1)

-- codes of two pairs that have none in common lead to different cells
apart : (k : ℕ) (p : Place) (c c' d d' : ℕ) (x y : Place) → Occurs k p →
    One (step k p c) (step k p c') x → One (step k p d) (step k p d') y → (¬ (c ≡ d)) × (¬ (c ≡ d')) × (¬ (c' ≡ d)) × (¬ (c' ≡ d')) → ¬ (x ≡ y)
apart k p c c' d d' x y h (inl u) (inl v) n e = n.0 (code_unique k p c d x h u.0 (rw e v.0))
apart k p c c' d d' x y h (inl u) (inr v) n e = n.1 (code_unique k p c d' x h u.0 (rw e v.1))
apart k p c c' d d' x y h (inr u) (inl v) n e = n.2 (code_unique k p c' d x h u.1 (rw e v.0))
apart k p c c' d d' x y h (inr u) (inr v) n e = n.3 (code_unique k p c' d' x h u.1 (rw e v.1))

-- one of each pair of direct steps exists
pairs : (k o : ℕ) (f : Triangle) → Occurs k (o, f) →
    ((x : Place) × One (step k (o, f) 0) (step k (o, f) 5) x)
    × ((x : Place) × One (step k (o, f) 1) (step k (o, f) 7) x)
    × ((x : Place) × One (step k (o, f) 2) (step k (o, f) 6) x)
unfolding step steps span
pairs k o (up a b) h = (top a b h.1, left a b h.1, right (leb (a + b + 2) (2 ^ k)) refl)
  where
    top : (a b : ℕ) → a + b + 1 ≤ 2 ^ k → (x : Place) × One (step k (o, up a b) 0) (step k (o, up a b) 5) x
    top zero b g = ((across o, up 0 b), inr (refl, refl))
    top (suc a) b g = ((o, down a b), inl (move_step k (stay (up_t refl) (omega arith)), simp (ne_eqb (suc a) 0 (omega arith))))

    left : (a b : ℕ) → a + b + 1 ≤ 2 ^ k → (x : Place) × One (step k (o, up a b) 1) (step k (o, up a b) 7) x
    left a zero g = ((west o, up a (2 ^ k - 1 - a)), inr (refl, refl))
    left a (suc b) g = ((o, down a b), inl (move_step k (stay (up_l refl) (omega arith)), simp (ne_eqb (suc b) 0 (omega arith))))

    right : (t : Bool) → leb (a + b + 2) (2 ^ k) ≡ t → (x : Place) × One (step k (o, up a b) 2) (step k (o, up a b) 6) x
    right true e =
        let g = leb-true (a + b + 2) (2 ^ k) e in
        ((o, down a b), inl (simp e, simp (ne_eqb (a + b + 1) (2 ^ k) (omega arith))))
    right false e =
        let g = leb-false (a + b + 2) (2 ^ k) e in
        ((east o, up a 0), inr (simp e, simp (eq-eqb (a + b + 1) (2 ^ k) (omega arith))))
pairs k o (down a b) h = (
  ((o, up (suc a) b), inl (move_step k (stay (down_t refl) (omega arith)), refl)),
  ((o, up a b), inl (move_step k (stay down_l (omega arith)), refl)),
  ((o, up a (suc b)), inl (move_step k (stay (down_r refl) (omega arith)), refl)),
)

-- a direct step is one of the six
no_other : (k : ℕ) (p x y z : Place) → One (step k p 0) (step k p 5) x → One (step k p 1) (step k p 7) y → One (step k p 2) (step k p 6) z →
    (r : Place) (c : ℕ) → direct c ≡ true → step k p c ≡ some r → (r ≡ x) ⊎ (r ≡ y) ⊎ (r ≡ z)
unfolding direct
no_other k p x y z t l s r = code_cases (λ (c : ℕ). direct c ≡ true → step k p c ≡ some r → (r ≡ x) ⊎ (r ≡ y) ⊎ (r ≡ z))
    (λ d e. inl (one_first r t e))
    (λ d e. inr (inl (one_first r l e)))
    (λ d e. inr (inr (one_first r s e)))
    (λ d e. clash d refl)
    (λ d e. clash d refl)
    (λ d e. inl (one_second r t e))
    (λ d e. inr (inr (one_second r s e)))
    (λ d e. inr (inl (one_second r l e)))
    (λ c d e. clash d refl)

-- a place that occurs has exactly three direct neighbours
pub three_direct : (k : ℕ) (p : Place) → Occurs k p → Three k p
three_direct k p h =
    let d = pairs k p.0 p.1 h in
    record {
      top = d.0.0;
      left = d.1.0;
      right = d.2.0;
      by_top = d.0.1;
      by_left = d.1.1;
      by_right = d.2.1;
      top_left = apart k p 0 5 1 7 d.0.0 d.1.0 h d.0.1 d.1.1 (omega arith);
      left_right = apart k p 1 7 2 6 d.1.0 d.2.0 h d.1.1 d.2.1 (omega arith);
      right_top = apart k p 2 6 0 5 d.2.0 d.0.0 h d.2.1 d.0.1 (omega arith);
      only = λ r w. no_other k p d.0.0 d.1.0 d.2.0 d.0.1 d.1.1 d.2.1 r w.0 w.1 w.2;
    }

-- ---- the code between two cells

-- where the first true stands, a true stands
first_true_lem : (ts : List Bool) (c : ℕ) → first_true ts ≡ some c → get_or ts c false ≡ true
unfolding first_true
first_true_lem [] c e = absurd (none-ne-some c e)
first_true_lem (true ∷ ts) c e = subst (λ (i : ℕ). get_or (true ∷ ts) i false ≡ true) (some-injective 0 c e) refl
first_true_lem (false ∷ ts) c e = go (first_true ts) refl (first_true_lem ts)
  where
    go : (o : Option ℕ) → first_true ts ≡ o → ((i : ℕ) → first_true ts ≡ some i → get_or ts i false ≡ true) → get_or (false ∷ ts) c false ≡ true
    go none q rest = absurd (none-ne-some c (rw q at e))
    go (some i) q rest = subst (λ (i : ℕ). get_or (false ∷ ts) i false ≡ true) (some-injective (suc i) c (rw q at e)) (rest i q)

-- where the only true stands, the first does
true_first : (ts : List Bool) (c : ℕ) → get_or ts c false ≡ true → ((d : ℕ) → get_or ts d false ≡ true → d ≡ c) → first_true ts ≡ some c
unfolding first_true
true_first [] c e u = absurd (false≢true e)
true_first (true ∷ ts) c e u = ap some (u 0 refl)
true_first (false ∷ ts) zero e u = absurd (false≢true e)
true_first (false ∷ ts) (suc c) e u = rw (true_first ts c e (λ d g. let s = u (suc d) g in omega arith))

-- a step that leads to cell n leads to a place of that number
leads_to_place : (k n : ℕ) (s : Option Place) → leads_to k n s ≡ true → (r : Place) × (s ≡ some r) × (number k r ≡ n)
leads_to_place k n none e = absurd (false≢true e)
leads_to_place k n (some r) e = (r, refl, eqb-true (number k r) n e)

-- one code at most leads from a place that occurs to cell n
one_code : (k n : ℕ) (p : Place) (c d : ℕ) → Occurs k p → leads_to k n (step k p c) ≡ true → leads_to k n (step k p d) ≡ true → c ≡ d
one_code k n p c d h e f =
    let u = leads_to_place k n (step k p c) e in
    let v = leads_to_place k n (step k p d) f in
    let one = one_place k v.0 u.0 (step_occurs k p d v.0 h v.1) (step_occurs k p c u.0 h u.1) (v.2 ∙ sym u.2) in
    code_unique k p c d u.0 h u.1 (v.1 ∙ ap some one)

-- the code to cell n is c exactly where the step along c leads to cell n
pub code_leads : (k n : ℕ) (p : Place) (c : ℕ) → Occurs k p → (code_to k n p ≡ some c) ↔ (leads_to k n (step k p c) ≡ true)
unfolding code_to step
code_leads k n p c h = (
  λ e. sym (at c) ∙ first_true_lem _ c e,
  λ e. true_first _ c (at c ∙ e) (λ d g. one_code k n p d c h (sym (at d) ∙ g) e),
)
  where
    at : (i : ℕ) → get_or (map (leads_to k n) (steps k p.0 p.1)) i false ≡ leads_to k n (step k p i)
    at i = get_or-map (leads_to k n) (steps k p.0 p.1) i none

-- and so exactly where that step leads to the cell's place
pub code_step : (k n : ℕ) (p : Place) (c : ℕ) → Occurs k p → (code_to k n p ≡ some c) ↔ (step k p c ≡ some (place k n))
code_step k n p c h = (to, from)
  where
    to : code_to k n p ≡ some c → step k p c ≡ some (place k n)
    to e =
        let u = leads_to_place k n (step k p c) ((code_leads k n p c h).0 e) in
        let q = place_number k u.0 (step_occurs k p c u.0 h u.1) in
        u.1 ∙ ap some (sym q ∙ ap (place k) u.2)

    from : step k p c ≡ some (place k n) → code_to k n p ≡ some c
    from e = (code_leads k n p c h).1 (rw e (eq-eqb _ _ (number_place k n)))

-- there is no step along a code above 7
pub past_seven : (k : ℕ) (p : Place) (c : ℕ) → 7 < c → step k p c ≡ none
unfolding step steps
past_seven k p c = go p.0 p.1
  where
    go : (o : ℕ) (f : Triangle) → 7 < c → step k (o, f) c ≡ none
    go o (up a b) = get_or-eq_default (steps k o (up a b)) none {n = c}
    go o (down a b) = get_or-eq_default (steps k o (down a b)) none {n = c}

-- there is no code to cell n where none of the eight leads there
pub no_code : (k n : ℕ) (p : Place) → Occurs k p → ((c : ℕ) → c < 8 → leads_to k n (step k p c) ≡ false) → code_to k n p ≡ none
no_code k n p h u = go (code_to k n p) refl
  where
    past : (c : ℕ) → leads_to k n (step k p c) ≡ true → (t : Bool) → leb 8 c ≡ t → ⊥
    past c l true e = false≢true (rw (past_seven k p c (leb-true 8 c e)) at l)
    past c l false e = false≢true (sym (u c (leb-false 8 c e)) ∙ l)

    go : (s : Option ℕ) → code_to k n p ≡ s → s ≡ none
    go none e = refl
    go (some c) e = absurd (past c ((code_leads k n p c h).0 e) (leb 8 c) refl)

-- a direct code is one of the eight
pub direct_low : (c : ℕ) → direct c ≡ true → c < 8
unfolding direct
direct_low = code_cases (λ (c : ℕ). direct c ≡ true → c < 8)
    (λ e. omega arith)
    (λ e. omega arith)
    (λ e. omega arith)
    (λ e. omega arith)
    (λ e. omega arith)
    (λ e. omega arith)
    (λ e. omega arith)
    (λ e. omega arith)
    (λ c e. absurd (false≢true e))
