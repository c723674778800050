-- Of the cells that touch a cell three are its direct neighbours. So an octant's corner cell has seven indirect neighbours, at level 0 three (source 000's
-- count, docs/RULES.md, 5). Assumes nothing.
use Prim.Native.Nat.{ℕ, zero, suc, ◌+◌, ◌≤◌, ◌<◌}
use mathlib.Core.Path.{◌≡◌, refl, sym, ap, subst, ◌∙◌}
use mathlib.Core.Bool.{Bool, true, false, ◌&&◌, not, cond}
use mathlib.Core.List.{◌∷◌}
use mathlib.Core.Logic.{inl, inr}
use mathlib.Core.Option.{Option, none, some, some-injective, none-ne-some}
use native.Mathlib.Omega.{arith}
use lib.ListN.{length}
use Rattle.refusal.proofs.Tests.{clash}
use Rattle.cell.specs.Cell.{Place, place, number, cells}
use Rattle.cell.proofs.Laws.{place_occurs, number_below, place_number, number_place}
use Rattle.code.specs.Step.{step, code_to}
use Rattle.code.specs.Neighbours.{direct, direct_code, is_direct}
use Rattle.code.proofs.Laws.{One}
use Rattle.code.proofs.Laws.{three_direct, step_occurs, code_unique, code_step, direct_low}
use Rattle.corner.specs.Corner.{touches}
use Rattle.adjacency.specs.Touch.{rising, touching, indirect, CornerCell}
use Rattle.adjacency.proofs.Counts.{passes}
use Rattle.adjacency.proofs.Collect.{is_found, rising_count}
use Rattle.adjacency.proofs.Direct.{code_touches}
use Rattle.adjacency.proofs.Laws.{touching_6, touching_10, touching_12}

-- ---- a list parted by a test

-- what passes P and not Q, and what passes Q, are together what passes P, where Q passes only what P does
rising-parts :
    (P Q : ℕ → Bool)
    → (j m : ℕ)
    → ((i : ℕ) → i < m + j → Q i ≡ true → P i ≡ true)
    → length (rising (λ i. P i && not (Q i)) j m) + length (rising Q j m) ≡ length (rising P j m)
unfolding rising
rising-parts P Q zero m h = refl
rising-parts P Q (suc j) m h = go (P m) (Q m) (h m (omega arith)) (rising-parts P Q j (suc m) (λ i l. h i (omega arith)))
  where
    go :
        (p q : Bool)
        → (q ≡ true → p ≡ true)
        → length (rising (λ i. P i && not (Q i)) j (suc m)) + length (rising Q j (suc m)) ≡ length (rising P j (suc m))
        → length (cond (p && not q) (m ∷ rising (λ i. P i && not (Q i)) j (suc m)) (rising (λ i. P i && not (Q i)) j (suc m)))
        + length (cond q (m ∷ rising Q j (suc m)) (rising Q j (suc m)))
        ≡ length (cond p (m ∷ rising P j (suc m)) (rising P j (suc m)))
    go true true f e = omega arith
    go true false f e = omega arith
    go false true f e = clash (f refl) refl
    go false false f e = e

-- ---- the direct neighbours of a cell

-- the number of a place, where there is one
number_of : ℕ → Option Place → Option ℕ
number_of k none = none
number_of k (some p) = some (number k p)

module _ (k n : ℕ) (hn : n < cells k) where
  -- the direct neighbour along a code
  along : ℕ → Option ℕ
  along c = cond (direct c) (number_of k (step k (place k n) c)) none

  record LeadsTo (c m : ℕ) : Type 0 where
    code : direct c ≡ true
    to : step k (place k n) c ≡ some (place k m)
    below : m < cells k

  along_is : (c m : ℕ) → along c ≡ some m → LeadsTo c m
  unfolding along number_of
  along_is c m e = go (direct c) refl (step k (place k n) c) refl e
    where
      go : (b : Bool) → direct c ≡ b → (s : Option Place) → step k (place k n) c ≡ s → cond b (number_of k s) none ≡ some m → LeadsTo c m
      go false d s f e = absurd (none-ne-some m e)
      go true d none f e = absurd (none-ne-some m e)
      go true d (some r) f e =
          let o = step_occurs k (place k n) c r (place_occurs k n hn) f in
          let i : number k r ≡ m = some-injective _ m e in
          record {
            code = d;
            to = f ∙ ap some (sym (place_number k r o) ∙ ap (place k) i);
            below = subst (λ (j : ℕ). j < cells k) i (number_below k r o);
          }

  is_along : (c m : ℕ) → direct c ≡ true → step k (place k n) c ≡ some (place k m) → along c ≡ some m
  unfolding along number_of
  is_along c m d e = rw (d, e) (ap some (number_place k m))

  once : (c d m : ℕ) → c < 8 → d < 8 → along c ≡ some m → along d ≡ some m → c ≡ d
  once c d m hc hd e f = code_unique k (place k n) c d (place k m) (place_occurs k n hn) (along_is c m e).to (along_is d m f).to

  only : (c m : ℕ) → c < 8 → along c ≡ some m → (m < cells k) × (is_direct k n m ≡ true)
  unfolding is_direct direct_code
  only c m h e =
      let a = along_is c m e in
      (a.below, rw ((code_step k m (place k n) c (place_occurs k n hn)).1 a.to) a.code)

  every : (m : ℕ) → m < cells k → is_direct k n m ≡ true → (c : ℕ) × (c < 8) × (along c ≡ some m)
  unfolding is_direct direct_code
  every m h e = go (code_to k m (place k n)) refl e
    where
      go : (s : Option ℕ) → code_to k m (place k n) ≡ s → direct_code s ≡ true → (c : ℕ) × (c < 8) × (along c ≡ some m)
      go none f e = clash e refl
      go (some c) f e = (c, direct_low c e, is_along c m e ((code_step k m (place k n) c (place_occurs k n hn)).0 f))

  -- of two codes of which one step exists, one finds a neighbour
  one_found : (s s' : Option Place) (x : Place) → One s s' x → cond (is_found (number_of k s)) 1 0 + cond (is_found (number_of k s')) 1 0 ≡ 1
  unfolding is_found number_of
  one_found s s' x (inl e) = rw (e.0, e.1)
  one_found s s' x (inr e) = rw (e.0, e.1)

  three_found : passes (λ c. is_found (along c)) 8 ≡ 3
  unfolding passes along direct is_found
  three_found =
      let t = three_direct k (place k n) (place_occurs k n hn) in
      let a = one_found _ _ t.top t.by_top in
      let b = one_found _ _ t.left t.by_left in
      let c = one_found _ _ t.right t.by_right in
      omega (arith, a, b, c)

  -- they are three
  pub direct_3 : length (rising (is_direct k n) (cells k) 0) ≡ 3
  direct_3 = rising_count along 8 once (is_direct k n) (cells k) only every ∙ three_found

  -- and all of them touch
  touches_direct : (m : ℕ) → m < cells k → is_direct k n m ≡ true → touches k n m ≡ true
  touches_direct m h e =
      let w = every m h e in
      let a = along_is w.0 m w.2 in
      code_touches k n m w.0 hn ((code_step k m (place k n) w.0 (place_occurs k n hn)).1 a.to) a.code

  pub indirect_count : length (indirect k n) + 3 ≡ length (touching k n)
  unfolding indirect touching
  indirect_count = sym (ap (λ (j : ℕ). length (rising (λ m. touches k n m && not (is_direct k n m)) (cells k) 0) + j) direct_3)
      ∙ rising-parts (touches k n) (is_direct k n) (cells k) 0 (λ m h. touches_direct m (omega arith))

-- an octant's corner cell has seven indirect neighbours
pub indirect_7 : (k n : ℕ) → 1 ≤ k → n < cells k → CornerCell k (place k n) → length (indirect k n) ≡ 7
indirect_7 k n one h q = omega (arith, indirect_count k n h, touching_10 k n one h q)

-- at level 0 each cell has three
pub indirect_3 : (n : ℕ) → n < cells 0 → length (indirect 0 n) ≡ 3
indirect_3 n h = omega (arith, indirect_count 0 n h, touching_6 n h)

-- every other cell has nine
pub indirect_9 : (k n : ℕ) → n < cells k → (CornerCell k (place k n) → ⊥) → length (indirect k n) ≡ 9
indirect_9 k n h q = omega (arith, indirect_count k n h, touching_12 k n h q)
