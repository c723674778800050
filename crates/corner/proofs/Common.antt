-- A point in common, as a test and as an equation. Assumes nothing.
use Prim.Native.Nat.{ℕ, zero, suc, ◌<◌}
use mathlib.Core.Path.{◌≡◌, refl, sym, ◌∙◌}
use mathlib.Core.Bool.{Bool, true, false, ◌||◌}
use mathlib.Core.List.{List, [], ◌∷◌}
use mathlib.Core.Logic.{◌⊎◌, inl, inr}
use native.Mathlib.Omega.{arith}
use borrow.Author.Tests.{eq-eqb, eqb-true}
use lib.Dec.{eqb}
use lib.IntN.{ℤ, pos, negsuc}
use lib.ListN.{length, get_or}
use lib.Seq.{ext_get_or}
use Rattle.std.specs.List.{All, list_any}
use Rattle.std.specs.Ordering.{int_eq}
use Rattle.std.specs.Cmp.Lexicographic.{pointwise}
use Rattle.std.specs.Cmp.Rules.{signed_items}
use Rattle.refusal.proofs.Tests.{same_test, both, parts, left, right, cases}
use Rattle.corner.specs.Corner.{Point, coordinate, same_number, same_point, among, common}
use Rattle.corner.proofs.Signed.{same_refl, same_eq}

-- ---- three of a kind

-- what holds of 0, 1 and 2 holds of each index of three
pub index_cases : (P : ℕ → Type 0) → P 0 → P 1 → P 2 → (i : ℕ) → i < 3 → P i
index_cases P p0 p1 p2 zero h = p0
index_cases P p0 p1 p2 (suc zero) h = p1
index_cases P p0 p1 p2 (suc (suc zero)) h = p2
index_cases P p0 p1 p2 (suc (suc (suc i))) h = absurd (omega arith)

-- one of three tests holds exactly when the test of some index does
any_of : (f : ℕ → Bool) (i : ℕ) → i < 3 → f i ≡ true → (f 0 || f 1 || f 2) ≡ true
any_of f = index_cases (λ (i : ℕ). f i ≡ true → (f 0 || f 1 || f 2) ≡ true)
    (λ e. left (f 0 || f 1) (f 2) (left (f 0) (f 1) e))
    (λ e. left (f 0 || f 1) (f 2) (right (f 0) (f 1) e))
    (λ e. right (f 0 || f 1) (f 2) e)

which_of : (f : ℕ → Bool) → (f 0 || f 1 || f 2) ≡ true → (i : ℕ) × (i < 3) × (f i ≡ true)
which_of f e = go (cases (f 0 || f 1) (f 2) e)
  where
    either : ((f 0 ≡ true) ⊎ (f 1 ≡ true)) → (i : ℕ) × (i < 3) × (f i ≡ true)
    either (inl t) = (0, omega arith, t)
    either (inr t) = (1, omega arith, t)

    go : (((f 0 || f 1) ≡ true) ⊎ (f 2 ≡ true)) → (i : ℕ) × (i < 3) × (f i ≡ true)
    go (inl t) = either (cases (f 0) (f 1) t)
    go (inr t) = (2, omega arith, t)

-- three elements that are equal one by one
pub three : {A : Type 0} {a a' b b' c c' : A} → a ≡ a' → b ≡ b' → c ≡ c' → a ∷ b ∷ c ∷ [] ≡ a' ∷ b' ∷ c' ∷ []
three p q r i = p i ∷ q i ∷ r i ∷ []

-- ---- two points are the same

pub same_point_refl : (x : Point) → same_point x x ≡ true
unfolding same_point
same_point_refl x = both _ _ (both _ _ (same_refl (coordinate x 0)) (same_refl (coordinate x 1))) (same_refl (coordinate x 2))

pub same_coordinates : (x y : Point) → same_point x y ≡ true → (i : ℕ) → i < 3 → coordinate x i ≡ coordinate y i
unfolding same_point
same_coordinates x y e =
    let p = parts _ _ e in
    let q = parts _ _ p.0 in
    index_cases (λ (i : ℕ). coordinate x i ≡ coordinate y i) (same_eq _ _ q.0) (same_eq _ _ q.1) (same_eq _ _ p.1)

-- ---- what is the same one way is the same the other

pub eqb_mutual : (m n : ℕ) → eqb m n ≡ eqb n m
eqb_mutual m n = same_test (eqb m n) (eqb n m) (λ e. eq-eqb n m (sym (eqb-true m n e))) (λ e. eq-eqb m n (sym (eqb-true n m e)))

same_number_mutual : (a b : ℤ) → same_number a b ≡ same_number b a
unfolding same_number
same_number_mutual (pos a) (pos b) = eqb_mutual a b
same_number_mutual (pos a) (negsuc b) = refl
same_number_mutual (negsuc a) (pos b) = refl
same_number_mutual (negsuc a) (negsuc b) = eqb_mutual a b

same_point_mutual : (x y : Point) → same_point x y ≡ same_point y x
unfolding same_point
same_point_mutual x y =
    rw (same 0, same 1, same 2)
  where
    same : (i : ℕ) → same_number (coordinate x i) (coordinate y i) ≡ same_number (coordinate y i) (coordinate x i)
    same i = same_number_mutual (coordinate x i) (coordinate y i)

-- ---- a point among three, and a point of three among three others

pub among_index : (x : Point) (ys : List Point) → among x ys ≡ true → (j : ℕ) × (j < 3) × (same_point x (get_or ys j []) ≡ true)
unfolding among
among_index x ys e = which_of (λ j. same_point x (get_or ys j [])) e

pub index_among : (x : Point) (ys : List Point) (j : ℕ) → j < 3 → same_point x (get_or ys j []) ≡ true → among x ys ≡ true
unfolding among
index_among x ys j h e = any_of (λ j. same_point x (get_or ys j [])) j h e

-- the corners of two cells that are the same point
pub record Meeting (xs ys : List Point) : Type 0 where
  pub i : ℕ
  pub j : ℕ
  pub low : (i < 3) × (j < 3)
  pub meet : same_point (get_or xs i []) (get_or ys j []) ≡ true

pub common_meeting : (xs ys : List Point) → common xs ys ≡ true → Meeting xs ys
unfolding common
common_meeting xs ys e =
    let w = which_of (λ i. among (get_or xs i []) ys) e in
    let a = among_index (get_or xs w.0 []) ys w.2 in
    record { i = w.0; j = a.0; low = (w.1, a.1); meet = a.2 }

pub meeting_common : (xs ys : List Point) → Meeting xs ys → common xs ys ≡ true
unfolding common
meeting_common xs ys m = any_of (λ i. among (get_or xs i []) ys) m.i m.low.0 (index_among (get_or xs m.i []) ys m.j m.low.1 m.meet)

-- a corner of the one that is a corner of the other
pub shared_common : (xs ys : List Point) (i j : ℕ) → i < 3 → j < 3 → get_or xs i [] ≡ get_or ys j [] → common xs ys ≡ true
shared_common xs ys i j hi hj e = meeting_common xs ys (record { i = i; j = j; low = (hi, hj); meet = rw e (same_point_refl (get_or ys j [])) })

-- what the first have in common with the second, the second have in common with the first
turned : (xs ys : List Point) → Meeting xs ys → Meeting ys xs
turned xs ys m = record { i = m.j; j = m.i; low = (m.low.1, m.low.0); meet = same_point_mutual (get_or ys m.j []) (get_or xs m.i []) ∙ m.meet }

pub common_symmetric : (xs ys : List Point) → common xs ys ≡ common ys xs
common_symmetric xs ys =
    same_test (common xs ys) (common ys xs)
    (λ e. meeting_common ys xs (turned xs ys (common_meeting xs ys e)))
    (λ e. meeting_common xs ys (turned ys xs (common_meeting ys xs e)))

-- ---- what the code compares: lists of three numbers, and each of three with each of three others

three_tests : (a b c : Bool) → (a || b || c) ≡ (a || (b || (c || false)))
three_tests true b c = refl
three_tests false true c = refl
three_tests false false true = refl
three_tests false false false = refl

any_of_three : (f : Point → Bool) (xs : List Point) → length xs ≡ 3 → list_any f xs ≡ (f (get_or xs 0 []) || f (get_or xs 1 []) || f (get_or xs 2 []))
any_of_three f [] e = absurd (omega arith)
any_of_three f (x ∷ []) e = absurd (omega arith)
any_of_three f (x ∷ y ∷ []) e = absurd (omega arith)
any_of_three f (x ∷ y ∷ z ∷ []) e = sym (three_tests (f x) (f y) (f z))
any_of_three f (x ∷ y ∷ z ∷ w ∷ ws) e = absurd (omega arith)

-- three numbers are the same as three others
equal_point : (x y : Point) → length x ≡ 3 → length y ≡ 3 → pointwise int_eq x y ≡ same_point x y
equal_point x y hx hy =
    same_test (pointwise int_eq x y) (same_point x y)
    (λ e. rw ((signed_items x y).0 e) (same_point_refl y))
    (λ e. (signed_items x y).1 (ext_get_or (pos 0) x y (hx ∙ sym hy) (λ i h. same_coordinates x y e i (omega arith))))

-- a list of points, three numbers each
abbrev pub Points : List Point → Type 0
Points xs = All (λ x. length x ≡ 3) xs

pub equal_common : (xs ys : List Point) → length xs ≡ 3 → length ys ≡ 3 → Points xs → Points ys →
    list_any (λ x. list_any (λ y. pointwise int_eq y x) ys) xs ≡ common xs ys
unfolding among common
equal_common xs ys ex ey px py =
    let same : (i j : ℕ) → i < 3 → j < 3 → pointwise int_eq (get_or ys j []) (get_or xs i []) ≡ same_point (get_or xs i []) (get_or ys j []) =
    λ i j hi hj.
    equal_point (get_or ys j []) (get_or xs i []) (py j [] (omega arith)) (px i [] (omega arith))
    ∙ same_point_mutual (get_or ys j []) (get_or xs i []) in
    let row : (i : ℕ) → i < 3 → list_any (λ y. pointwise int_eq y (get_or xs i [])) ys ≡ among (get_or xs i []) ys =
    λ i hi. any_of_three (λ y. pointwise int_eq y (get_or xs i [])) ys ey
    ∙ rw (same i 0 hi (omega arith), same i 1 hi (omega arith), same i 2 hi (omega arith)) refl in
    any_of_three (λ x. list_any (λ y. pointwise int_eq y x) ys) xs ex
    ∙ rw (row 0 (omega arith), row 1 (omega arith), row 2 (omega arith)) refl
