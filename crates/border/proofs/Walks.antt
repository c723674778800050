-- Walking along codes, and finding the codes between cells: each undoes the other. Assumes nothing.
use Prim.Native.Nat.{ℕ, zero, suc, ◌+◌, ◌<◌}
use mathlib.Core.Bool.{Bool, true, false}
use mathlib.Core.List.{List, [], ◌∷◌}
use mathlib.Core.Logic.{◌↔◌}
use mathlib.Core.Option.{Option, none, some, none-ne-some}
use mathlib.Core.Path.{◌≡◌, refl, sym, ap, ◌∙◌}
use native.Mathlib.Omega.{arith}
use borrow.Author.Tests.{lt-leb, leb-true, leb-false}
use lib.Dec.{leb}
use lib.ListN.{length, get_or}
use Rattle.refusal.specs.Answer.{Answer, given, refused}
use Rattle.refusal.proofs.Answers.{given≢refused}
use Rattle.cell.specs.Cell.{cells}
use Rattle.code.specs.Step.{step_call, code_call}
use Rattle.code.proofs.Calls.{stepped, code_past, step_below, calls_agree}
use Rattle.border.specs.Stored.{before, onward, walked, codes_between}
use Rattle.border.specs.Border.{any_from}

-- ---- where a list is found

-- a call gave, and what goes on from there is found
goes_on : (a : Answer ℕ) (rest : ℕ → Option (List ℕ)) (xs : List ℕ) → onward a rest ≡ some xs → (m : ℕ) × (a ≡ given m) × (rest m ≡ some xs)
goes_on (given m) rest xs e = (m, refl, e)
goes_on (refused i) rest xs e = absurd (none-ne-some xs e)

-- and it goes on with n
goes_with : (n : ℕ) (o : Option (List ℕ)) (xs : List ℕ) → before n o ≡ some xs → (ys : List ℕ) × (o ≡ some ys) × (xs ≡ n ∷ ys)
goes_with n none xs e = absurd (none-ne-some xs e)
goes_with n (some ys) xs e = (ys, refl, cc)

-- a step of a walk: the next cell, and the cells from there on
record Stepping (k n c : ℕ) (codes cs : List ℕ) : Type 0 where
  next : ℕ
  rest : List ℕ
  step : step_call k n c ≡ given next
  walk : walked k next codes ≡ some rest
  all : cs ≡ n ∷ rest

stepping : (k n c : ℕ) (codes cs : List ℕ) → walked k n (c ∷ codes) ≡ some cs → Stepping k n c codes cs
unfolding walked
stepping k n c codes cs e =
    let g = goes_on (step_call k n c) (λ m. before n (walked k m codes)) cs e in
    let w = goes_with n (walked k g.0 codes) cs g.2 in
    record { next = g.0; rest = w.0; step = g.1; walk = w.1; all = w.2 }

-- a code found: the code, and those from the next cell on
record Joining (k m n : ℕ) (ns codes : List ℕ) : Type 0 where
  code : ℕ
  rest : List ℕ
  join : code_call k m n ≡ given code
  found : codes_between k n ns ≡ some rest
  all : codes ≡ code ∷ rest

joining : (k m n : ℕ) (ns codes : List ℕ) → codes_between k m (n ∷ ns) ≡ some codes → Joining k m n ns codes
unfolding codes_between
joining k m n ns codes e =
    let g = goes_on (code_call k m n) (λ c. before c (codes_between k n ns)) codes e in
    let w = goes_with g.0 (codes_between k n ns) codes g.2 in
    record { code = g.0; rest = w.0; join = g.1; found = w.1; all = w.2 }

-- ---- the cells of a walk

-- the first is the start
pub walked_first : (k n : ℕ) (codes cs : List ℕ) → walked k n codes ≡ some cs → (ns : List ℕ) × (cs ≡ n ∷ ns)
unfolding walked
walked_first k n [] cs e = ([], cc)
walked_first k n (c ∷ codes) cs e = let s = stepping k n c codes cs e in (s.rest, s.all)

-- there is one more than codes
pub walked_length : (k n : ℕ) (codes cs : List ℕ) → walked k n codes ≡ some cs → length cs ≡ length codes + 1
unfolding walked
walked_length k n [] cs e = let s : cs ≡ n ∷ [] = cc in ap length s
walked_length k n (c ∷ codes) cs e =
    let s = stepping k n c codes cs e in
    omega (arith, ap length s.all, walked_length k s.next codes s.rest s.walk)

-- each is a cell of the level where the start is
pub walked_cells : (k n : ℕ) (codes cs : List ℕ) → n < cells k → walked k n codes ≡ some cs → any_from (cells k) cs ≡ false
unfolding walked any_from
walked_cells k n [] cs h e = let s : cs ≡ n ∷ [] = cc in rw (s, lt-leb (cells k) n h)
walked_cells k n (c ∷ codes) cs h e =
    let s = stepping k n c codes cs e in
    rw (s.all, lt-leb (cells k) n h) (walked_cells k s.next codes s.rest (step_below k n c s.next s.step) s.walk)

-- ---- the codes of the cells

-- codes lead through cells exactly where they are the codes between them
walk_codes : (k m : ℕ) (codes ns : List ℕ) → walked k m codes ≡ some (m ∷ ns) → codes_between k m ns ≡ some codes
unfolding walked codes_between
walk_codes k m [] ns e = let s : ns ≡ [] = cc in rw s
walk_codes k m (c ∷ codes) ns e =
    let s = stepping k m c codes (m ∷ ns) e in
    let f = walked_first k s.next codes s.rest s.walk in
    let t : ns ≡ s.next ∷ f.0 = cc (s.all, f.1) in
    let r = walk_codes k s.next codes f.0 (s.walk ∙ ap some f.1) in
    rw (t, (calls_agree k m s.next c).1 s.step, r)

codes_walk : (k m : ℕ) (codes ns : List ℕ) → codes_between k m ns ≡ some codes → walked k m codes ≡ some (m ∷ ns)
unfolding walked codes_between
codes_walk k m codes [] e = let s : codes ≡ [] = cc in rw s
codes_walk k m codes (n ∷ ns) e =
    let j = joining k m n ns codes e in
    rw (j.all, (calls_agree k m n j.code).0 j.join, codes_walk k n j.rest ns j.found)

pub walks_agree : (k m : ℕ) (codes ns : List ℕ) → (walked k m codes ≡ some (m ∷ ns)) ↔ (codes_between k m ns ≡ some codes)
walks_agree k m codes ns = (walk_codes k m codes ns, codes_walk k m codes ns)

-- a code between two cells is one of the eight
code_below : (k m n c : ℕ) → code_call k m n ≡ given c → c < 8
code_below k m n c e = go (leb 8 c) refl
  where
    go : (t : Bool) → leb 8 c ≡ t → c < 8
    go true h =
        let q = (calls_agree k m n c).0 e in
        let f = (stepped k m c n q).from in
        given≢refused (sym q ∙ code_past k m c f.level f.below (leb-true 8 c h))
    go false h = leb-false 8 c h

pub codes_below : (k m : ℕ) (ns codes : List ℕ) → codes_between k m ns ≡ some codes → (i : ℕ) → get_or codes i 0 < 8
unfolding codes_between
codes_below k m [] codes e i = let s : codes ≡ [] = cc in rw s (omega arith)
codes_below k m (n ∷ ns) codes e zero = let j = joining k m n ns codes e in rw j.all (code_below k m n j.code j.join)
codes_below k m (n ∷ ns) codes e (suc i) = let j = joining k m n ns codes e in rw j.all (codes_below k n ns j.rest j.found i)

-- each of them leads from a cell to the next
pub codes_lead : (k m : ℕ) (ns codes : List ℕ) → codes_between k m ns ≡ some codes → (i : ℕ) → i < length codes →
    step_call k (get_or (m ∷ ns) i 0) (get_or codes i 0) ≡ given (get_or (m ∷ ns) (suc i) 0)
unfolding codes_between
codes_lead k m [] codes e i h = let s : codes ≡ [] = cc in absurd (omega (arith, ap length s))
codes_lead k m (n ∷ ns) codes e zero h = let j = joining k m n ns codes e in rw j.all ((calls_agree k m n j.code).0 j.join)
codes_lead k m (n ∷ ns) codes e (suc i) h =
    let j = joining k m n ns codes e in
    rw j.all (codes_lead k n ns j.rest j.found i (omega (arith, ap length j.all)))
