-- Reading a border: what its bytes begin with, and the walk along its codes. Assumes nothing.
use Prim.Native.Nat.{ℕ, suc, ◌+◌, ◌/◌, ◌%◌, ◌^◌, ◌≤◌, ◌<◌}
use mathlib.Core.Path.{◌≡◌, sym, ap, ◌∙◌, refl}
use mathlib.Core.Bool.{Bool, false, true, not}
use mathlib.Core.List.{List, [], ◌∷◌, ◌++◌}
use mathlib.Core.Option.{none, some}
use native.Mathlib.Numerals.{add-one}
use native.Mathlib.Omega.{arith}
use borrow.Author.Tests.{lt-ltb, le-ltb, le-leb, lt-leb}
use lib.Dec.{ltb, leb}
use lib.ListN.{length, take, drop, get_or, set, length-set, drop_of_length-le}
use lib.Seq.{take-set-le, get_or-set_same, take_all}
use Rattle.refusal.specs.Answer.{First, Answer, given, refused, in_order, lending, done}
use Rattle.varint.specs.Varint.{read_call}
use Rattle.cell.specs.Cell.{cells, max_level, place}
use Rattle.cell.proofs.Answers.{in-range}
use Rattle.cell.proofs.Laws.{no_cell, a_cell}
use Rattle.refusal.specs.Tests.{bad_level}
use Rattle.refusal.proofs.Answers.{passed, tests_left, first}
use Rattle.code.specs.Step.{step_call, step, missing, bad_step}
use Rattle.border.specs.Stored.{before, onward, walked, unpacked, value_of}
use Rattle.border.specs.Border.{max_codes, Header, level_read, start_read, count_read, header, header_tests, code_tests, cells_read, read_border}
use Rattle.border_reader.specs.inside.Parts.{read_on}
use Rattle.border.proofs.Digits.{length_digits, drop_digits}
use Rattle.border.proofs.Lists.{onto, onto_before, take_one_more}
use Rattle.code.proofs.Calls.{given_step, step_below}
use mathlib.Core.Logic.{inl, inr, ⊎_elim}

-- ---- what the bytes begin with

pub level_unread : (bs : List ℕ) (i : ℕ) → refused i ≡ read_call bs 0 → refused i ≡ in_order (header_tests bs) (header bs)
unfolding level_read start_read count_read
level_unread bs i e = rw (← e)

pub level_high : (bs : List ℕ) (k a i : ℕ) → given (k, a) ≡ read_call bs 0 → refused i ≡ in_order (bad_level max_level k ∷ []) k →
    refused i ≡ in_order (header_tests bs) (header bs)
unfolding level_read start_read count_read
level_high bs k a i e f = go (first (bad_level max_level k ∷ []) k i f)
  where
    go : First i (bad_level max_level k ∷ []) → refused i ≡ in_order (header_tests bs) (header bs)
    go (inl t) = rw (← e, t.0, t.1)
    go (inr t) = absurd t.1

-- the level is k, and the start cell's number begins at a
pub record Leveled (bs : List ℕ) (k a : ℕ) : Type 0 where
  pub says : given (k, a) ≡ read_call bs 0
  pub low : ltb max_level k ≡ false

pub leveled : (bs : List ℕ) (k l a : ℕ) → given (k, a) ≡ read_call bs 0 → given l ≡ in_order (bad_level max_level k ∷ []) k → Leveled bs l a
leveled bs k l a e f =
    let p = passed (bad_level max_level k ∷ []) k l f in
    record { says = rw p.1 at e; low = rw p.1 at p.0.0 }

pub start_unread : (bs : List ℕ) (k a i : ℕ) → Leveled bs k a → refused i ≡ read_call bs a → refused i ≡ in_order (header_tests bs) (header bs)
unfolding level_read start_read count_read
start_unread bs k a i v f = rw (← v.says, v.low, ← f)

pub start_high : (bs : List ℕ) (k a s b : ℕ) (t : Bool) → Leveled bs k a → given (s, b) ≡ read_call bs a → t ≡ ltb s (cells k) → not t ≡ true →
    refused 4 ≡ in_order (header_tests bs) (header bs)
unfolding level_read start_read count_read
start_high bs k a s b t v f q h = rw (← v.says, v.low, ← f, le-leb (cells k) s (no_cell t k s q h))

-- the start cell is s too, and the number of codes begins at b
pub record Started (bs : List ℕ) (k s b : ℕ) : Type 0 where
  pub start : ℕ
  pub level : Leveled bs k start
  pub says : given (s, b) ≡ read_call bs start
  pub below : leb (cells k) s ≡ false

pub started : (bs : List ℕ) (k a s b : ℕ) (t : Bool) → Leveled bs k a → given (s, b) ≡ read_call bs a → t ≡ ltb s (cells k) → not t ≡ false → Started bs k s b
started bs k a s b t v f q h = record { start = a; level = v; says = f; below = lt-leb (cells k) s (a_cell t k s q h) }

pub count_unread : (bs : List ℕ) (k s b i : ℕ) → Started bs k s b → refused i ≡ read_call bs b → refused i ≡ in_order (header_tests bs) (header bs)
unfolding level_read start_read count_read
count_unread bs k s b i v f = rw (← v.level.says, v.level.low, ← v.says, v.below, ← f)

pub count_high : (bs : List ℕ) (k s b n at : ℕ) → Started bs k s b → given (n, at) ≡ read_call bs b → max_codes < n → refused 9 ≡ in_order (header_tests bs) (header bs)
unfolding level_read start_read count_read
count_high bs k s b n at v f h = rw (← v.level.says, v.level.low, ← v.says, v.below, ← f, lt-ltb max_codes n h)

pub header_read : (bs : List ℕ) (k s b n at : ℕ) → Started bs k s b → given (n, at) ≡ read_call bs b → n ≤ max_codes →
    given (k, s, n, at) ≡ in_order (header_tests bs) (header bs)
unfolding level_read start_read count_read
header_read bs k s b n at v f h = rw (← v.level.says, v.level.low, ← v.says, v.below, ← f, le-ltb max_codes n h)

-- ---- the walk

walked_more : (k n c m : ℕ) (codes : List ℕ) → step_call k n c ≡ given m → walked k n (c ∷ codes) ≡ before n (walked k m codes)
unfolding walked
walked_more k n c m codes e = ap (λ (a : Answer ℕ). onward a (λ m. before n (walked k m codes))) e

walked_stops : (k n c i : ℕ) (codes : List ℕ) → step_call k n c ≡ refused i → walked k n (c ∷ codes) ≡ none
unfolding walked
walked_stops k n c i codes e = ap (λ (a : Answer ℕ). onward a (λ m. before n (walked k m codes))) e

-- the only step that is refused from a cell of the level is one that is missing
refused_7 : (k n c i : ℕ) → k ≤ max_level → n < cells k → refused i ≡ step_call k n c → i ≡ 7
refused_7 k n c i h l e =
    let s = step k (place k n) c in
    let f = first (bad_step s ∷ []) _ i (e ∙ sym (given_step k n c (place k n) s (in-range k n (place k n) h l refl) refl)) in
    ⊎_elim (λ (t : (missing s ≡ true) × (i ≡ 7)). t.1) (λ (t : (missing s ≡ false) × ⊥). absurd t.1) f

-- of n codes that bytes hold i are walked, and the i + 1 cells met are kept
pub record Walked (k start n : ℕ) (bs met : List ℕ) (i : ℕ) : Type 0 where
  pub long : length met ≡ n + 1
  pub below : get_or met i 0 < cells k
  pub whole : walked k start (unpacked n bs) ≡ onto (take i met) (walked k (get_or met i 0) (drop i (unpacked n bs)))

module _ (k start n : ℕ) (bs met : List ℕ) (i c : ℕ) (w : Walked k start n bs met i) (h : i < n) (q : c ≡ value_of 256 bs / 8 ^ i % 8) where
  abbrev cell : ℕ
  cell = get_or met i 0

  abbrev left : List ℕ
  left = drop (suc i) (unpacked n bs)

  next : drop i (unpacked n bs) ≡ c ∷ left
  next = drop_digits 8 n (value_of 256 bs) i h ∙ ap (λ (d : ℕ). d ∷ left) (sym q)

  pub walk_goes_on : (m : ℕ) → given m ≡ step_call k cell c → Walked k start n bs (set met (i + 1) m) (i + 1)
  walk_goes_on m e =
      let at = get_or-set_same met (i + 1) m 0 (omega (arith, w.long)) in
      record {
        long = length-set met (i + 1) m ∙ w.long;
        below = rw at (step_below k cell c m (sym e));
        whole =
            w.whole
            ∙ ap (onto (take i met)) (ap (walked k cell) next ∙ walked_more k cell c m left (sym e))
            ∙ onto_before (take i met) cell (walked k m left)
            ∙ ap (λ (l : List ℕ). onto l (walked k m left))
            (sym (take_one_more met i (omega (arith, w.long))) ∙ sym (take-set-le (i + 1) met (i + 1) m (omega arith)))
            ∙ rw (at, add-one i);
      }

  -- a step that is refused is missing
  pub walk_stops : (j : ℕ) → k ≤ max_level → refused j ≡ step_call k cell c → refused j ≡ in_order (bad_step (walked k start (unpacked n bs)) ∷ []) done
  walk_stops j l e =
      let none_left = w.whole ∙ ap (onto (take i met)) (ap (walked k cell) next ∙ walked_stops k cell c j left (sym e)) in
      rw (none_left, refused_7 k cell c j l w.below e)

pub walk_ends : (k start n : ℕ) (bs met : List ℕ) (i : ℕ) → Walked k start n bs met i → i ≡ n → walked k start (unpacked n bs) ≡ some met
unfolding walked
walk_ends k start n bs met i w h =
    let all : length (unpacked n bs) ≤ i = rw (length_digits 8 n (value_of 256 bs)) (omega arith) in
    w.whole ∙ ap (λ (cs : List ℕ). onto (take i met) (walked k (get_or met i 0) cs)) (drop_of_length-le (unpacked n bs) all)
    ∙ ap some (sym (take_one_more met i (omega (arith, w.long))) ∙ take_all (i + 1) met (omega (arith, w.long)))

-- ---- the call

pub header_given : (bs out : List ℕ) (hd : Header) (p : Answer (ℕ × ℕ) × List ℕ) →
    given hd ≡ in_order (header_tests bs) (header bs) → p ≡ read_on bs out hd → p ≡ read_border bs out
header_given bs out hd p e q =
    let cs = cells_read bs in
    let v : ℕ × ℕ = ((header bs).0, length cs) in
    q
    ∙ ap (read_on bs out) (sym (passed (header_tests bs) (header bs) hd e).1)
    ∙ ap (λ (a : Answer (ℕ × ℕ)). lending a out (cs ++ drop (length cs) out))
    (tests_left (header_tests bs) (code_tests bs (length out) (header bs)) (header bs) hd v e)
