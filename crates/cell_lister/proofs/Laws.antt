-- The lines of a border, piece after piece, and that no more of the input is wanted than is read. Assumes nothing.
use Prim.Native.Nat.{ℕ, ◌+◌, ◌*◌, ◌≤◌, ◌<◌}
use mathlib.Core.Path.{◌≡◌, sym, ap, subst, ◌∙◌}
use mathlib.Core.List.{List, [], ◌∷◌, ◌++◌, append-nil, append_assoc}
use native.Mathlib.Numerals.{add-one}
use native.Mathlib.Omega.{arith}
use lib.ListN.{length, take, get_or, replicate, length-append}
use lib.Seq.{take-suc, length-take-le}
use Rattle.border.proofs.Laws as border
use Rattle.text.specs.Text.{decimal, appended}
use Rattle.text.proofs.Laws.{Written, written_none, written_more, spelled_short}
use Rattle.cell_lister.specs.CellLister.{lines, level_word, level_line, listed, output, front_bytes}

-- ---- lines

lines_more : (ns : List ℕ) (n : ℕ) → lines (ns ++ (n ∷ [])) ≡ lines ns ++ decimal n ++ (10 ∷ [])
unfolding lines
lines_more [] n = append-nil (decimal n ++ (10 ∷ []))
lines_more (m ∷ ns) n = ap (λ (l : List ℕ). decimal m ++ (10 ∷ []) ++ l) (lines_more ns n) ∙ simp append_assoc

next_line : (cells : List ℕ) (i : ℕ) → i < length cells → lines (take (i + 1) cells) ≡ lines (take i cells) ++ decimal (get_or cells i 0) ++ (10 ∷ [])
next_line cells i h = rw (add-one, take-suc cells i 0) (lines_more (take i cells) (get_or cells i 0))

-- a number has at most 20 digits
lines_short : (ns : List ℕ) → length (lines ns) ≤ 21 * length ns
unfolding lines
lines_short [] = omega arith
lines_short (n ∷ ns) = simp length-append (omega (arith, spelled_short 20 n, lines_short ns))

pub level_short : (k : ℕ) → length (level_line k) ≤ 27
level_short k = simp length-append (omega (arith, spelled_short 20 k))

-- ---- text put piece after piece

-- the front of a slice of length n is a text and the lines of the first i cells
abbrev pub Put : ℕ → List ℕ → List ℕ → ℕ → List ℕ → ℕ → Type 0
Put n front cells i out at = Written n out at (front ++ lines (take i cells))

pub level_put : (n k : ℕ) (cells o o₁ o₂ o₃ : List ℕ) (a₁ a₂ a₃ : ℕ) → 86064 ≤ n → length o ≡ n →
    (o₁, a₁) ≡ appended o 0 level_word → (o₂, a₂) ≡ appended o₁ a₁ (decimal k) → (o₃, a₃) ≡ appended o₂ a₂ (10 ∷ []) →
    Put n (level_line k) cells 0 o₃ a₃
unfolding lines
level_put n k cells o o₁ o₂ o₃ a₁ a₂ a₃ room long e₁ e₂ e₃ =
    let lk = spelled_short 20 k in
    let w₁ = written_more n o o₁ [] level_word 0 a₁ (omega arith) (written_none n o long) e₁ in
    let w₂ = written_more n o₁ o₂ level_word (decimal k) a₁ a₂ (omega arith) w₁ e₂ in
    let w₃ = written_more n o₂ o₃ (level_word ++ decimal k) (10 ∷ []) a₂ a₃ (simp length-append (omega arith)) w₂ e₃ in
    subst (Written n o₃ a₃) (sym (append-nil (level_line k))) w₃

pub cell_put : (n : ℕ) (front cells : List ℕ) (i : ℕ) (o o₁ o₂ : List ℕ) (a a₁ a₂ : ℕ) →
    86064 ≤ n → length front ≤ 27 → i < length cells → i < 4097 → Put n front cells i o a →
    (o₁, a₁) ≡ appended o a (decimal (get_or cells i 0)) → (o₂, a₂) ≡ appended o₁ a₁ (10 ∷ []) → Put n front cells (i + 1) o₂ a₂
cell_put n front cells i o o₁ o₂ a a₁ a₂ room short h m w e₁ e₂ =
    let cell = decimal (get_or cells i 0) in
    let before = front ++ lines (take i cells) in
    let lb : length before ≤ 27 + 21 * i =
    omega (arith, length-append front (lines (take i cells)), lines_short (take i cells), length-take-le i cells (omega arith)) in
    let lc = spelled_short 20 (get_or cells i 0) in
    let w₁ = written_more n o o₁ before cell a a₁ (omega arith) w e₁ in
    let w₂ = written_more n o₁ o₂ (before ++ cell) (10 ∷ []) a₁ a₂ (omega (arith, length-append before cell)) w₁ e₂ in
    let s : (before ++ cell) ++ (10 ∷ []) ≡ front ++ lines (take (i + 1) cells) = rw (next_line cells i h) (simp append_assoc) in
    subst (Written n o₂ a₂) s w₂

-- ---- the input

-- the first bytes are listed as all are
pub front_decides : (input : List ℕ) → output (take front_bytes input) ≡ output input
front_decides input = ap listed (border.front_decides input (replicate 4097 0))
