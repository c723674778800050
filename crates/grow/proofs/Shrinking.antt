-- Shrinking is growing of the complement, complemented. Assumes nothing.
use Prim.Native.Nat.{ℕ, ◌*◌, ◌^◌, ◌<◌}
use mathlib.Core.Path.{◌≡◌, sym, ap, ◌∙◌}
use mathlib.Core.Bool.{not}
use mathlib.Core.List.{List}
use native.Mathlib.Omega.{arith}
use lib.ListN.{length}
use Rattle.bitset.specs.Bits.{Bytes, marked, bytes_of}
use Rattle.bitset.proofs.Laws.{settled, marked_bytes_of}
use Rattle.corner.specs.Corner.{touches}
use Rattle.cell.specs.Cell.{cells}
use Rattle.grow.specs.Grow.{grown_cells, shrunk_cells}
use Rattle.walk.proofs.Reach.{grown_cong, shrunk_grown}

pub shrunk_bytes : (k m : ℕ) (a turned spread out : List ℕ) →
    length a ≡ 4 ^ k → length spread ≡ 4 ^ k → length out ≡ 4 ^ k → Bytes out →
    ((c : ℕ) → c < 8 * length a → marked turned c ≡ not (marked a c)) →
    spread ≡ bytes_of (4 ^ k) (grown_cells k m (marked turned)) →
    ((c : ℕ) → c < 8 * length spread → marked out c ≡ not (marked spread c)) →
    out ≡ bytes_of (4 ^ k) (shrunk_cells k m (marked a))
shrunk_bytes k m a turned spread out la ls lo b t s u = settled (4 ^ k) out (shrunk_cells k m (marked a)) lo b (λ c h.
    let grows = grown_cong (cells k) (touches k) m (marked turned) (λ d. not (marked a d)) (λ d l. t d (omega arith)) c in
    u c (omega arith)
    ∙ ap not (ap (λ (l : List ℕ). marked l c) s ∙ marked_bytes_of (4 ^ k) (grown_cells k m (marked turned)) c h ∙ grows)
    ∙ sym (shrunk_grown (cells k) (touches k) m (marked a) c))
