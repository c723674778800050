-- What the answer to a mask's tests says, and rows that were cleared before. Assumes nothing.
use Prim.Native.Nat.{ℕ, ◌^◌, ◌≤◌}
use mathlib.Core.Path.{◌≡◌, refl, sym, ap, ◌∙◌}
use mathlib.Core.Bool.{Bool, true, false, ◌||◌}
use mathlib.Core.List.{List}
use borrow.Author.Tests.{le-leb, eq-eqb, leb-true, eqb-true, le-ltb}
use lib.ListN.{length, replicate}
use Rattle.std.specs.Prelude.{Result, Ok, Err}
use Rattle.std.specs.Result.{is_ok}
use Rattle.refusal.specs.Answer.{done}
use Rattle.refusal.specs.Refusal.{said_done}
use Rattle.refusal.specs.declared.Refusal.{Refusal}
use Rattle.refusal.proofs.Answers.{gives, given≢refused}
use Rattle.refusal.proofs.Tests.{both, parts, length_passes}
use Rattle.cell.specs.Cell.{Triangle}
use Rattle.mask.specs.Mask.{max_mask_level, mask_tests, mask_call}
use Rattle.mask.proofs.Answers.{is_mask_lem}
use Rattle.rows.specs.Rows.{lit}
use Rattle.rows.proofs.Words.{lit_zeros}
use Rattle.raster.specs.Raster.{is_mask, cell_at}
use Rattle.raster.specs.inside.Pieces.{Added}

-- the tests are passed exactly by a mask of the level
pub ok_is : (k : ℕ) (a : List ℕ) (r : Result (Unit {0}) Refusal) → said_done r ≡ mask_call k a → is_ok r ≡ is_mask k a
unfolding is_mask
ok_is k a (Ok t) e = let m = is_mask_lem k a e in sym (both _ _ (le-leb k max_mask_level m.level) (eq-eqb (length a) (4 ^ k) m.long))
ok_is k a (Err n) e = go (is_mask k a) refl
  where
    go : (b : Bool) → is_mask k a ≡ b → false ≡ b
    go true p =
        let q = parts _ _ p in
        let t = gives (mask_tests k a) done (le-ltb max_mask_level k (leb-true k max_mask_level q.0), (length_passes (4 ^ k) a (eqb-true (length a) (4 ^ k) q.1), tt)) in
        given≢refused (t ∙ sym e)
    go false p = refl

-- and so level and length are those of one
pub mask_is : (k : ℕ) (a : List ℕ) → is_mask k a ≡ true → (k ≤ max_mask_level) × (length a ≡ 4 ^ k)
unfolding is_mask
mask_is k a e = let p = parts _ _ e in (leb-true k max_mask_level p.0, eqb-true (length a) (4 ^ k) p.1)

-- what is added to cleared rows is all that they hold
pub all_added : (kind : ℕ → ℕ → Triangle) (k n : ℕ) (A : ℕ → Bool) (r : List ℕ) → Added kind k A (replicate n 0) r → (i : ℕ) → lit r i ≡ cell_at kind k A i
all_added kind k n A r f i = f i ∙ ap (λ (b : Bool). b || cell_at kind k A i) (lit_zeros n i)
