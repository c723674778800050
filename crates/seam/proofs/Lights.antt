-- Two bits joined, as the code does it. Assumes nothing.
use Prim.Native.Nat.{ℕ, ◌<◌}
use mathlib.Core.Path.{◌≡◌, refl, sym, ◌∙◌}
use mathlib.Core.Bool.{true, false, ◌&&◌, ◌||◌, or-true, or-false}
use borrow.Author.Tests.{eq-eqb, ne_eqb}
use mathlib.Core.List.{List}
use lib.Dec.{ltb, eqb}
use Rattle.rows.specs.Rows.{lit, spot_count}
use Rattle.rows.proofs.Words.{set_here}
use Rattle.seam.specs.inside.Pairs.{join_pair}
use Rattle.seam.proofs.Pairs.{pair_is}

-- a pair joined: where the first is set the second is set too, and else where the second is set the first

module _ (p q : ℕ) (s r : List ℕ) where
  pub first_lit : lit s p ≡ true → q < spot_count → ((i : ℕ) → lit r i ≡ (lit s i || (eqb i q && ltb i spot_count))) → lit r ≡ join_pair p q (lit s)
  first_lit h l g =
      let f : (i : ℕ) → lit r i ≡ (lit s i || eqb i q) = λ i. g i ∙ set_here (lit s i) i q l in
      pair_is p q (lit s) (lit r)
      (f p ∙ rw h)
      (f q ∙ rw (eq-eqb q q refl, or-true (lit s q), h))
      (λ i n. f i ∙ rw (ne_eqb i q n.1) (or-false (lit s i)))

  pub second_lit : lit s q ≡ true → p < spot_count → ((i : ℕ) → lit r i ≡ (lit s i || (eqb i p && ltb i spot_count))) → lit r ≡ join_pair p q (lit s)
  second_lit h l g =
      let f : (i : ℕ) → lit r i ≡ (lit s i || eqb i p) = λ i. g i ∙ set_here (lit s i) i p l in
      pair_is p q (lit s) (lit r)
      (f p ∙ rw (eq-eqb p p refl, or-true (lit s p), h) (sym (or-true (lit s p))))
      (f q ∙ rw h (sym (or-true (lit s p))))
      (λ i n. f i ∙ rw (ne_eqb i p n.0) (or-false (lit s i)))

pub none_lit : (p q : ℕ) (s : List ℕ) → lit s p ≡ false → lit s q ≡ false → lit s ≡ join_pair p q (lit s)
none_lit p q s h l = pair_is p q (lit s) (lit s) (rw (h, l)) (rw (h, l)) (λ i n. refl)
