-- Words made of other words' bits by masks, shifts and joins: each bit is one or some of those bits, and which they are is computed. Assumes nothing.
use Prim.Native.Nat.{ℕ, ◌+◌, ◌*◌, ◌-◌, ◌/◌, ◌%◌, ◌^◌, ◌≤◌, ◌<◌}
use mathlib.Core.Path.{◌≡◌, refl, sym, ap, ap₂, ◌∙◌}
use mathlib.Core.Bool.{Bool, true, false, cond, ◌&&◌, ◌||◌, and-true, and-false, or-false, or_assoc, or_comm}
use mathlib.Core.List.{List, [], ◌∷◌, ◌++◌}
use mathlib.Core.Logic.{⊎_elim}
use native.Mathlib.Nat.{mod-lt}
use native.Mathlib.Omega.{arith}
use borrow.Author.Tests.{ltb-true, ltb-false, leb-true, leb-false, eqb-true}
use lib.Dec.{leb, ltb, eqb}
use lib.Pow.{pow_pos}
use Rattle.refusal.proofs.Tests.{parts, cases, clash}
use Rattle.bitset.specs.Bits.{bit}
use Rattle.bitset.proofs.Laws.{bit_past, bit_or_lem}
use Rattle.square.specs.inside.Words.{Word, input, kept, raised, lowered, joined, value}
use Rattle.rows.proofs.Words.{bit_and_lem, bit_shr, shl_high, shl_low}

-- the bits that bit p is joined of: bit b of input n is 64 × n + b
unfoldable pub sources : Word → ℕ → List ℕ
sources (input n) p = cond (ltb p 64) ((64 * n + p) ∷ []) []
sources (kept w m) p = cond (bit m p) (sources w p) []
sources (raised w s) p = cond (leb s p && ltb p 64) (sources w (p - s)) []
sources (lowered w s) p = sources w (s + p)
sources (joined w x) p = sources w p ++ sources x p

-- a bit of the inputs, and whether one of a list is set
unfoldable pub input_bit : (ℕ → ℕ) → ℕ → Bool
input_bit e q = bit (e (q / 64)) (q % 64)

unfoldable pub any_of : (ℕ → Bool) → List ℕ → Bool
any_of f [] = false
any_of f (q ∷ qs) = f q || any_of f qs

any_append : (f : ℕ → Bool) (a b : List ℕ) → (any_of f a || any_of f b) ≡ any_of f (a ++ b)
unfolding any_of
any_append f [] b = refl
any_append f (q ∷ a) b = or_assoc (f q) (any_of f a) (any_of f b) ∙ ap (λ (x : Bool). f q || x) (any_append f a b)

-- a number cut to 64 bits has none from there on
past_word : (x p : ℕ) → 64 ≤ p → bit (x % 2 ^ 64) p ≡ false
past_word x p h = bit_past 64 (x % 2 ^ 64) p (mod-lt x (pow_pos 64)) h

pub value_bit : (e : ℕ → ℕ) → ((n : ℕ) → e n < 2 ^ 64) → (w : Word) (p : ℕ) → bit (value e w) p ≡ any_of (input_bit e) (sources w p)
unfolding value sources any_of input_bit
value_bit e h (input n) p = go (ltb p 64) refl
  where
    go : (b : Bool) → ltb p 64 ≡ b → bit (e n) p ≡ any_of (input_bit e) (cond b ((64 * n + p) ∷ []) [])
    go true t =
        let l = ltb-true p 64 t in
        let q : (64 * n + p) / 64 ≡ n = omega arith in
        let r : (64 * n + p) % 64 ≡ p = omega arith in
        sym (rw (q, r) (or-false (bit (e n) p)))
    go false t = bit_past 64 (e n) p (h n) (ltb-false p 64 t)
value_bit e h (kept w m) p = bit_and_lem (value e w) m p ∙ go (bit m p) (value_bit e h w p)
  where
    go : (b : Bool) → bit (value e w) p ≡ any_of (input_bit e) (sources w p) → (bit (value e w) p && b) ≡ any_of (input_bit e) (cond b (sources w p) [])
    go true f = and-true (bit (value e w) p) ∙ f
    go false f = and-false (bit (value e w) p)
value_bit e h (raised w s) p = go (leb s p) (ltb p 64) refl refl (value_bit e h w (p - s))
  where
    x : ℕ
    x = value e w

    go : (b c : Bool) → leb s p ≡ b → ltb p 64 ≡ c → bit x (p - s) ≡ any_of (input_bit e) (sources w (p - s)) →
        bit (x * 2 ^ s % 2 ^ 64) p ≡ any_of (input_bit e) (cond (b && c) (sources w (p - s)) [])
    go true true t u f =
        let l = leb-true s p t in
        let m = ltb-true p 64 u in
        let q : s + (p - s) ≡ p = omega arith in
        ap (bit (x * 2 ^ s % 2 ^ 64)) (sym q) ∙ shl_high 64 x s (p - s) (omega arith) ∙ f
    go true false t u f = past_word (x * 2 ^ s) p (ltb-false p 64 u)
    go false true t u f = shl_low 64 x s p (leb-false s p t) (ltb-true p 64 u)
    go false false t u f = past_word (x * 2 ^ s) p (ltb-false p 64 u)
value_bit e h (lowered w s) p = bit_shr (value e w) s p ∙ value_bit e h w (s + p)
value_bit e h (joined w x) p =
    bit_or_lem (value e w) (value e x) p ∙ ap₂ (λ (a b : Bool). a || b) (value_bit e h w p) (value_bit e h x p) ∙ any_append (input_bit e) (sources w p) (sources x p)

-- ---- what is computed of a list of sources

unfoldable pub same_list : List ℕ → List ℕ → Bool
same_list [] [] = true
same_list [] (y ∷ ys) = false
same_list (x ∷ xs) [] = false
same_list (x ∷ xs) (y ∷ ys) = eqb x y && same_list xs ys

pub same_list_lem : (a b : List ℕ) → same_list a b ≡ true → a ≡ b
unfolding same_list
same_list_lem [] [] e = refl
same_list_lem [] (y ∷ ys) e = clash e refl
same_list_lem (x ∷ xs) [] e = clash e refl
same_list_lem (x ∷ xs) (y ∷ ys) e = let p = parts (eqb x y) (same_list xs ys) e in ap₂ ◌∷◌ (eqb-true x y p.0) (same_list_lem xs ys p.1)

-- one source, none or two
pub one_source : (f : ℕ → Bool) (qs : List ℕ) (q : ℕ) → same_list qs (q ∷ []) ≡ true → any_of f qs ≡ f q
unfolding any_of
one_source f qs q e = ap (any_of f) (same_list_lem qs (q ∷ []) e) ∙ or-false (f q)

two_in_order : (f : ℕ → Bool) (qs : List ℕ) (q r : ℕ) → same_list qs (q ∷ r ∷ []) ≡ true → any_of f qs ≡ (f q || f r)
unfolding any_of
two_in_order f qs q r e = ap (any_of f) (same_list_lem qs (q ∷ r ∷ []) e) ∙ ap (λ (x : Bool). f q || x) (or-false (f r))

pub two_sources : (f : ℕ → Bool) (qs : List ℕ) (q r : ℕ) → (same_list qs (q ∷ r ∷ []) || same_list qs (r ∷ q ∷ [])) ≡ true → any_of f qs ≡ (f q || f r)
two_sources f qs q r e = ⊎_elim (two_in_order f qs q r) (λ (p : same_list qs (r ∷ q ∷ []) ≡ true). two_in_order f qs r q p ∙ or_comm (f r) (f q))
    (cases (same_list qs (q ∷ r ∷ [])) (same_list qs (r ∷ q ∷ [])) e)

-- at most one source, which passes a test
unfoldable pub at_most_one : (ℕ → Bool) → List ℕ → Bool
at_most_one g [] = true
at_most_one g (q ∷ []) = g q
at_most_one g (q ∷ r ∷ qs) = false

pub at_most_one_lem : (f g : ℕ → Bool) (qs : List ℕ) → at_most_one g qs ≡ true → any_of f qs ≡ true → (q : ℕ) × (g q ≡ true)
unfolding at_most_one any_of
at_most_one_lem f g [] e p = clash p refl
at_most_one_lem f g (q ∷ []) e p = (q, e)
at_most_one_lem f g (q ∷ r ∷ qs) e p = clash e refl
