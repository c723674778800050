-- Growing and shrinking by steps, over any relation on the numbers below M; the last part over a symmetric one. Assumes nothing.
use Prim.Native.Nat.{ℕ, zero, suc, ◌+◌, ◌≤◌, ◌<◌}
use mathlib.Core.Path.{◌≡◌, refl, sym, ap, ap₂, subst, ◌∙◌}
use mathlib.Core.Bool.{Bool, true, false, ◌&&◌, ◌||◌, not}
use mathlib.Core.Logic.{◌⊎◌, inl, inr, ⊎_elim, ◌↔◌}
use native.Mathlib.Nat.{add-zero, add-suc, eq-or-lt_of_le, le_of_suc-le-suc}
use native.Mathlib.Decide.{le_ind}
use native.Mathlib.Omega.{arith}
use borrow.Author.Tests.{eq-eqb, eqb-true}
use lib.Dec.{eqb}
use Rattle.refusal.proofs.Tests.{clash, same_test, both, parts, left, right, cases}
use Rattle.walk.specs.Reach.{any_below, all_below, reaches, grown, shrunk}

-- ---- tests as facts

-- a test that holds
abbrev pub Is : Bool → Type 0
Is b = b ≡ true

-- ---- some and all of the numbers below n

pub any_in : (n : ℕ) (P : ℕ → Bool) (c : ℕ) → c < n → Is (P c) → Is (any_below n P)
unfolding any_below
any_in zero P c h p = absurd (omega arith)
any_in (suc n) P c h p = ⊎_elim
    (λ (e : c ≡ n). right (any_below n P) (P n) (subst (λ (i : ℕ). Is (P i)) e p))
    (λ (l : c < n). left (any_below n P) (P n) (any_in n P c l p))
    (eq-or-lt_of_le (le_of_suc-le-suc h))

pub any_out : (n : ℕ) (P : ℕ → Bool) → Is (any_below n P) → (c : ℕ) × (c < n) × Is (P c)
unfolding any_below
any_out zero P e = clash e refl
any_out (suc n) P e = ⊎_elim
    (λ (s : Is (any_below n P)). let w = any_out n P s in (w.0, omega (arith, w.1), w.2))
    (λ (p : Is (P n)). (n, omega arith, p))
    (cases (any_below n P) (P n) e)

pub any_cong : (n : ℕ) (P Q : ℕ → Bool) → ((c : ℕ) → c < n → P c ≡ Q c) → any_below n P ≡ any_below n Q
unfolding any_below
any_cong zero P Q f = refl
any_cong (suc n) P Q f = ap₂ (λ (a b : Bool). a || b) (any_cong n P Q (λ c h. f c (omega arith))) (f n (omega arith))

pub all_at : (n : ℕ) (P : ℕ → Bool) → Is (all_below n P) → (c : ℕ) → c < n → Is (P c)
unfolding all_below
all_at zero P e c h = absurd (omega arith)
all_at (suc n) P e c h = ⊎_elim
    (λ (q : c ≡ n). subst (λ (i : ℕ). Is (P i)) (sym q) (parts (all_below n P) (P n) e).1)
    (λ (l : c < n). all_at n P (parts (all_below n P) (P n) e).0 c l)
    (eq-or-lt_of_le (le_of_suc-le-suc h))

pub all_in : (n : ℕ) (P : ℕ → Bool) → ((c : ℕ) → c < n → Is (P c)) → Is (all_below n P)
unfolding all_below
all_in zero P f = refl
all_in (suc n) P f = both (all_below n P) (P n) (all_in n P (λ c h. f c (omega arith))) (f n (omega arith))

not_or : (a b : Bool) → not (a || b) ≡ (not a && not b)
not_or true b = refl
not_or false b = refl

-- all_below number is in a set where none is outside
pub all_none : (n : ℕ) (P Q : ℕ → Bool) → ((c : ℕ) → P c ≡ not (Q c)) → all_below n P ≡ not (any_below n Q)
unfolding any_below all_below
all_none zero P Q f = refl
all_none (suc n) P Q f = ap₂ (λ (a b : Bool). a && b) (all_none n P Q f) (f n) ∙ sym (not_or (any_below n Q) (Q n))

-- ---- steps

module _ (M : ℕ) (R : ℕ → ℕ → Bool) where
  pub reach_zero : (c d : ℕ) → reaches M R 0 c d ≡ eqb c d
  unfolding reaches
  reach_zero c d = refl

  pub reach_stay : (m c d : ℕ) → Is (reaches M R m c d) → Is (reaches M R (suc m) c d)
  unfolding reaches
  reach_stay m c d p = left (reaches M R m c d) (any_below M (λ e. reaches M R m c e && R e d)) p

  pub reach_step : (m c e d : ℕ) → e < M → Is (reaches M R m c e) → Is (R e d) → Is (reaches M R (suc m) c d)
  unfolding reaches
  reach_step m c e d h p q =
      let P : ℕ → Bool = λ e. reaches M R m c e && R e d in
      right (reaches M R m c d) (any_below M P) (any_in M P e h (both (reaches M R m c e) (R e d) p q))

  pub reach_out : (m c d : ℕ) → Is (reaches M R (suc m) c d) → Is (reaches M R m c d) ⊎ ((e : ℕ) × (e < M) × Is (reaches M R m c e) × Is (R e d))
  unfolding reaches
  reach_out m c d p =
      let P : ℕ → Bool = λ e. reaches M R m c e && R e d in ⊎_elim inl
      (λ (s : Is (any_below M P)).
      let w = any_out M P s in
      let q = parts (reaches M R m c w.0) (R w.0 d) w.2 in
      inr (w.0, w.1, q.0, q.1))
      (cases (reaches M R m c d) (any_below M P) p)

  -- no step is needed to stay, and more may be left over
  pub reach_self : (m c : ℕ) → Is (reaches M R m c c)
  unfolding reaches
  reach_self zero c = eq-eqb c c refl
  reach_self (suc m) c = reach_stay m c c (reach_self m c)

  pub reach_more : (m n c d : ℕ) → m ≤ n → Is (reaches M R m c d) → Is (reaches M R n c d)
  reach_more m n c d h p = le_ind (λ (k : ℕ). Is (reaches M R k c d)) p (λ k l q. reach_stay k c d q) n h

  -- steps after steps, and apart again
  pub reach_trans : (m n c d e : ℕ) → Is (reaches M R m c d) → Is (reaches M R n d e) → Is (reaches M R (m + n) c e)
  unfolding reaches
  reach_trans m zero c d e p q = rw (add-zero m) (subst (λ (i : ℕ). Is (reaches M R m c i)) (eqb-true d e q) p)
  reach_trans m (suc n) c d e p q = rw (add-suc m n) (⊎_elim
      (λ (l : Is (reaches M R n d e)). reach_stay (m + n) c e (reach_trans m n c d e p l))
      (λ (w : (f : ℕ) × (f < M) × Is (reaches M R n d f) × Is (R f e)). reach_step (m + n) c w.0 e w.1 (reach_trans m n c d w.0 p w.2) w.3)
      (reach_out n d e q))

  pub reach_split : (m n c e : ℕ) → e < M → Is (reaches M R (m + n) c e) → (d : ℕ) × (d < M) × Is (reaches M R m c d) × Is (reaches M R n d e)
  unfolding reaches
  reach_split m zero c e h p = (e, h, rw (add-zero m) at p, eq-eqb e e refl)
  reach_split m (suc n) c e h p = ⊎_elim
      (λ (l : Is (reaches M R (m + n) c e)). let w = reach_split m n c e h l in (w.0, w.1, w.2, reach_stay n w.0 e w.3))
      (λ (v : (f : ℕ) × (f < M) × Is (reaches M R (m + n) c f) × Is (R f e)).
      let w = reach_split m n c v.0 v.1 v.2 in
      (w.0, w.1, w.2, reach_step n w.0 v.0 e v.1 w.3 v.3))
      (reach_out (m + n) c e (rw (add-suc m n) at p))

  -- a step in front
  pub reach_front : (m c d e : ℕ) → c < M → Is (R c d) → Is (reaches M R m d e) → Is (reaches M R (suc m) c e)
  reach_front m c d e h r p =
      let k : 1 + m ≡ suc m = omega arith in
      rw k at (reach_trans 1 m c d e (reach_step 0 c c d h (reach_self 0 c) r) p)

  -- one step at most
  reach_one_lem : (c d : ℕ) → Is (reaches M R 1 c d) → (c ≡ d) ⊎ Is (R c d)
  reach_one_lem c d p = ⊎_elim
      (λ (l : Is (reaches M R 0 c d)). inl (eqb-true c d (sym (reach_zero c d) ∙ l)))
      (λ (w : (e : ℕ) × (e < M) × Is (reaches M R 0 c e) × Is (R e d)).
      let same = eqb-true c w.0 (sym (reach_zero c w.0) ∙ w.2) in
      inr (subst (λ (i : ℕ). Is (R i d)) (sym same) w.3))
      (reach_out 0 c d p)

  -- ---- growing

  pub grown_in : (m : ℕ) (A : ℕ → Bool) (c d : ℕ) → d < M → Is (reaches M R m c d) → Is (A d) → Is (grown M R m A c)
  unfolding grown
  grown_in m A c d h p q = any_in M (λ d. reaches M R m c d && A d) d h (both (reaches M R m c d) (A d) p q)

  pub grown_out : (m : ℕ) (A : ℕ → Bool) (c : ℕ) → Is (grown M R m A c) → (d : ℕ) × (d < M) × Is (reaches M R m c d) × Is (A d)
  unfolding grown
  grown_out m A c p =
      let w = any_out M (λ d. reaches M R m c d && A d) p in
      let q = parts (reaches M R m c w.0) (A w.0) w.2 in
      (w.0, w.1, q.0, q.1)

  -- growing only adds, and more steps and a larger set give no less
  pub grown_adds : (m : ℕ) (A : ℕ → Bool) (c : ℕ) → c < M → Is (A c) → Is (grown M R m A c)
  grown_adds m A c h p = grown_in m A c c h (reach_self m c) p

  pub grown_mono : (m : ℕ) (A B : ℕ → Bool) → ((d : ℕ) → d < M → Is (A d) → Is (B d)) → (c : ℕ) → Is (grown M R m A c) → Is (grown M R m B c)
  grown_mono m A B f c p = let w = grown_out m A c p in grown_in m B c w.0 w.1 w.2 (f w.0 w.1 w.3)

  pub grown_more : (m n : ℕ) (A : ℕ → Bool) (c : ℕ) → m ≤ n → Is (grown M R m A c) → Is (grown M R n A c)
  grown_more m n A c h p = let w = grown_out m A c p in grown_in n A c w.0 w.1 (reach_more m n c w.0 h w.2) w.3

  -- only the numbers below M matter
  pub grown_cong : (m : ℕ) (A B : ℕ → Bool) → ((d : ℕ) → d < M → A d ≡ B d) → (c : ℕ) → grown M R m A c ≡ grown M R m B c
  unfolding grown
  grown_cong m A B f c = any_cong M (λ d. reaches M R m c d && A d) (λ d. reaches M R m c d && B d) (λ d h. ap (λ (b : Bool). reaches M R m c d && b) (f d h))

  pub grown_zero : (A : ℕ → Bool) (c : ℕ) → c < M → grown M R 0 A c ≡ A c
  grown_zero A c h = same_test (grown M R 0 A c) (A c)
      (λ p. let w = grown_out 0 A c p in subst (λ (i : ℕ). Is (A i)) (sym (eqb-true c w.0 (sym (reach_zero c w.0) ∙ w.2))) w.3)
      (grown_adds 0 A c h)

  -- growing by m after n is growing by m + n
  pub grown_grown : (m n : ℕ) (A : ℕ → Bool) (c : ℕ) → grown M R m (grown M R n A) c ≡ grown M R (m + n) A c
  grown_grown m n A c = same_test (grown M R m (grown M R n A) c) (grown M R (m + n) A c)
      (λ p. let w = grown_out m (grown M R n A) c p in
      let v = grown_out n A w.0 w.3 in
      grown_in (m + n) A c v.0 v.1 (reach_trans m n c w.0 v.0 w.2 v.2) v.3)
      (λ p. let w = grown_out (m + n) A c p in
      let v = reach_split m n c w.0 w.1 w.2 in
      grown_in m (grown M R n A) c v.0 v.1 v.2 (grown_in n A v.0 w.0 w.1 v.3 w.3))

  pub grown_union : (m : ℕ) (A B : ℕ → Bool) (c : ℕ) → grown M R m (λ d. A d || B d) c ≡ (grown M R m A c || grown M R m B c)
  grown_union m A B c = same_test (grown M R m (λ d. A d || B d) c) (grown M R m A c || grown M R m B c)
      (λ p. let w = grown_out m (λ d. A d || B d) c p in ⊎_elim
      (λ (q : Is (A w.0)). left (grown M R m A c) (grown M R m B c) (grown_in m A c w.0 w.1 w.2 q))
      (λ (q : Is (B w.0)). right (grown M R m A c) (grown M R m B c) (grown_in m B c w.0 w.1 w.2 q))
      (cases (A w.0) (B w.0) w.3))
      (λ p. ⊎_elim
      (grown_mono m A (λ d. A d || B d) (λ d h q. left (A d) (B d) q) c)
      (grown_mono m B (λ d. A d || B d) (λ d h q. right (A d) (B d) q) c)
      (cases (grown M R m A c) (grown M R m B c) p))

  -- one ring more: what was grown, and what one step leads to it from
  pub grown_step : (m : ℕ) (A : ℕ → Bool) (c : ℕ) → c < M → grown M R (suc m) A c ≡ (grown M R m A c || any_below M (λ d. R c d && grown M R m A d))
  grown_step m A c h = same_test (grown M R (suc m) A c) (grown M R m A c || ring)
      (λ p. let w = grown_out (suc m) A c p in
      let k : 1 + m ≡ suc m = omega arith in
      let v = reach_split 1 m c w.0 w.1 (rw k w.2) in
      let g = grown_in m A v.0 w.0 w.1 v.3 w.3 in ⊎_elim
      (λ (e : c ≡ v.0). left (grown M R m A c) ring (subst (λ (i : ℕ). Is (grown M R m A i)) (sym e) g))
      (λ (r : Is (R c v.0)).
      let near = both (R c v.0) (grown M R m A v.0) r g in
      right (grown M R m A c) ring (any_in M (λ d. R c d && grown M R m A d) v.0 v.1 near))
      (reach_one_lem c v.0 v.2))
      (λ p. ⊎_elim (grown_more m (suc m) A c (omega arith)) from (cases (grown M R m A c) ring p))
    where
      ring : Bool
      ring = any_below M (λ d. R c d && grown M R m A d)

      from : Is ring → Is (grown M R (suc m) A c)
      from s =
          let w = any_out M (λ d. R c d && grown M R m A d) s in
          let q = parts (R c w.0) (grown M R m A w.0) w.2 in
          let v = grown_out m A w.0 q.1 in
          grown_in (suc m) A c v.0 v.1 (reach_front m c w.0 v.0 h q.0 v.2) v.3

  -- ---- shrinking

  implied : (a b : Bool) → (Is a → Is b) → Is (not a || b)
  implied true b f = f refl
  implied false b f = refl

  implies : (a b : Bool) → Is (not a || b) → Is a → Is b
  implies true b e p = e
  implies false b e p = clash p refl

  outside : (a b : Bool) → (not a || b) ≡ not (a && not b)
  outside true true = refl
  outside true false = refl
  outside false b = refl

  -- shrinking a set is growing what is outside it
  pub shrunk_grown : (m : ℕ) (A : ℕ → Bool) (c : ℕ) → shrunk M R m A c ≡ not (grown M R m (λ d. not (A d)) c)
  unfolding shrunk grown
  shrunk_grown m A c = all_none M (λ d. not (reaches M R m c d) || A d) (λ d. reaches M R m c d && not (A d)) (λ d. outside (reaches M R m c d) (A d))

  pub shrunk_in : (m : ℕ) (A : ℕ → Bool) (c : ℕ) → ((d : ℕ) → d < M → Is (reaches M R m c d) → Is (A d)) → Is (shrunk M R m A c)
  unfolding shrunk
  shrunk_in m A c f = all_in M (λ d. not (reaches M R m c d) || A d) (λ d h. implied (reaches M R m c d) (A d) (f d h))

  pub shrunk_out : (m : ℕ) (A : ℕ → Bool) (c : ℕ) → Is (shrunk M R m A c) → (d : ℕ) → d < M → Is (reaches M R m c d) → Is (A d)
  unfolding shrunk
  shrunk_out m A c p d h = implies (reaches M R m c d) (A d) (all_at M (λ d. not (reaches M R m c d) || A d) p d h)

-- ---- steps that lead back

module _ (M : ℕ) (R : ℕ → ℕ → Bool) (back : (c d : ℕ) → c < M → d < M → R c d ≡ R d c) where
  turned : (m c d : ℕ) → c < M → d < M → Is (reaches M R m c d) → Is (reaches M R m d c)
  unfolding reaches
  turned zero c d h l p = eq-eqb d c (sym (eqb-true c d p))
  turned (suc m) c d h l p = ⊎_elim
      (λ (q : Is (reaches M R m c d)). reach_stay M R m d c (turned m c d h l q))
      (λ (w : (e : ℕ) × (e < M) × Is (reaches M R m c e) × Is (R e d)).
      reach_front M R m d w.0 c l (back d w.0 l w.1 ∙ w.3) (turned m c w.0 h w.1 w.2))
      (reach_out M R m c d p)

  pub reach_sym : (m c d : ℕ) → c < M → d < M → reaches M R m c d ≡ reaches M R m d c
  reach_sym m c d h l = same_test (reaches M R m c d) (reaches M R m d c) (turned m c d h l) (turned m d c l h)

  -- a set grown lies in another exactly where it lies in the other shrunk
  pub grown_shrunk : (m : ℕ) (A B : ℕ → Bool) → ((c : ℕ) → c < M → Is (grown M R m A c) → Is (B c)) ↔ ((c : ℕ) → c < M → Is (A c) → Is (shrunk M R m B c))
  grown_shrunk m A B = (
    (λ f c h p. shrunk_in M R m B c (λ d l q. f d l (grown_in M R m A d c h (turned m c d h l q) p))),
    (λ f c h p. let w = grown_out M R m A c p in shrunk_out M R m B w.0 (f w.0 w.1 w.3) c h (turned m c w.0 h w.1 w.2)),
  )
