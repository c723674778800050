-- The step call and the lines of the rules: a step is given exactly where the places of the two cells stand on one of the lines. Assumes nothing.
use Prim.Native.Nat.{ℕ, ◌+◌, ◌-◌, ◌^◌, ◌≤◌, ◌<◌}
use mathlib.Core.Path.{◌≡◌, refl, sym, ap, subst, ◌∙◌}
use mathlib.Core.Logic.{◌↔◌}
use mathlib.Core.Option.{Option, none, some}
use mathlib.Core.Bool.{true}
use native.Mathlib.Numerals.{add-one}
use native.Mathlib.Omega.{arith}
use Rattle.refusal.specs.Answer.{given}
use Rattle.refusal.proofs.Tests.{clash}
use Rattle.cell.specs.Cell.{Triangle, up, down, Place, place, cells, max_level, place_call}
use Rattle.cell.proofs.Answers.{Given, in-range, given_place, accepts}
use Rattle.code.specs.Step.{across, east, west, code_to, step_call}
use Rattle.code.specs.Neighbours.{direct, is_direct, direct_code}
use Rattle.code.proofs.Laws as laws
use Rattle.code.proofs.Laws.{Inner, Move, stay, over_t, over_e, over_w, step_move, move_step, code_step}
use Rattle.code.proofs.Calls.{stepped, joined}
use Rattle.demands.specs.Demand2.{Inside, up_t, up_l, up_r, up_e, up_w, down_t, down_l, down_r, down_e, down_w}

-- a cell of the level has its place
place_given : (k n : ℕ) (p : Place) → Given k n (place k n) → place k n ≡ p → place_call k n ≡ given p
place_given k n p g e = sym (accepts k n (place k n) g.level g.below) ∙ ap given e

-- where a step is given, the move is from the one place to the other
module _ (k n m c : ℕ) where
  move_of : step_call k n c ≡ given m → Move k (place k n) c (place k m)
  move_of e = step_move k (place k n) c (place k m) (stepped k n c m e).goes

  from_place : (p : Place) → step_call k n c ≡ given m → place k n ≡ p → place_call k n ≡ given p
  from_place p e = place_given k n p (stepped k n c m e).from

  to_place : (p : Place) → step_call k n c ≡ given m → place k m ≡ p → place_call k m ≡ given p
  to_place p e = place_given k m p (stepped k n c m e).to

  -- and where a move is, the step is given
  moved : (p r : Place) → place_call k n ≡ given p → place_call k m ≡ given r → Move k p c r → step_call k n c ≡ given m
  moved p r e f w =
      let g = given_place k n p (sym e) in
      let h = given_place k m r (sym f) in
      joined k n c m (in-range k n (place k n) g.level g.below refl) (rw (g.at, h.at) (move_step k w))

-- ---- inside an octant: the lines of the rules, and the relation that the laws of steps go by

to_line : {f : Triangle} {c : ℕ} {g : Triangle} → Inner f c g → Inside c f g
to_line (laws.up_t {a} {a'} {b} e) = let h : a' + 1 ≡ a = omega arith in subst (λ (i : ℕ). Inside 0 (up i b) (down a' b)) h up_t
to_line (laws.up_l {a} {b} {b'} e) = let h : b' + 1 ≡ b = omega arith in subst (λ (i : ℕ). Inside 1 (up a i) (down a b')) h up_l
to_line laws.up_r = up_r
to_line (laws.up_e {a} {b} {b'} e) = let h : b + 1 ≡ b' = omega arith in subst (λ (i : ℕ). Inside 3 (up a b) (up a i)) h up_e
to_line (laws.up_w {a} {b} {b'} e) = let h : b' + 1 ≡ b = omega arith in subst (λ (i : ℕ). Inside 4 (up a i) (up a b')) h up_w
to_line (laws.down_t {a} {a'} {b} e) = let h : a + 1 ≡ a' = omega arith in subst (λ (i : ℕ). Inside 0 (down a b) (up i b)) h down_t
to_line laws.down_l = down_l
to_line (laws.down_r {a} {b} {b'} e) = let h : b + 1 ≡ b' = omega arith in subst (λ (i : ℕ). Inside 2 (down a b) (up a i)) h down_r
to_line (laws.down_e {a} {b} {b'} e) = let h : b + 1 ≡ b' = omega arith in subst (λ (i : ℕ). Inside 3 (down a b) (down a i)) h down_e
to_line (laws.down_w {a} {b} {b'} e) = let h : b' + 1 ≡ b = omega arith in subst (λ (i : ℕ). Inside 4 (down a i) (down a b')) h down_w

of_line : {c : ℕ} {f g : Triangle} → Inside c f g → Inner f c g
of_line (up_t {a} {b}) = laws.up_t (add-one a)
of_line (up_l {a} {b}) = laws.up_l (add-one b)
of_line up_r = laws.up_r
of_line (up_e {a} {b}) = laws.up_e (add-one b)
of_line (up_w {a} {b}) = laws.up_w (add-one b)
of_line (down_t {a} {b}) = laws.down_t (add-one a)
of_line down_l = laws.down_l
of_line (down_r {a} {b}) = laws.down_r (add-one b)
of_line (down_e {a} {b}) = laws.down_e (add-one b)
of_line (down_w {a} {b}) = laws.down_w (add-one b)

-- a move along a code below 5 is one of the lines
on_line : (k : ℕ) {p : Place} {c : ℕ} {r : Place} → c < 5 → Move k p c r →
    (o : ℕ) × (f : Triangle) × (g : Triangle) × (p ≡ (o, f)) × (r ≡ (o, g)) × Inside c f g
on_line k h (stay {o} {c} {f} {f'} i s) = (o, f, f', refl, refl, to_line i)
on_line k h (over_t x e) = absurd (omega arith)
on_line k h (over_e x e z) = absurd (omega arith)
on_line k h (over_w x e z) = absurd (omega arith)

pub inside_octant : (k n m c : ℕ) → c < 5 → (step_call k n c ≡ given m) ↔
    ((o : ℕ) × (f : Triangle) × (g : Triangle) × (place_call k n ≡ given (o, f)) × (place_call k m ≡ given (o, g)) × Inside c f g)
inside_octant k n m c h = (
  (λ e. let w = on_line k h (move_of k n m c e) in (w.0, w.1, w.2, from_place k n m c _ e w.3, to_place k n m c _ e w.4, w.5)),
  (λ w. moved k n m c (w.0, w.1) (w.0, w.2) w.3 w.4 (stay (of_line w.5) (given_place k m (w.0, w.2) (sym w.4)).occurs.1)),
)

-- ---- over the edges

pub T_leads : (k n m : ℕ) → (step_call k n 5 ≡ given m) ↔
    ((o : ℕ) × (b : ℕ) × (place_call k n ≡ given (o, up 0 b)) × (place_call k m ≡ given (across o, up 0 b)))
T_leads k n m = (
  (λ e. let w = laws.T_leads k (place k n) (place k m) (stepped k n 5 m e).goes in (w.0, w.1, from_place k n m 5 _ e w.2, to_place k n m 5 _ e w.3)),
  (λ w. moved k n m 5 _ _ w.2 w.3 (over_t refl refl)),
)

pub E_leads : (k n m : ℕ) → (step_call k n 6 ≡ given m) ↔
    ((o : ℕ) × (a : ℕ) × (b : ℕ) × (a + b + 1 ≡ 2 ^ k) ×
    (place_call k n ≡ given (o, up a b)) × (place_call k m ≡ given (east o, up a 0)))
E_leads k n m = (
  (λ e.
      let w = laws.E_leads k (place k n) (place k m) (stepped k n 6 m e).goes in
      (w.0, w.1, w.2, w.3, from_place k n m 6 _ e w.4, to_place k n m 6 _ e w.5)),
  (λ w. moved k n m 6 _ _ w.4 w.5 (over_e refl w.3 refl)),
)

pub W_leads : (k n m : ℕ) → (step_call k n 7 ≡ given m) ↔
    ((o : ℕ) × (a : ℕ) × (place_call k n ≡ given (o, up a 0)) × (place_call k m ≡ given (west o, up a (2 ^ k - 1 - a))))
W_leads k n m = (
  (λ e. let w = laws.W_leads k (place k n) (place k m) (stepped k n 7 m e).goes in (w.0, w.1, from_place k n m 7 _ e w.2, to_place k n m 7 _ e w.3)),
  (λ w. moved k n m 7 _ _ w.2 w.3 (over_w refl refl refl)),
)

-- ---- direct neighbours

-- a cell is one exactly where a direct code leads to it
pub direct_step : (k n m : ℕ) → k ≤ max_level → n < cells k →
    (is_direct k n m ≡ true) ↔ ((c : ℕ) × (direct c ≡ true) × (step_call k n c ≡ given m))
unfolding is_direct direct_code
direct_step k n m h l = (
  (λ e. go (code_to k m (place k n)) refl e),
  (λ w. rw ((code_step k m (place k n) w.0 g.occurs).1 (stepped k n w.0 m w.2).goes) w.1),
)
  where
    g : Given k n (place k n)
    g = in-range k n (place k n) h l refl

    go : (s : Option ℕ) → code_to k m (place k n) ≡ s → direct_code s ≡ true → (c : ℕ) × (direct c ≡ true) × (step_call k n c ≡ given m)
    go none e p = clash p refl
    go (some c) e p = (c, p, joined k n c m g ((code_step k m (place k n) c g.occurs).0 e))
