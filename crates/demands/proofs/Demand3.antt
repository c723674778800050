-- Demand 3 holds. Assumes nothing.
use Prim.Native.Nat.{ℕ, ◌^◌, ◌<◌}
use mathlib.Core.Path.{◌≡◌, refl, sym, ap, ap₂, ◌∙◌}
use mathlib.Core.Bool.{Bool, true, ◌||◌}
use mathlib.Core.List.{List, []}
use mathlib.Core.Logic.{◌⊎◌, ⊎_elim, ◌↔◌}
use lib.ListN.{length}
use Rattle.refusal.specs.Answer.{given}
use Rattle.refusal.proofs.Tests.{left, right, cases}
use Rattle.bitset.specs.Bits.{marked, bytes_of}
use Rattle.bitset.proofs.Laws.{length_bytes_of, marked_bytes_of, bytes_of_cong, bytes_of_marked}
use Rattle.cell.specs.Cell.{cells}
use Rattle.corner.specs.Corner.{touches}
use Rattle.corner.proofs.Laws.{touches_symmetric}
use Rattle.mask.specs.Mask.{within, union, join_call, within_call}
use Rattle.mask.proofs.Answers.{joined_bytes}
use Rattle.mask.proofs.Inclusion.{within_exactly, lacks_exactly}
use Rattle.grow.specs.Grow.{grown_cells, shrunk_cells, grow_call, shrink_call}
use Rattle.walk.proofs.Reach.{grown_adds, grown_cong, grown_zero, grown_union, grown_shrunk}
use Rattle.grow.proofs.Answers.{ready, grown_bytes, shrunk_bytes}
use Rattle.demands.specs.Demand3.{Accepted, written, after, rings_of, Demand3}
use Rattle.demands.proofs.Accepts.{accepts}
use Rattle.demands.proofs.Steps.{both_ways, itself, grown_exactly, shrunk_exactly}
use Rattle.demands.proofs.Growings.{growings}

-- what a mask marks where its bytes are those of a set
marked_is : (k : ℕ) (P : ℕ → Bool) (l : List ℕ) → l ≡ bytes_of (4 ^ k) P → (c : ℕ) → c < cells k → marked l c ≡ P c
marked_is k P l e c h = ap (λ (x : List ℕ). marked x c) e ∙ marked_bytes_of (4 ^ k) P c h

-- the same said of two sides that hold together
carried : {x y : Bool} {B : Type 0} → x ≡ y → ((y ≡ true) ↔ B) → (x ≡ true) ↔ B
carried e g = ((λ p. g.0 (sym e ∙ p)), (λ b. e ∙ g.1 b))

-- ---- joined

joins : (k : ℕ) (a b out : List ℕ) → Accepted (join_call k a b out) →
    (c : ℕ) → c < cells k → (marked (join_call k a b out).1 c ≡ true) ↔ ((marked a c ≡ true) ⊎ (marked b c ≡ true))
unfolding union
joins k a b out A c h =
    let e = marked_is k (union (marked a) (marked b)) _ (joined_bytes k a b out A) c h in (
      (λ p. cases (marked a c) (marked b c) (sym e ∙ p)),
      (λ w. e ∙ ⊎_elim (λ (p : marked a c ≡ true). left (marked a c) (marked b c) p) (λ (p : marked b c ≡ true). right (marked a c) (marked b c) p) w),
    )

-- joined and then grown is grown and then joined
module _ (k m : ℕ) (a b : List ℕ) where
  -- the bytes of both, and of each grown
  abbrev both_bytes : List ℕ
  both_bytes = bytes_of (4 ^ k) (union (marked a) (marked b))

  abbrev a_grown : List ℕ
  a_grown = bytes_of (4 ^ k) (grown_cells k m (marked a))

  abbrev b_grown : List ℕ
  b_grown = bytes_of (4 ^ k) (grown_cells k m (marked b))

  grown_joined : (c : ℕ) → c < cells k → grown_cells k m (marked both_bytes) c ≡ union (marked a_grown) (marked b_grown) c
  unfolding union
  grown_joined c h =
      let U : ℕ → Bool = λ d. marked a d || marked b d in
      grown_cong (cells k) (touches k) m (marked both_bytes) U (marked_bytes_of (4 ^ k) U) c
      ∙ grown_union (cells k) (touches k) m (marked a) (marked b) c
      ∙ ap₂ ◌||◌ (sym (marked_bytes_of (4 ^ k) (grown_cells k m (marked a)) c h)) (sym (marked_bytes_of (4 ^ k) (grown_cells k m (marked b)) c h))

  joined : (j o w o₁ w₁ o₂ w₂ j' : List ℕ) →
      let both = (join_call k a b j).1 in
      let A = grow_call k m a o₁ w₁ in
      let B = grow_call k m b o₂ w₂ in
      Accepted (join_call k a b j) → Accepted (grow_call k m both o w) → Accepted A → Accepted B →
      Accepted (join_call k (written A) (written B) j') →
      written (grow_call k m both o w) ≡ (join_call k (written A) (written B) j').1
  joined j o w o₁ w₁ o₂ w₂ j' J G A B K =
      grown_bytes k m (join_call k a b j).1 o w G
      ∙ ap (λ (l : List ℕ). bytes_of (4 ^ k) (grown_cells k m (marked l))) (joined_bytes k a b j J)
      ∙ bytes_of_cong (4 ^ k) (grown_cells k m (marked both_bytes)) (union (marked a_grown) (marked b_grown)) grown_joined
      ∙ sym (ap₂ (λ (x y : List ℕ). bytes_of (4 ^ k) (union (marked x) (marked y))) (grown_bytes k m a o₁ w₁ A) (grown_bytes k m b o₂ w₂ B))
      ∙ sym (joined_bytes k (grow_call k m a o₁ w₁).1.0 (grow_call k m b o₂ w₂).1.0 j' K)

-- grown lies within another exactly where it lies within the other shrunk
module _ (k m : ℕ) (a b o w o' w' : List ℕ) (G : Accepted (grow_call k m a o w)) (S : Accepted (shrink_call k m b o' w')) where
  P : ℕ → Bool
  P = grown_cells k m (marked a)

  Q : ℕ → Bool
  Q = shrunk_cells k m (marked b)

  g : List ℕ
  g = written (grow_call k m a o w)

  s : List ℕ
  s = written (shrink_call k m b o' w')

  g_marks : (c : ℕ) → c < cells k → marked g c ≡ P c
  unfolding g P
  g_marks = marked_is k P g (grown_bytes k m a o w G)

  s_marks : (c : ℕ) → c < cells k → marked s c ≡ Q c
  unfolding s Q
  s_marks = marked_is k Q s (shrunk_bytes k m b o' w' S)

  turn : ((c : ℕ) → c < cells k → P c ≡ true → marked b c ≡ true) ↔ ((c : ℕ) → c < cells k → marked a c ≡ true → Q c ≡ true)
  unfolding P Q
  turn = grown_shrunk (cells k) (touches k) (λ x y _ _. touches_symmetric k x y) m (marked a) (marked b)

  grown_in : (within_call k g b ≡ given within) ↔ ((c : ℕ) → c < cells k → marked g c ≡ true → marked b c ≡ true)
  unfolding g
  grown_in =
      let A = ready k m a o w (sym G) in
      let long = ap length (grown_bytes k m a o w G) ∙ length_bytes_of (4 ^ k) (grown_cells k m (marked a)) in
      within_exactly k g b A.level long (ready k m b o' w' (sym S)).read

  in-shrunk : (within_call k a s ≡ given within) ↔ ((c : ℕ) → c < cells k → marked a c ≡ true → marked s c ≡ true)
  unfolding s
  in-shrunk =
      let A = ready k m a o w (sym G) in
      within_exactly k a s A.level A.read (ap length (shrunk_bytes k m b o' w' S) ∙ length_bytes_of (4 ^ k) (shrunk_cells k m (marked b)))

  grown_within : (within_call k (written (grow_call k m a o w)) b ≡ given within) ↔ (within_call k a (written (shrink_call k m b o' w')) ≡ given within)
  unfolding g s
  grown_within = (
    (λ e. in-shrunk.1 (λ c h p. s_marks c h ∙ turn.0 (λ d l q. grown_in.0 e d l (g_marks d l ∙ q)) c h p)),
    (λ e. grown_in.1 (λ c h p. turn.1 (λ d l q. sym (s_marks d l) ∙ in-shrunk.0 e d l q) c h (sym (g_marks c h) ∙ p))),
  )

empty_list : (a : List ℕ) → (after [] a ≡ a) × (rings_of [] a ≡ 0)
unfolding after rings_of
empty_list a = (refl, refl)

pub demand_3 : Demand3
demand_3 = record {
  accepts = accepts;
  joins = joins;
  within_yes = within_exactly;
  within_lacks = lacks_exactly;
  grown = λ k m a out work A c h. carried (marked_is k (grown_cells k m (marked a)) _ (grown_bytes k m a out work A) c h) (grown_exactly k m (marked a) c h);
  shrunk = λ k m a out work A c h.
      carried (marked_is k (shrunk_cells k m (marked a)) _ (shrunk_bytes k m a out work A) c h) (shrunk_exactly k m (marked a) c h);
  list = λ k a m gs c h.
      carried (marked_is k (grown_cells k (rings_of gs a) (marked a)) _ (growings k a gs m) c h) (grown_exactly k (rings_of gs a) (marked a) c h);
  list_once = λ k a h m gs few out work p q.
      growings k a gs m ∙ sym (grown_bytes k (rings_of gs a) a out work (accepts.grow k (rings_of gs a) a out work h few m.0 p q));
  list_empty = empty_list;
  joined = joined;
  grown_within = grown_within;
  zero_rings = λ k a out work m A.
      grown_bytes k 0 a out work A
      ∙ bytes_of_cong (4 ^ k) (grown_cells k 0 (marked a)) (marked a) (grown_zero (cells k) (touches k) (marked a))
      ∙ bytes_of_marked (4 ^ k) a m.0 m.1;
  only_adds = λ k m a out work A c h p.
      marked_is k (grown_cells k m (marked a)) _ (grown_bytes k m a out work A) c h
      ∙ grown_adds (cells k) (touches k) m (marked a) c h p;
  both_ways = both_ways;
  itself = itself;
}
