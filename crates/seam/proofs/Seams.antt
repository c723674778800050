-- The four groups of pairs joined are the seams joined. Assumes nothing.
use Prim.Native.Nat.{ℕ, ◌^◌, ◌≤◌}
use mathlib.Core.Path.{◌≡◌, refl, sym, ap, ◌∙◌}
use mathlib.Core.Bool.{Bool, true, false}
use lib.Pow.{pow_pos}
use Rattle.refusal.proofs.Tests.{same_test}
use Rattle.corner.specs.Corner.{Point}
use Rattle.rows.specs.Rows.{octant_at, row_at, col_at, inside}
use Rattle.rows.proofs.Spots.{inside_is, size_low}
use Rattle.seam.specs.Seam.{point_at, joined}
use Rattle.seam.specs.declared.edges.Edge.{Edge}
use Rattle.seam.specs.declared.edges.Edge.TheVariants.{Meridian, Beside, Across, Equator}
use Rattle.seam.specs.inside.Pairs.{first_of, second_of, count_of}
use Rattle.seam.proofs.Joining.{Joining, joining_then, joining_pairs}
use Rattle.seam.proofs.Groups.{group_same}
use Rattle.seam.proofs.Closed.{group, all, all_closed}
use Rattle.seam.proofs.Home.{home, home_closed}
use Rattle.seam.proofs.Laws.{joined_out, joined_in, joined_stays}

module _ (k : ℕ) (h : k ≤ 8) (P : ℕ → Bool) where
  group_joining : (e : Edge) (Q : ℕ → Bool) → Joining k Q (group e (2 ^ k) Q)
  group_joining e Q = joining_pairs k (first_of e (2 ^ k)) (second_of e (2 ^ k)) Q (count_of e (2 ^ k)) (group_same k h e)

  all_joining : Joining k P (all (2 ^ k) P)
  all_joining =
      joining_then (group_joining Meridian P)
      (joining_then (group_joining Beside _) (joining_then (group_joining Across _) (group_joining Equator _)))

  -- each spot has what the spot of its point has
  all_home : (i : ℕ) → inside k i ≡ true → all (2 ^ k) P i ≡ all (2 ^ k) P (home (point_at k i))
  unfolding point_at
  all_home i l =
      let n = inside_is k i l in
      let m = size_low k h in
      ap (all (2 ^ k) P) (sym n.again)
      ∙ home_closed k (all (2 ^ k) P) (all_closed (2 ^ k) m (pow_pos k) P) (octant_at i) (row_at i) (col_at i) n.octant n.sum

  pub all_joined : (i : ℕ) → all (2 ^ k) P i ≡ joined k P i
  all_joined i = go (inside k i) refl
    where
      go : (b : Bool) → inside k i ≡ b → all (2 ^ k) P i ≡ joined k P i
      go false e = all_joining.stays i e ∙ sym (joined_stays k P i e)
      go true e = same_test (all (2 ^ k) P i) (joined k P i)
          (λ s. let w = all_joining.from i e s in joined_in k P i w.0 e w.1 w.2 w.3)
          (λ s. let w = joined_out k P i e s in
          all_home i e ∙ ap (λ (x : Point). all (2 ^ k) P (home x)) w.2 ∙ sym (all_home w.0 w.1) ∙ all_joining.kept w.0 w.3)
