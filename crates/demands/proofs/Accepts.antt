-- The calls of demand 3 are accepted where their tests pass. Assumes nothing.
use Prim.Native.Nat.{ℕ, ◌^◌, ◌≤◌}
use mathlib.Core.Path.{◌≡◌, sym}
use mathlib.Core.List.{List}
use borrow.Author.Tests.{le-ltb}
use Rattle.refusal.specs.Answer.{given, in_order, done}
use Rattle.refusal.proofs.Answers.{gives}
use Rattle.refusal.proofs.Tests.{length_passes}
use Rattle.mask.specs.Mask.{max_mask_level, join_tests}
use Rattle.mask.proofs.Inclusion.{within_answers}
use Rattle.grow.specs.Grow.{max_rings, ring_tests}
use Rattle.demands.specs.Demand3.{Fits, Accepts}

rings_pass : (k m : ℕ) (a out work : List ℕ) → k ≤ max_mask_level → m ≤ max_rings → Fits k a → Fits k out → Fits k work →
    in_order (ring_tests k m a out work) done ≡ given done
rings_pass k m a out work h r p q s =
    sym (gives (ring_tests k m a out work) done (
      le-ltb max_mask_level k h,
      (length_passes (4 ^ k) a p, (length_passes (4 ^ k) out q, (length_passes (4 ^ k) work s, (le-ltb max_rings m r, tt)))),
    ))

join_passes : (k : ℕ) (a b out : List ℕ) → k ≤ max_mask_level → Fits k a → Fits k b → Fits k out → in_order (join_tests k a b out) done ≡ given done
join_passes k a b out h p q s =
    sym (gives (join_tests k a b out) done
    (le-ltb max_mask_level k h, (length_passes (4 ^ k) a p, (length_passes (4 ^ k) b q, (length_passes (4 ^ k) out s, tt)))))

pub accepts : Accepts
accepts = record {
  grow = rings_pass;
  shrink = rings_pass;
  join = join_passes;
  answers_within = λ k a b h p q. (_, within_answers k a b h p q);
}
