-- How cases are counted.
use Rattle.std.specs.Prelude.{ℕ, ◌+◌, ◌≤◌, ◌<◌, ◌≡◌, List, ◌⊎◌}
use Rattle.judge.specs.declared.Score.{Score}

-- the most cases that are counted
abbrev pub most : ℕ
most = 1000000

-- a score has room for one case more
abbrev pub Room : Score → Type 0
Room score = (score.all < most) × (score.right < most)

-- one case more: it counts as right exactly where the bytes of its answer are the expected ones; a full score stays
pub record Judged (answer expected : List ℕ) (before after : Score) : Type 0 where
  pub equal : Room before → answer ≡ expected → after.right ≡ before.right + 1
  pub other : Room before → (answer ≡ expected → ⊥) → after.right ≡ before.right
  pub all : Room before → after.all ≡ before.all + 1
  pub full : (most ≤ before.all) ⊎ (most ≤ before.right) → after ≡ before
