-- What follows where the tests of a chart are passed, or refuse. Assumes nothing.
use Prim.Native.Nat.{ℕ, ◌≤◌}
use mathlib.Core.Path.{◌≡◌}
use mathlib.Core.List.{List}
use borrow.Author.Tests.{ltb-false}
use lib.Ieee.{Float}
use lib.ListN.{length}
use Rattle.refusal.specs.Answer.{given, done}
use Rattle.refusal.proofs.Answers.{passed}
use Rattle.refusal.proofs.Tests.{length_is}
use Rattle.cell.specs.Cell.{cells}
use Rattle.mask.specs.Mask.{max_mask_level}
use Rattle.chart.specs.Chart.{chart_tests, chart_call}

-- two slices are a chart of level k
pub record IsChart (k : ℕ) (temps : List Float) (ages : List ℕ) : Type 0 where
  pub level : k ≤ max_mask_level
  pub warmth : length temps ≡ cells k
  pub aged : length ages ≡ cells k

pub is_chart_lem : (k : ℕ) (temps : List Float) (ages : List ℕ) → given done ≡ chart_call k temps ages → IsChart k temps ages
is_chart_lem k temps ages e =
    let t = (passed (chart_tests k temps ages) done done e).0 in
    record {
      level = ltb-false max_mask_level k t.0;
      warmth = length_is (cells k) temps t.1.0;
      aged = length_is (cells k) ages t.1.1.0;
    }
