-- How a call of growing or shrinking begins.
use Rattle.std.specs.Prelude.{ℕ, ◌^◌, List, replicate}
use Rattle.refusal.specs.Answer.{Answer, in_order, lending, done}
use Rattle.grow.specs.Grow.{ring_tests}

-- by its tests: the slice that is written then holds the mask, and the one to work in zeros
abbrev pub prepare_call : ℕ → ℕ → List ℕ → List ℕ → List ℕ → Answer (Unit {0}) × (List ℕ × List ℕ)
prepare_call k m a out work = lending (in_order (ring_tests k m a out work) done) (out, work) (a, replicate (4 ^ k) 0)
