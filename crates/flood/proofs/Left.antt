-- How many spots are not set yet: fewer after each turn that changed something. Assumes nothing.
use Prim.Native.Nat.{ℕ, ◌+◌, ◌*◌, ◌-◌, ◌/◌, ◌%◌, ◌<◌}
use mathlib.Core.Path.{◌≡◌, refl, ap₂, ◌∙◌}
use mathlib.Core.Bool.{Bool, true, false, cond}
use mathlib.Core.List.{List}
use native.Mathlib.Omega.{arith}
use lib.Dec.{eqb}
use Rattle.bitset.specs.Bits.{size}
use Rattle.bitset.proofs.Laws.{size_le}
use Rattle.walk.proofs.Closure.{size_less}
use Rattle.cell.specs.declared.Kind.{Kind}
use Rattle.cell.specs.declared.Kind.TheVariants.{Up, Down}
use Rattle.flood.specs.Flood.{lit_of}
use Rattle.flood.specs.inside.Turns.{More, Turn}

-- the spots of both kinds in one row of numbers: those of up cells even, those of down cells odd
abbrev kind_at : Bool → Kind
kind_at true = Up
kind_at false = Down

abbrev spots : List ℕ → List ℕ → ℕ → Bool
spots u d n = lit_of u d (kind_at (eqb (n % 2) 0)) (n / 2)

at : (t : Kind) (i : ℕ) → (n : ℕ) × (n < 2 * i + 2) × (kind_at (eqb (n % 2) 0) ≡ t) × (n / 2 ≡ i)
at Up i = let e : (2 * i) % 2 ≡ 0 = omega arith in (2 * i, omega arith, rw e, omega arith)
at Down i = let e : (2 * i + 1) % 2 ≡ 1 = omega arith in (2 * i + 1, omega arith, rw e, omega arith)

unfoldable pub unset : List ℕ → List ℕ → ℕ
unset u d = 1322240 - size 1322240 (spots u d)

pub unset_less : (u₀ d₀ u d : List ℕ) → ((t : Kind) (i : ℕ) → lit_of u₀ d₀ t i ≡ true → lit_of u d t i ≡ true) → More u₀ d₀ u d → unset u d < unset u₀ d₀
unfolding unset
unset_less u₀ d₀ u d f m =
    let w = at m.0 m.1 in
    let same : (g h : List ℕ) → spots g h w.0 ≡ lit_of g h m.0 m.1 = λ g h. ap₂ (lit_of g h) w.2 w.3 in
    let l = size_less (spots u₀ d₀) (spots u d) 1322240 (λ n h. f (kind_at (eqb (n % 2) 0)) (n / 2)) w.0
    (omega (arith, w.1, m.2)) (same u₀ d₀ ∙ m.3) (same u d ∙ m.4) in
    omega (arith, l, size_le 1322240 (spots u d))

-- the rounds left: after one that changed something fewer, and after any other none
pub rounds_less : {S : Kind → ℕ → Kind → ℕ → Type 0} {ou od u₀ d₀ u d : List ℕ} {r : Bool} → Turn S ou od u₀ d₀ u d r → cond r (unset u d + 1) 0 < unset u₀ d₀ + 1
rounds_less {u₀ = u₀} {d₀ = d₀} {u = u} {d = d} {r = r} x = go r refl
  where
    go : (b : Bool) → r ≡ b → cond b (unset u d + 1) 0 < unset u₀ d₀ + 1
    go true e = omega (arith, unset_less u₀ d₀ u d x.added.grows (x.more e))
    go false e = omega arith
