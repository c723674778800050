-- Steps taken one after the other: spots are only added, none outside a closed set, and where nothing changed the set was closed. Assumes nothing.
use Prim.Native.Nat.{ℕ}
use mathlib.Core.Path.{◌≡◌, refl, sym, ap₂, ◌∙◌}
use mathlib.Core.Bool.{Bool, true, false, ◌||◌}
use mathlib.Core.List.{List}
use mathlib.Core.Logic.{◌⊎◌, ⊎_elim}
use Rattle.refusal.proofs.Tests.{clash, left, cases}
use Rattle.cell.specs.declared.Kind.{Kind}
use Rattle.flood.specs.Flood.{lit_of, Closed, Added}
use Rattle.flood.specs.inside.Turns.{Turn}

-- every step of one kind is one of another
abbrev pub Among : (Kind → ℕ → Kind → ℕ → Type 0) → (Kind → ℕ → Kind → ℕ → Type 0) → Type 0
Among S T = (s t : Kind) (i j : ℕ) → S s i t j → T s i t j

-- ---- spots added

pub added_none : {S : Kind → ℕ → Kind → ℕ → Type 0} {ou od u d : List ℕ} → Added S ou od u d u d
added_none = record { grows = λ t i p. p; sound = λ P f g. g }

pub added_more : {S : Kind → ℕ → Kind → ℕ → Type 0} {ou od u₀ d₀ u₁ d₁ u₂ d₂ : List ℕ} →
    Added S ou od u₀ d₀ u₁ d₁ → Added S ou od u₁ d₁ u₂ d₂ → Added S ou od u₀ d₀ u₂ d₂
added_more a b = record { grows = λ t i p. b.grows t i (a.grows t i p); sound = λ P f g. b.sound P f (a.sound P f g) }

pub added_among : {S T : Kind → ℕ → Kind → ℕ → Type 0} {ou od u₀ d₀ u d : List ℕ} → Among S T → Added S ou od u₀ d₀ u d → Added T ou od u₀ d₀ u d
added_among h a = record { grows = a.grows; sound = λ P f. a.sound P (λ s t i j m. f s t i j (h s t i j m)) }

-- the spots added are open, and a step leads to each from one that was set
pub added_by : {S : Kind → ℕ → Kind → ℕ → Type 0} {ou od u₀ d₀ u d : List ℕ} (N : Kind → ℕ → Bool) →
    ((t : Kind) (i : ℕ) → lit_of u d t i ≡ (lit_of u₀ d₀ t i || N t i)) →
    ((t : Kind) (i : ℕ) → N t i ≡ true → (lit_of ou od t i ≡ true) × ((s : Kind) × (j : ℕ) × S s j t i × (lit_of u₀ d₀ s j ≡ true))) →
    Added S ou od u₀ d₀ u d
added_by {u₀ = u₀} {d₀ = d₀} N e from = record {
  grows = λ t i p. e t i ∙ left (lit_of u₀ d₀ t i) (N t i) p;
  sound = λ P f g t i p. ⊎_elim
      (g t i)
      (λ (n : N t i ≡ true).
      let w = from t i n in
      let v = w.1 in
      f v.0 t v.1 i v.2 (g v.0 v.1 v.3) w.0)
      (cases (lit_of u₀ d₀ t i) (N t i) (sym (e t i) ∙ p));
}

-- ---- turns

not_before : (a b : Bool) → (a ≡ true → b ≡ true) → b ≡ false → a ≡ false
not_before true b f q = clash (f refl) q
not_before false b f q = refl

neither : (a b : Bool) → (a || b) ≡ false → (a ≡ false) × (b ≡ false)
neither true b e = clash refl e
neither false b e = (refl, e)

-- where nothing changed, the same spots are set as before
stood_same : {S : Kind → ℕ → Kind → ℕ → Type 0} {ou od u₀ d₀ u d : List ℕ} {r : Bool} → Turn S ou od u₀ d₀ u d r → r ≡ false →
    (t : Kind) (i : ℕ) → lit_of u d t i ≡ lit_of u₀ d₀ t i
stood_same x e t i = let p = x.stood e in ap₂ (λ (g h : List ℕ). lit_of g h t i) p.0 p.1

-- nothing changed
pub turn_none : {S : Kind → ℕ → Kind → ℕ → Type 0} {ou od u d : List ℕ} → Closed S ou od (lit_of u d) → Turn S ou od u d u d false
turn_none f = record { added = added_none; more = λ e. clash e refl; stood = λ e. (refl, refl); closed = λ e. f }

-- something did, and more may be added
pub turn_more : {S : Kind → ℕ → Kind → ℕ → Type 0} {ou od u₀ d₀ u₁ d₁ u₂ d₂ : List ℕ} →
    Turn S ou od u₀ d₀ u₁ d₁ true → Added S ou od u₁ d₁ u₂ d₂ → Turn S ou od u₀ d₀ u₂ d₂ true
turn_more t a = record {
  added = added_more t.added a;
  more = λ e. let m = t.more e in (m.0, m.1, m.2, m.3, a.grows m.0 m.1 m.4);
  stood = λ e. clash refl e;
  closed = λ e. clash refl e;
}

-- one turn after the other
pub turn_join : {S T Q : Kind → ℕ → Kind → ℕ → Type 0} {ou od u₀ d₀ u₁ d₁ u₂ d₂ : List ℕ} {a b : Bool} →
    Among S Q → Among T Q → ((s t : Kind) (i j : ℕ) → Q s i t j → S s i t j ⊎ T s i t j) →
    Turn S ou od u₀ d₀ u₁ d₁ a → Turn T ou od u₁ d₁ u₂ d₂ b → Turn Q ou od u₀ d₀ u₂ d₂ (a || b)
turn_join {S} {T} {u₀ = u₀} {d₀ = d₀} {u₁ = u₁} {d₁ = d₁} {u₂ = u₂} {d₂ = d₂} {a = a} {b = b} hs ht by x y = record {
  added = added_more (added_among hs x.added) (added_among ht y.added);
  more = λ e. ⊎_elim
      (λ (p : a ≡ true). let m = x.more p in (m.0, m.1, m.2, m.3, y.added.grows m.0 m.1 m.4))
      (λ (p : b ≡ true).
      let m = y.more p in
      (m.0, m.1, m.2, not_before (lit_of u₀ d₀ m.0 m.1) (lit_of u₁ d₁ m.0 m.1) (x.added.grows m.0 m.1) m.3, m.4))
      (cases a b e);
  stood = λ e. let n = neither a b e in let p = x.stood n.0 in let q = y.stood n.1 in (q.0 ∙ p.0, q.1 ∙ p.1);
  closed = λ e s t i j m l o.
      let n = neither a b e in
      let same = stood_same x n.0 in
      ⊎_elim
      (λ (c : S s i t j). x.closed n.0 s t i j c l o)
      (λ (c : T s i t j). sym (same t j) ∙ y.closed n.1 s t i j c (same s i ∙ l) o)
      (by s t i j m);
}

-- where nothing changed, the set is closed afterwards too
pub turn_closed : {S : Kind → ℕ → Kind → ℕ → Type 0} {ou od u₀ d₀ u d : List ℕ} {r : Bool} → Turn S ou od u₀ d₀ u d r → r ≡ false → Closed S ou od (lit_of u d)
turn_closed x e s t i j m l o = stood_same x e t j ∙ x.closed e s t i j m (sym (stood_same x e s i) ∙ l) o
