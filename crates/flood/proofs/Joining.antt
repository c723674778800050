-- Words joined with the open bits among others, and the steps that this takes. Assumes nothing.
use Prim.Native.Nat.{ℕ, ◌+◌, ◌*◌, ◌-◌, ◌/◌, ◌%◌, ◌^◌, ◌≤◌, ◌<◌}
use mathlib.Core.Path.{◌≡◌, refl, sym, ap, ap₂, subst, ◌∙◌}
use mathlib.Core.Bool.{Bool, true, false, cond, not, ◌&&◌, ◌||◌, or-false}
use mathlib.Core.List.{List}
use mathlib.Core.Logic.{◌⊎◌, inl, inr, ⊎_elim}
use native.Mathlib.Nat.{eq-or-lt_of_le, le_of_suc-le-suc}
use native.Mathlib.Numerals.{add-one}
use native.Mathlib.Omega.{arith}
use borrow.Author.Tests.{eqb-true, eqb-false, eq-eqb, not-true}
use lib.Bits.{bit_and, bit_or, or_lt, and_lt}
use lib.Dec.{eqb}
use lib.ListN.{length, get_or, set}
use lib.Seq.{set-get_or}
use Rattle.refusal.proofs.Tests.{clash, both, parts, left, right, cases}
use Rattle.bitset.specs.Bits.{bit}
use Rattle.bitset.proofs.Laws.{bit_or_lem, bits_same}
use Rattle.cell.specs.declared.Kind.{Kind}
use Rattle.cell.specs.declared.Kind.TheVariants.{Up, Down}
use Rattle.walk.specs.Reach.{any_below}
use Rattle.walk.proofs.Reach.{any_in, any_out}
use Rattle.rows.specs.Rows.{lit, word_count, first_word, cells_end}
use Rattle.rows.proofs.Words.{bit_and_lem, lit_set, lit_at}
use Rattle.rows.specs.Words.{WordOf}
use Rattle.flood.specs.Flood.{lit_of, Closed, Within, Beside, down_here, down_back, down_last, up_here, up_on, up_next}
use Rattle.flood.specs.inside.Turns.{near_down, near_up, Joined, Into, More, Turn}
use Rattle.flood.proofs.Turns.{Among, added_by, turn_join}

-- ---- one word joined

module _ (at near more : ℕ) (opened before : List ℕ) (em : more ≡ get_or opened at 0) where
  -- the word that was there, and the one that is stored
  abbrev last : ℕ
  last = get_or before at 0

  abbrev joined : ℕ
  joined = bit_or last (bit_and more near)

  joined_bits : at < length before → (i : ℕ) →
      lit (set before at joined) i ≡ (lit before i || (eqb (i / 64) at && (lit opened i && bit near (i % 64))))
  unfolding lit
  joined_bits h i = lit_set before at joined i h ∙ go (eqb (i / 64) at) refl
    where
      go : (b : Bool) → eqb (i / 64) at ≡ b → cond b (bit joined (i % 64)) (lit before i) ≡ (lit before i || (b && (lit opened i && bit near (i % 64))))
      go true e =
          bit_or_lem last (bit_and more near) (i % 64)
          ∙ ap (λ (b : Bool). bit last (i % 64) || b) (bit_and_lem more near (i % 64))
          ∙ rw (em, eqb-true (i / 64) at e)
      go false e = sym (or-false (lit before i))

  -- it is what was there
  pub joined_same : at < length before → joined ≡ last → Joined at near opened before before false
  joined_same h e = record {
    bits = λ i. sym (ap (λ (s : List ℕ). lit s i) (ap (set before at) e ∙ set-get_or before at 0)) ∙ joined_bits h i;
    stood = λ e. refl;
    more = λ e. clash e refl;
  }

  -- or a bit is new
  new_bit : last < 2 ^ 64 → joined < 2 ^ 64 → (joined ≡ last → ⊥) → (j : ℕ) × (j < 64) × (bit last j ≡ false) × (bit joined j ≡ true)
  new_bit hl hj n = go (any_below 64 fresh) refl
    where
      fresh : ℕ → Bool
      fresh j = not (bit last j) && bit joined j

      same : (b : Bool) (j : ℕ) → bit last j ≡ b → fresh j ≡ false → bit joined j ≡ b
      same true j p q = bit_or_lem last (bit_and more near) j ∙ rw p
      same false j p q = rw p at q

      go : (b : Bool) → any_below 64 fresh ≡ b → (j : ℕ) × (j < 64) × (bit last j ≡ false) × (bit joined j ≡ true)
      go true e =
          let w = any_out 64 fresh e in
          let p = parts (not (bit last w.0)) (bit joined w.0) w.2 in
          (w.0, w.1, not-true (bit last w.0) p.0, p.1)
      go false e = absurd (n (bits_same 64 joined last hj hl (λ j h. same (bit last j) j refl (none (fresh j) j refl h))))
        where
          none : (b : Bool) (j : ℕ) → fresh j ≡ b → j < 64 → b ≡ false
          none true j p h = clash (any_in 64 fresh j h p) e
          none false j p h = refl

  pub joined_more : at < word_count → length before ≡ word_count → last < 2 ^ 64 → more < 2 ^ 64 → near < 2 ^ 64 → (joined ≡ last → ⊥) →
      Joined at near opened before (set before at joined) true
  joined_more h l hl hm hn n = record {
    bits = joined_bits (omega arith);
    stood = λ e. clash refl e;
    more = λ e.
        let w = new_bit hl (or_lt 64 last (bit_and more near) hl (and_lt 64 more near hm hn)) n in
        let i = 64 * at + w.0 in
        let q : eqb (i / 64) at ≡ true = eq-eqb (i / 64) at (omega (arith, w.1)) in
        let r : i % 64 ≡ w.0 = omega (arith, w.1) in (
          i,
          omega (arith, w.1),
          lit_at before at w.0 w.1 ∙ w.2,
          lit_set before at joined i (omega arith) ∙ rw (q, r) w.3,
        );
  }

  -- and which of them it is, the code tells
  pub joined_told : at < word_count → length before ≡ word_count → last < 2 ^ 64 → more < 2 ^ 64 → near < 2 ^ 64 →
      Joined at near opened before (set before at joined) (not (eqb joined last))
  joined_told h l hl hm hn = go (eqb joined last) refl
    where
      go : (b : Bool) → eqb joined last ≡ b → Joined at near opened before (set before at joined) (not b)
      go true e =
          let q = eqb-true joined last e in
          subst (λ (s : List ℕ). Joined at near opened before s false) (sym (ap (set before at) q ∙ set-get_or before at 0)) (joined_same (omega arith) q)
      go false e = joined_more h l hl hm hn (eqb-false joined last e)

-- ---- the steps that a joined word takes

abbrev is : Kind → Kind → Bool
is Up Up = true
is Up Down = false
is Down Up = false
is Down Down = true

is_self : (v : Kind) → is v v ≡ true
is_self Up = refl
is_self Down = refl

is_same : (v t : Kind) → is v t ≡ true → v ≡ t
is_same Up Up e = refl
is_same Up Down e = clash e refl
is_same Down Up e = clash e refl
is_same Down Down e = refl

-- each step leads to a bit that is near, in one word of one kind of rows, and to each such bit one leads
abbrev To : Kind → (Kind → ℕ → Kind → ℕ → Type 0) → ℕ → ℕ → List ℕ → List ℕ → Type 0
To v S at near u d = (s t : Kind) (i j : ℕ) → S s i t j → lit_of u d s i ≡ true → (t ≡ v) × (j / 64 ≡ at) × (bit near (j % 64) ≡ true)

abbrev From : Kind → (Kind → ℕ → Kind → ℕ → Type 0) → ℕ → ℕ → List ℕ → List ℕ → Type 0
From v S at near u d = (j : ℕ) → j / 64 ≡ at → bit near (j % 64) ≡ true → (s : Kind) × (i : ℕ) × S s i v j × (lit_of u d s i ≡ true)

module _ (v : Kind) (S : Kind → ℕ → Kind → ℕ → Type 0) (at near : ℕ) (ou od u d u' d' : List ℕ) (r : Bool)
    (to : To v S at near u d) (from : From v S at near u d) (stood : r ≡ false → (u' ≡ u) × (d' ≡ d)) (more : r ≡ true → More u d u' d') where
  abbrev new : Kind → ℕ → Bool
  new t i = is v t && (eqb (i / 64) at && (lit_of ou od t i && bit near (i % 64)))

  turn_joined : ((t : Kind) (i : ℕ) → lit_of u' d' t i ≡ (lit_of u d t i || new t i)) → Turn S ou od u d u' d' r
  turn_joined bits = record {
    added = added_by new bits (λ t i n.
        let p = parts (is v t) _ n in
        let q = parts (eqb (i / 64) at) _ p.1 in
        let o = parts (lit_of ou od t i) (bit near (i % 64)) q.1 in
        let w = from i (eqb-true (i / 64) at q.0) o.1 in
        (o.0, (w.0, w.1, subst (λ (x : Kind). S w.0 w.1 x i) (is_same v t p.0) w.2, w.3)));
    more = more;
    stood = stood;
    closed = λ e s t i j m l o.
        let w = to s t i j m l in
        let k = subst (λ (x : Kind). is v x ≡ true) (sym w.0) (is_self v) in
        let n = both (is v t) _ k (both (eqb (j / 64) at) _ (eq-eqb (j / 64) at w.1) (both (lit_of ou od t j) (bit near (j % 64)) o w.2)) in
        let p = stood e in
        sym (ap₂ (λ (g h : List ℕ). lit_of g h t j) p.0 p.1) ∙ bits t j ∙ right (lit_of u d t j) (new t j) n;
  }

-- in the rows of up cells, and in those of down cells
pub turn_up : (S : Kind → ℕ → Kind → ℕ → Type 0) {at near : ℕ} {ou u u' : List ℕ} {r : Bool} (od d : List ℕ) →
    To Up S at near u d → From Up S at near u d → Joined at near ou u u' r → Turn S ou od u d u' d r
turn_up S {at} {near} {ou} {u} {u'} {r} od d to from g = turn_joined Up S at near ou od u d u' d r to from
    (λ e. (g.stood e, refl))
    (λ e. let m = g.more e in (Up, m.0, m.1, m.2, m.3))
    bits
  where
    bits : (t : Kind) (i : ℕ) → lit_of u' d t i ≡ (lit_of u d t i || (is Up t && (eqb (i / 64) at && (lit_of ou od t i && bit near (i % 64)))))
    bits Up i = g.bits i
    bits Down i = sym (or-false (lit d i))

turn_down : (S : Kind → ℕ → Kind → ℕ → Type 0) {at near : ℕ} {od d d' : List ℕ} {r : Bool} (ou u : List ℕ) →
    To Down S at near u d → From Down S at near u d → Joined at near od d d' r → Turn S ou od u d u d' r
turn_down S {at} {near} {od} {d} {d'} {r} ou u to from g = turn_joined Down S at near ou od u d u d' r to from
    (λ e. (refl, g.stood e))
    (λ e. let m = g.more e in (Down, m.0, m.1, m.2, m.3))
    bits
  where
    bits : (t : Kind) (i : ℕ) → lit_of u d' t i ≡ (lit_of u d t i || (is Down t && (eqb (i / 64) at && (lit_of ou od t i && bit near (i % 64)))))
    bits Up i = sym (or-false (lit u i))
    bits Down i = g.bits i

-- ---- steps inside an octant

-- the bit of a spot in its word
near_bit : {near at j : ℕ} {P : ℕ → Bool} → WordOf near P at → j / 64 ≡ at → bit near (j % 64) ≡ P j
near_bit {at = at} {j = j} {P = P} f e =
    let q : 64 * at + j % 64 ≡ j = omega arith in
    f.bits (j % 64) (omega arith) ∙ ap P q

-- the steps into one word that lead to cells of one kind
abbrev IntoOf : Kind → ℕ → Kind → ℕ → Kind → ℕ → Type 0
IntoOf v at s i t j = Into at s i t j × (t ≡ v)

never : {A : Type 0} → Up ≡ Down → A
never e = let z : ◌≡◌ {A = ℕ} 0 1 = cc in absurd (omega arith)

module _ (u d : List ℕ) where
  down_into : {s t : Kind} {i j : ℕ} → Beside s i t j → t ≡ Down → lit_of u d s i ≡ true → near_down (lit u) j ≡ true
  unfolding near_down
  down_into {j = j} (down_here e) q p = left (lit u j) _ (ap (lit u) (sym e) ∙ p)
  down_into {j = j} (down_back e) q p = right (lit u j) _ (right (lit u (j + 320)) (lit u (j + 1)) (ap (lit u) (sym e) ∙ p))
  down_into {j = j} (down_last e) q p = right (lit u j) _ (left (lit u (j + 320)) (lit u (j + 1)) (ap (lit u) (sym e) ∙ p))
  down_into (up_here e) q p = never q
  down_into (up_on e) q p = never q
  down_into (up_next e) q p = never q

  down_from_lem : (j : ℕ) → near_down (lit u) j ≡ true → (s : Kind) × (i : ℕ) × Beside s i Down j × (lit_of u d s i ≡ true)
  unfolding near_down
  down_from_lem j p = ⊎_elim
      (λ (q : lit u j ≡ true). (Up, j, down_here refl, q))
      (λ (q : (lit u (j + 320) || lit u (j + 1)) ≡ true). ⊎_elim
      (λ (r : lit u (j + 320) ≡ true). (Up, j + 320, down_last refl, r))
      (λ (r : lit u (j + 1) ≡ true). (Up, j + 1, down_back refl, r))
      (cases (lit u (j + 320)) (lit u (j + 1)) q))
      (cases (lit u j) (lit u (j + 320) || lit u (j + 1)) p)

  up_into : {s t : Kind} {i j : ℕ} → Beside s i t j → t ≡ Up → lit_of u d s i ≡ true → near_up (lit d) j ≡ true
  unfolding near_up
  up_into (down_here e) q p = never (sym q)
  up_into (down_back e) q p = never (sym q)
  up_into (down_last e) q p = never (sym q)
  up_into {j = j} (up_here e) q p = left (lit d j) _ (ap (lit d) e ∙ p)
  up_into {i = i} {j = j} (up_on e) q p =
      let k : j - 1 ≡ i = omega arith in
      right (lit d j) _ (right (lit d (j - 320)) (lit d (j - 1)) (ap (lit d) k ∙ p))
  up_into {i = i} {j = j} (up_next e) q p =
      let k : j - 320 ≡ i = omega arith in
      right (lit d j) _ (left (lit d (j - 320)) (lit d (j - 1)) (ap (lit d) k ∙ p))

  up_from : (j : ℕ) → 320 ≤ j → near_up (lit d) j ≡ true → (s : Kind) × (i : ℕ) × Beside s i Up j × (lit_of u d s i ≡ true)
  unfolding near_up
  up_from j h p = ⊎_elim
      (λ (q : lit d j ≡ true). (Down, j, up_here refl, q))
      (λ (q : (lit d (j - 320) || lit d (j - 1)) ≡ true). ⊎_elim
      (λ (r : lit d (j - 320) ≡ true). (Down, j - 320, up_next (omega arith), r))
      (λ (r : lit d (j - 1) ≡ true). (Down, j - 1, up_on (omega arith), r))
      (cases (lit d (j - 320)) (lit d (j - 1)) q))
      (cases (lit d j) (lit d (j - 320) || lit d (j - 1)) p)

-- the down cells of a word, and the up cells
turn_downs : {at near : ℕ} {ou od u d d' : List ℕ} {r : Bool} →
    WordOf near (near_down (lit u)) at → Joined at near od d d' r → Turn (IntoOf Down at) ou od u d u d' r
turn_downs {at} {ou = ou} {u = u} {d = d} f = turn_down (IntoOf Down at) ou u
    (λ s t i j m p. (m.1, m.0.1, near_bit f m.0.1 ∙ down_into u d m.0.0 m.1 p))
    (λ j e p. let w = down_from_lem u d j (sym (near_bit f e) ∙ p) in (w.0, w.1, ((w.2, e), refl), w.3))

turn_ups : {at near : ℕ} {ou od u d u' : List ℕ} {r : Bool} → first_word ≤ at →
    WordOf near (near_up (lit d)) at → Joined at near ou u u' r → Turn (IntoOf Up at) ou od u d u' d r
turn_ups {at} {od = od} {u = u} {d = d} h f = turn_up (IntoOf Up at) od d
    (λ s t i j m p. (m.1, m.0.1, near_bit f m.0.1 ∙ up_into u d m.0.0 m.1 p))
    (λ j e p. let w = up_from u d j (omega arith) (sym (near_bit f e) ∙ p) in (w.0, w.1, ((w.2, e), refl), w.3))

-- and both
pub turn_word : {at nd nu : ℕ} {ou od u d u' d' : List ℕ} {a b : Bool} → first_word ≤ at →
    WordOf nd (near_down (lit u)) at → Joined at nd od d d' a → WordOf nu (near_up (lit d')) at → Joined at nu ou u u' b →
    Turn (Into at) ou od u d u' d' (a || b)
turn_word {at} h x f y g = turn_join (λ s t i j m. m.0) (λ s t i j m. m.0) (λ s t i j m. by t m) (turn_downs x f) (turn_ups h y g)
  where
    by : {s : Kind} {i j : ℕ} (t : Kind) → Into at s i t j → IntoOf Down at s i t j ⊎ IntoOf Up at s i t j
    by Up m = inr (m, refl)
    by Down m = inl (m, refl)

-- where all open cells of a word are reached, nothing more is
pub full_closed : (at : ℕ) (ou od u d : List ℕ) → get_or u at 0 ≡ get_or ou at 0 → get_or d at 0 ≡ get_or od at 0 → Closed (Into at) ou od (lit_of u d)
unfolding lit
full_closed at ou od u d eu ed s t i j m p = go t m.1
  where
    go : (t : Kind) → j / 64 ≡ at → lit_of ou od t j ≡ true → lit_of u d t j ≡ true
    go Up e o = rw (e, eu) (rw e at o)
    go Down e o = rw (e, ed) (rw e at o)

-- one word after the other
pub turn_words : {at : ℕ} {ou od u₀ d₀ u₁ d₁ u₂ d₂ : List ℕ} {a b : Bool} → first_word ≤ at →
    Turn (Within at) ou od u₀ d₀ u₁ d₁ a → Turn (Into at) ou od u₁ d₁ u₂ d₂ b → Turn (Within (at + 1)) ou od u₀ d₀ u₂ d₂ (a || b)
turn_words {at} h = turn_join
    (λ s t i j m. (m.0, m.1, omega (arith, m.2)))
    (λ s t i j m. (m.0, omega (arith, m.1), omega (arith, m.1)))
    (λ s t i j m. ⊎_elim
    (λ (e : j / 64 ≡ at). inr (m.0, e))
    (λ (l : j / 64 < at). inl (m.0, m.1, l))
    (eq-or-lt_of_le (le_of_suc-le-suc (rw add-one at m.2))))

pub into_within : (at : ℕ) → first_word ≤ at → at < cells_end → Among (Into at) (Within cells_end)
into_within at h l s t i j m = (m.0, omega (arith, m.1), omega (arith, m.1))
