-- Demand 3: growing and shrinking by touching steps, lists of growings, joining and within. Its terms are those of docs/RULES.md, 5 and 6.
use Rattle.std.specs.Prelude.{ℕ, ◌+◌, ◌^◌, ◌≤◌, ◌<◌, ◌≡◌, Bool, true, false, ◌&&◌, List, [], ◌∷◌, ◌⊎◌, ◌↔◌, ltb, length}
use Rattle.refusal.specs.Answer.{Answer, given, refused, done}
use Rattle.bitset.specs.Bits.{Bytes, marked}
use Rattle.cell.specs.Cell.{cells}
use Rattle.corner.specs.Corner.{touches}
use Rattle.walk.specs.Walk.{Walk}
use Rattle.mask.specs.Mask.{max_mask_level, join_call, Inclusion, within, lacks, within_call}
use Rattle.grow.specs.Grow.{max_rings, grow_call, shrink_call}

-- ---- touching steps

-- a touching step leads to a cell of the level
unfoldable pub touching_step : ℕ → ℕ → ℕ → Bool
touching_step k c d = touches k c d && ltb d (cells k)

-- a chain of no more than m + 1 cells of level k leads from c to d, in which every cell touches the next
abbrev pub AtMostSteps : ℕ → ℕ → ℕ → ℕ → Type 0
AtMostSteps k m c d = Walk (touching_step k) m c d

-- some cell that a mask marks is within m touching steps of c
abbrev pub NearMarked : ℕ → ℕ → List ℕ → ℕ → Type 0
NearMarked k m a c = (d : ℕ) × (d < cells k) × (marked a d ≡ true) × AtMostSteps k m c d

-- ---- lists of growings

-- a slice has the length of a mask of level k, 4^k; a mask is such a slice of bytes
abbrev pub Fits : ℕ → List ℕ → Type 0
Fits k a = length a ≡ 4 ^ k

abbrev pub Mask : ℕ → List ℕ → Type 0
Mask k a = Fits k a × Bytes a

-- a call that is lent slices, and was not refused
abbrev pub Accepted : {S : Type 0} → Answer (Unit {0}) × S → Type 0
Accepted result = result.0 ≡ given done

-- the mask that a growing or shrinking writes
abbrev pub written : Answer (Unit {0}) × (List ℕ × List ℕ) → List ℕ
written result = result.1.0

-- one growing of a list: its level, its rings, and the slices lent to write and to work in; nothing is asked of any of them
pub record Growing : Type 0 where
  pub level : ℕ
  pub rings : ℕ
  pub lent : List ℕ
  pub working : List ℕ

-- what it answers and leaves when it reads a mask
abbrev pub growing : Growing → List ℕ → Answer (Unit {0}) × (List ℕ × List ℕ)
growing g a = grow_call g.level g.rings a g.lent g.working

-- the mask that the next one reads: the one written, or, where the growing was refused, the one that was there
unfoldable pub mask_after : Answer (Unit {0}) → List ℕ → List ℕ → List ℕ
mask_after (given v) new old = new
mask_after (refused n) new old = old

-- what a growing adds to the sum of ring counts: nothing where it was refused
unfoldable pub rings_added : Answer (Unit {0}) → ℕ → ℕ
rings_added (given v) m = m
rings_added (refused n) m = 0

-- the mask after one growing, and after a list of them
abbrev pub after_one : Growing → List ℕ → List ℕ
after_one g a = mask_after (growing g a).0 (written (growing g a)) a

unfoldable pub after : List Growing → List ℕ → List ℕ
after [] a = a
after (g ∷ gs) a = after gs (after_one g a)

-- the sum of the accepted ring counts; it may pass 64
unfoldable pub rings_of : List Growing → List ℕ → ℕ
rings_of [] a = 0
rings_of (g ∷ gs) a = rings_added (growing g a).0 g.rings + rings_of gs (after_one g a)

-- ---- what is accepted

pub record Accepts : Type 0 where
  -- growing and shrinking at every level to 8, by every ring count to 64, where the three slices have a mask's length
  pub grow : (k m : ℕ) (a out work : List ℕ) → k ≤ max_mask_level → m ≤ max_rings → Fits k a → Fits k out → Fits k work →
      Accepted (grow_call k m a out work)
  pub shrink : (k m : ℕ) (a out work : List ℕ) → k ≤ max_mask_level → m ≤ max_rings → Fits k a → Fits k out → Fits k work →
      Accepted (shrink_call k m a out work)
  -- joining, and within, where the slices have a mask's length
  pub join : (k : ℕ) (a b out : List ℕ) → k ≤ max_mask_level → Fits k a → Fits k b → Fits k out → Accepted (join_call k a b out)
  pub answers_within : (k : ℕ) (a b : List ℕ) → k ≤ max_mask_level → Fits k a → Fits k b → (i : Inclusion) × (within_call k a b ≡ given i)

-- ---- the demand

pub record Demand3 : Type 0 where
  -- what docs/RULES.md, 9, does not refuse is accepted
  pub accepts : Accepts
  -- a cell is marked in A and B joined exactly when A marks it or B does
  pub joins : (k : ℕ) (a b out : List ℕ) → Accepted (join_call k a b out) →
      (c : ℕ) → c < cells k → (marked (join_call k a b out).1 c ≡ true) ↔ ((marked a c ≡ true) ⊎ (marked b c ≡ true))
  -- A is answered within B exactly when every cell marked in A is marked in B
  pub within_yes : (k : ℕ) (a b : List ℕ) → k ≤ max_mask_level → Fits k a → Fits k b →
      (within_call k a b ≡ given within) ↔ ((c : ℕ) → c < cells k → marked a c ≡ true → marked b c ≡ true)
  -- and c is answered exactly when it is the lowest cell marked in A and not in B
  pub within_lacks : (k : ℕ) (a b : List ℕ) → k ≤ max_mask_level → Fits k a → Fits k b → (c : ℕ) →
      (within_call k a b ≡ given (lacks c)) ↔
      ((c < cells k) × (marked a c ≡ true) × (marked b c ≡ false) × ((d : ℕ) → d < c → marked a d ≡ true → marked b d ≡ true))
  -- a cell is marked in A grown by m exactly when a cell that A marks is within m touching steps of it
  pub grown : (k m : ℕ) (a out work : List ℕ) → Accepted (grow_call k m a out work) →
      (c : ℕ) → c < cells k → (marked (written (grow_call k m a out work)) c ≡ true) ↔ NearMarked k m a c
  -- a cell is marked in A shrunk by m exactly when A marks every cell within m touching steps of it
  pub shrunk : (k m : ℕ) (a out work : List ℕ) → Accepted (shrink_call k m a out work) →
      (c : ℕ) → c < cells k →
      (marked (written (shrink_call k m a out work)) c ≡ true) ↔ ((d : ℕ) → d < cells k → AtMostSteps k m c d → marked a d ≡ true)
  -- a cell is marked after a list of growings exactly when a cell that A marks is within s touching steps of it, s being the sum of the rings accepted
  pub list : (k : ℕ) (a : List ℕ) → Mask k a → (gs : List Growing) →
      (c : ℕ) → c < cells k → (marked (after gs a) c ≡ true) ↔ NearMarked k (rings_of gs a) a c
  -- where s is at most 64, its bytes are those of A grown once by s
  pub list_once : (k : ℕ) (a : List ℕ) → k ≤ max_mask_level → Mask k a → (gs : List Growing) → rings_of gs a ≤ max_rings →
      (out work : List ℕ) → Fits k out → Fits k work → after gs a ≡ written (grow_call k (rings_of gs a) a out work)
  -- no growing changes nothing and adds no rings
  pub list_empty : (a : List ℕ) → (after [] a ≡ a) × (rings_of [] a ≡ 0)
  -- A and B joined and then grown by m have the bytes of A and B each grown by m and then joined, whatever slices are lent
  pub joined : (k m : ℕ) (a b j o w o₁ w₁ o₂ w₂ j' : List ℕ) →
      let both = (join_call k a b j).1 in
      let A = grow_call k m a o₁ w₁ in
      let B = grow_call k m b o₂ w₂ in
      Accepted (join_call k a b j) → Accepted (grow_call k m both o w) →
      Accepted A → Accepted B → Accepted (join_call k (written A) (written B) j') →
      written (grow_call k m both o w) ≡ (join_call k (written A) (written B) j').1
  -- A grown by m is answered within B exactly when A is answered within B shrunk by m
  pub grown_within : (k m : ℕ) (a b o w o' w' : List ℕ) →
      Accepted (grow_call k m a o w) → Accepted (shrink_call k m b o' w') →
      (within_call k (written (grow_call k m a o w)) b ≡ given within) ↔ (within_call k a (written (shrink_call k m b o' w')) ≡ given within)
  -- growing by 0 is A
  pub zero_rings : (k : ℕ) (a out work : List ℕ) → Mask k a → Accepted (grow_call k 0 a out work) → written (grow_call k 0 a out work) ≡ a
  -- growing only adds
  pub only_adds : (k m : ℕ) (a out work : List ℕ) → Accepted (grow_call k m a out work) →
      (c : ℕ) → c < cells k → marked a c ≡ true → marked (written (grow_call k m a out work)) c ≡ true
  -- steps count the same both ways
  pub both_ways : (k m c d : ℕ) → c < cells k → d < cells k → AtMostSteps k m c d ↔ AtMostSteps k m d c
  -- with no step a cell reaches itself and no other
  pub itself : (k c d : ℕ) → AtMostSteps k 0 c d ↔ (c ≡ d)
