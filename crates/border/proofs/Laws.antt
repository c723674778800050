-- The laws of stored borders: what was written is read, and the bytes that are accepted are exactly those that are written. Assumes nothing.
use Prim.Native.Nat.{ℕ, ◌+◌, ◌-◌, ◌^◌, ◌≤◌, ◌<◌}
use mathlib.Core.Bool.{Bool, true, false}
use mathlib.Core.List.{List, [], ◌∷◌, ◌++◌, append_assoc}
use mathlib.Core.Logic.{inl, inr}
use mathlib.Core.Option.{Option, some}
use mathlib.Core.Path.{◌≡◌, refl, sym, ap, ap₂, subst, ◌∙◌}
use native.Mathlib.Nat.{pow-le-pow_right}
use native.Mathlib.Omega.{arith}
use borrow.Author.Tests.{le-ltb, lt-ltb, ltb-false, lt-leb, leb-true, leb-false, ne_eqb, eqb-false}
use lib.Dec.{leb}
use lib.ListN.{length, take, drop, get_or, length-append, length-drop, take-append-drop}
use lib.Seq.{length-take-le, take_all, drop-cons, drop-drop, drop_at, get_or-drop, take-append_seam}
use Rattle.refusal.specs.Answer.{Answer, given, refused, Test, ◌when◌, in_order, First}
use Rattle.refusal.specs.Tests.{bad_level}
use Rattle.refusal.proofs.Answers.{Passed, passed, gives, refuses, given_same, same_refusal, passed_on, lent_given, lent_refused}
use Rattle.refusal.proofs.Tests.{clash, left}
use Rattle.varint.specs.Varint.{numeral, read_call, Exactly}
use Rattle.varint.proofs.Laws as numbers
use Rattle.cell.specs.Cell.{cells, max_level, bad_cell}
use Rattle.code.specs.Step.{missing, found_or}
use Rattle.code.proofs.Calls.{is_found}
use Rattle.border.specs.Stored.{value_of, code_bytes, packed, unpacked, stored, walked, codes_between}
use Rattle.border.specs.Border.{max_codes, bad_count, value, after, bad_number, level_read, start_read, count_read}
use Rattle.border.specs.Border.{Header, header, header_tests, code_tests, read_tests}
use Rattle.border.specs.Border.{cells_of, cells_read, read_border, any_from, codes_of, border_bytes, write_tests, write_border}
use Rattle.border.proofs.Digits.{length_digits}
use Rattle.border.proofs.Bits.{length_packed, packed_padded, unpacked_packed, packed_unpacked}
use Rattle.border.proofs.Walks.{walks_agree, walked_first, walked_length, walked_cells, codes_below}

-- ---- the bytes of a border

length_stored : (k start : ℕ) (codes : List ℕ) →
    length (stored k start codes) ≡ length (numeral k) + length (numeral start) + length (numeral (length codes)) + code_bytes (length codes)
length_stored k start codes = simp (length-append, length_packed) (omega arith)

-- level 1 byte, start cell at most 5, number of codes at most 2, codes at most 1,536
pub stored_length : (k start : ℕ) (codes : List ℕ) → k ≤ max_level → start < cells k → length codes ≤ max_codes → length (stored k start codes) ≤ 1544
stored_length k start codes h l m =
    omega (
      arith,
      length_stored k start codes,
      numbers.numeral_within 0 k (omega arith),
      (numbers.numeral_length start).1,
      numbers.numeral_within 1 (length codes) (omega arith),
    )

-- a border of one cell has no codes
pub no_codes : (k m : ℕ) → codes_of k (m ∷ []) ≡ some []
unfolding codes_between
no_codes k m = refl

-- ---- what is read

-- bytes begin with level k, start cell and number n of codes, each within its bound, and the codes begin at a place
pub record Begins (bs : List ℕ) (k start n at : ℕ) : Type 0 where
  pub after_level : ℕ
  pub after_start : ℕ
  pub level : level_read bs ≡ given (k, after_level)
  pub cell : start_read bs ≡ given (start, after_start)
  pub count : count_read bs ≡ given (n, at)
  pub low : k ≤ max_level
  pub below : start < cells k
  pub few : n ≤ max_codes

-- the tests of the three numbers, by what is read of each
abbrev tests_of : Answer (ℕ × ℕ) → Answer (ℕ × ℕ) → Answer (ℕ × ℕ) → List Test
tests_of l s c =
    bad_number l ∷ bad_level max_level (value l) ∷ bad_number s ∷ bad_cell (value l) (value s) ∷ bad_number c ∷ bad_count (value c) ∷ []

abbrev answer_of : Answer (ℕ × ℕ) → Answer (ℕ × ℕ) → Answer (ℕ × ℕ) → Answer Header
answer_of l s c = in_order (tests_of l s c) (value l, value s, value c, after c)

module _ (bs : List ℕ) (k start n at : ℕ) (b : Begins bs k start n at) where
  pub begins_header : header bs ≡ (k, start, n, at)
  begins_header = rw (b.level, b.cell, b.count)

  pub begins_passed : Passed (header_tests bs)
  begins_passed =
      let e : header_tests bs ≡ tests_of (given (k, b.after_level)) (given (start, b.after_start)) (given (n, at)) =
      ap₂ (λ l s. tests_of l s (count_read bs)) b.level b.cell ∙ ap (tests_of (given (k, b.after_level)) (given (start, b.after_start))) b.count in
      subst Passed (sym e)
      (refl, (le-ltb max_level k b.low, (refl, (lt-leb (cells k) start b.below, (refl, (le-ltb max_codes n b.few, tt))))))

-- the three numbers, each read from where the one before ends
numbers_read : (bs : List ℕ) (k start n at : ℕ) (b : Begins bs k start n at) →
    (read_call bs 0 ≡ given (k, b.after_level)) × (read_call bs b.after_level ≡ given (start, b.after_start))
    × (read_call bs b.after_start ≡ given (n, at))
unfolding level_read start_read count_read
numbers_read bs k start n at b = (
  b.level,
  ap (λ a. read_call bs (after a)) (sym b.level) ∙ b.cell,
  ap (λ a. read_call bs (after a)) (sym b.cell) ∙ b.count,
)

-- a number of three that is there
number_passed : (a : Answer (ℕ × ℕ)) (ts : List Test) → Passed (bad_number a ∷ ts) → (v : ℕ) × (next : ℕ) × (a ≡ given (v, next)) × Passed ts
number_passed (given (v, next)) ts p = (v, next, refl, p.1)
number_passed (refused n) ts p = clash refl p.0

pub begins : (bs : List ℕ) → Passed (header_tests bs) → (k : ℕ) × (start : ℕ) × (n : ℕ) × (at : ℕ) × Begins bs k start n at
begins bs p =
    let l = number_passed (level_read bs) (drop 1 (header_tests bs)) p in
    let s = number_passed (start_read bs) (drop 3 (header_tests bs)) l.3.1 in
    let c = number_passed (count_read bs) (drop 5 (header_tests bs)) s.3.1 in (
      l.0,
      s.0,
      c.0,
      c.1,
      record {
        after_level = l.1;
        after_start = s.1;
        level = l.2;
        cell = s.2;
        count = c.2;
        low = omega (arith, ap value l.2, ltb-false max_level (value (level_read bs)) l.3.0);
        below =
            omega (
              arith,
              ap (λ (a : Answer (ℕ × ℕ)). cells (value a)) l.2,
              ap value s.2,
              leb-false (cells (value (level_read bs))) (value (start_read bs)) s.3.0,
            );
        few = omega (arith, ap value c.2, ltb-false max_codes (value (count_read bs)) c.3.0);
      },
    )

-- what is known of bytes that are read into a slice with room for some cells
pub record Reads (bs : List ℕ) (room : ℕ) : Type 0 where
  pub k : ℕ
  pub start : ℕ
  pub n : ℕ
  pub at : ℕ
  pub cs : List ℕ
  pub beginning : Begins bs k start n at
  pub whole : length bs ≡ at + code_bytes n
  pub zeros : value_of 256 (drop at bs) < 8 ^ n
  pub fits : n < room
  pub walk : walked k start (unpacked n (drop at bs)) ≡ some cs

-- tests that were passed one after another
passed_both : (ts us : List Test) → Passed (ts ++ us) → Passed ts × Passed us
passed_both [] us p = (tt, p)
passed_both ((n when b) ∷ ts) us p = let r = passed_both ts us p.1 in ((p.0, r.0), r.1)

both_passed : (ts us : List Test) → Passed ts → Passed us → Passed (ts ++ us)
both_passed [] us p q = q
both_passed ((n when b) ∷ ts) us p q = (p.0, both_passed ts us p.1 q)

pub reads_accepted : (bs out : List ℕ) (a : ℕ × ℕ) → (read_border bs out).0 ≡ given a → Reads bs (length out)
reads_accepted bs out a e =
    let p = passed (read_tests bs (length out)) _ a (sym e) in
    let q = passed_both (header_tests bs) (code_tests bs (length out) (header bs)) p.0 in
    let b = begins bs q.0 in
    let t = subst (λ (h : Header). Passed (code_tests bs (length out) h)) (begins_header bs b.0 b.1 b.2 b.3 b.4) q.1 in
    let short = ltb-false (length bs) (b.3 + code_bytes b.2) t.0 in
    let long = ltb-false (b.3 + code_bytes b.2) (length bs) t.1.0 in
    let w = is_found (cells_of bs (b.0, b.1, b.2, b.3)) t.1.1.1.1.0 in
    record {
      k = b.0;
      start = b.1;
      n = b.2;
      at = b.3;
      cs = w.0;
      beginning = b.4;
      whole = omega arith;
      zeros = leb-false (8 ^ b.2) (value_of 256 (drop b.3 bs)) t.1.1.0;
      fits = omega (arith, leb-false (length out) _ t.1.1.1.0);
      walk = w.1;
    }

pub reads_given : (bs out : List ℕ) (r : Reads bs (length out)) →
    read_border bs out ≡ (given (r.k, length r.cs), r.cs ++ drop (length r.cs) out)
reads_given bs out r =
    let e = begins_header bs r.k r.start r.n r.at r.beginning in
    let level : (header bs).0 ≡ r.k = ap (λ (h : Header). h.0) e in
    let found : cells_read bs ≡ r.cs = ap (found_or []) (ap (cells_of bs) e ∙ r.walk) in
    let codes =
    subst (λ (h : Header). Passed (code_tests bs (length out) h)) (sym e) (
      le-ltb (length bs) (r.at + code_bytes r.n) (omega (arith, r.whole)),
      (
        le-ltb (r.at + code_bytes r.n) (length bs) (omega (arith, r.whole)),
        (
          lt-leb (8 ^ r.n) (value_of 256 (drop r.at bs)) r.zeros,
          (lt-leb (length out) r.n r.fits, (ap missing r.walk, tt)),
        ),
      ),
    ) in
    let all = both_passed (header_tests bs) (code_tests bs (length out) (header bs)) (begins_passed bs r.k r.start r.n r.at r.beginning) codes in
    sym (lent_given _ out _ _ (gives (read_tests bs (length out)) _ all))
    ∙ ap₂ (λ (i : ℕ) (l : List ℕ). (given (i, length l), l ++ drop (length l) out)) level found

-- ---- what is written

-- what is known of cells that are written into a slice with room for some bytes
pub record Writes (k : ℕ) (cs : List ℕ) (room : ℕ) (codes : List ℕ) : Type 0 where
  pub low : k ≤ max_level
  pub some_cells : 1 ≤ length cs
  pub few : length cs - 1 ≤ max_codes
  pub below : any_from (cells k) cs ≡ false
  pub joined : codes_of k cs ≡ some codes
  pub fits : length (stored k (get_or cs 0 0) codes) ≤ room

pub writes_accepted : (k : ℕ) (cs out : List ℕ) (n : ℕ) → (write_border k cs out).0 ≡ given n → (codes : List ℕ) × Writes k cs (length out) codes
writes_accepted k cs out n e =
    let p = (passed (write_tests k cs (length out)) (length (border_bytes k cs)) n (sym e)).0 in
    let w = is_found (codes_of k cs) p.1.1.1.1.0 in (
      w.0,
      record {
        low = ltb-false max_level k p.0;
        some_cells = positive (length cs) (eqb-false (length cs) 0 p.1.0);
        few = ltb-false max_codes (length cs - 1) p.1.1.0;
        below = p.1.1.1.0;
        joined = w.1;
        fits =
            omega (
              arith,
              ltb-false (length out) (length (border_bytes k cs)) p.1.1.1.1.1.0,
              ap (λ (o : Option (List ℕ)). length (stored k (get_or cs 0 0) (found_or [] o))) w.1,
            );
      },
    )
  where
    positive : (m : ℕ) → (m ≡ 0 → ⊥) → 1 ≤ m
    positive m h = omega arith

pub writes_given : (k : ℕ) (cs out codes : List ℕ) → Writes k cs (length out) codes →
    let b = stored k (get_or cs 0 0) codes in
    write_border k cs out ≡ (given (length b), b ++ drop (length b) out)
writes_given k cs out codes w =
    let e : border_bytes k cs ≡ stored k (get_or cs 0 0) codes = ap (λ (o : Option (List ℕ)). stored k (get_or cs 0 0) (found_or [] o)) w.joined in
    let all : Passed (write_tests k cs (length out)) = (
      le-ltb max_level k w.low,
      (
        ne_eqb (length cs) 0 (λ z. omega (arith, w.some_cells)),
        (
          le-ltb max_codes (length cs - 1) w.few,
          (w.below, (ap missing w.joined, (le-ltb (length out) (length (border_bytes k cs)) (rw (ap length e) w.fits), tt))),
        ),
      ),
    ) in
    sym (lent_given _ out (border_bytes k cs ++ drop (length (border_bytes k cs)) out) _ (gives (write_tests k cs (length out)) (length (border_bytes k cs)) all))
    ∙ ap (λ (b : List ℕ). (given (length b), b ++ drop (length b) out)) e

-- the first cell is one of the level
first_below : (bound m : ℕ) (ns : List ℕ) → any_from bound (m ∷ ns) ≡ false → m < bound
unfolding any_from
first_below bound m ns e = go (leb bound m) refl
  where
    go : (t : Bool) → leb bound m ≡ t → m < bound
    go true h = clash (left (leb bound m) (any_from bound ns) h) e
    go false h = leb-false bound m h

-- cell numbers are below 2^32
cell_number : (k n : ℕ) → k ≤ max_level → n < cells k → n < 2 ^ 32
cell_number k n h l = omega (arith, pow-le-pow_right {n = 4} (omega arith) {i = k} {j = 14} h)

-- ---- what was written is read

-- the bytes of a border begin with its level, its start cell and its number of codes, and then have its codes
module _ (k start : ℕ) (codes : List ℕ) (h : k ≤ max_level) (l : start < cells k) (m : length codes ≤ max_codes) where
  place : ℕ
  place = 0 + length (numeral k) + length (numeral start) + length (numeral (length codes))

  stored_begins : Begins (stored k start codes) k start (length codes) place
  unfolding level_read start_read count_read place
  stored_begins =
      let n = length codes in
      let p1 = 0 + length (numeral k) in
      let p2 = p1 + length (numeral start) in
      let e1 = numbers.read_written k 0 [] (numeral start ++ (numeral n ++ packed codes)) (omega arith) refl in
      let e2 = numbers.read_written start p1 (numeral k) (numeral n ++ packed codes) (cell_number k start h l) (omega arith) in
      let e3 =
      numbers.read_written n p2 (numeral k ++ numeral start) (packed codes) (omega arith) (omega (arith, length-append (numeral k) (numeral start))) in
      let s : (numeral k ++ numeral start) ++ (numeral n ++ packed codes) ≡ stored k start codes =
      append_assoc (numeral k) (numeral start) (numeral n ++ packed codes) in
      let c1 : level_read (stored k start codes) ≡ given (k, p1) = e1 in
      let c2 : start_read (stored k start codes) ≡ given (start, p2) = ap (λ a. read_call (stored k start codes) (after a)) c1 ∙ e2 in
      let c3 : count_read (stored k start codes) ≡ given (n, place) =
      ap (λ a. read_call (stored k start codes) (after a)) c2 ∙ ap (λ (bs : List ℕ). read_call bs p2) (sym s) ∙ e3 in
      record {
        after_level = p1;
        after_start = p2;
        level = c1;
        cell = c2;
        count = c3;
        low = h;
        below = l;
        few = m;
      }

  stored_codes : drop place (stored k start codes) ≡ packed codes
  unfolding place
  stored_codes =
      let front = numeral k ++ numeral start ++ numeral (length codes) in
      let e : front ++ packed codes ≡ stored k start codes = simp append_assoc in
      ap (drop place) (sym e) ∙ drop_at front (packed codes) place (simp length-append (omega arith))

  stored_whole : length (stored k start codes) ≡ place + code_bytes (length codes)
  unfolding place
  stored_whole = omega (arith, length_stored k start codes)

-- what is written begins with a cell of the level, and has no more codes than a border may have
written_bounds : (k : ℕ) (cs : List ℕ) (room : ℕ) (codes : List ℕ) → Writes k cs room codes → (get_or cs 0 0 < cells k) × (length codes ≤ max_codes)
written_bounds k cs room codes w =
    let m = get_or cs 0 0 in
    let ns = drop 1 cs in
    let split : cs ≡ m ∷ ns = drop-cons cs 0 0 w.some_cells in
    let counted = walked_length k m codes (m ∷ ns) ((walks_agree k m codes ns).1 w.joined) in
    (first_below (cells k) m ns (subst (λ (s : List ℕ). any_from (cells k) s ≡ false) split w.below), omega (arith, ap length split, w.few))

-- the length that is answered is that of the bytes
answered : (k : ℕ) (cs out : List ℕ) (n : ℕ) (codes : List ℕ) → Writes k cs (length out) codes → (write_border k cs out).0 ≡ given n →
    n ≡ length (stored k (get_or cs 0 0) codes)
answered k cs out n codes w e = sym (given_same (sym (ap (λ (p : Answer ℕ × List ℕ). p.0) (writes_given k cs out codes w)) ∙ e))

pub written_length : (k : ℕ) (cs out : List ℕ) (n : ℕ) → (write_border k cs out).0 ≡ given n → n ≤ 1544
written_length k cs out n e =
    let a = writes_accepted k cs out n e in
    let w = a.1 in
    let b = written_bounds k cs (length out) a.0 w in
    omega (arith, answered k cs out n a.0 w e, stored_length k (get_or cs 0 0) a.0 w.low b.0 b.1)

-- what the writer writes, the reader reads as the same level and cells
pub read_written : (k : ℕ) (cs out lent : List ℕ) (n : ℕ) → (write_border k cs out).0 ≡ given n → length cs ≤ length lent →
    read_border (take n (write_border k cs out).1) lent ≡ (given (k, length cs), cs ++ drop (length cs) lent)
read_written k cs out lent n e l =
    let a = writes_accepted k cs out n e in
    let codes = a.0 in
    let w = a.1 in
    let m = get_or cs 0 0 in
    let ns = drop 1 cs in
    let b = stored k m codes in
    let g = writes_given k cs out codes w in
    let split : cs ≡ m ∷ ns = drop-cons cs 0 0 w.some_cells in
    let bytes : take n (write_border k cs out).1 ≡ b =
    ap₂ (λ (i : ℕ) (o : List ℕ). take i o) (answered k cs out n codes w e) (ap (λ (p : Answer ℕ × List ℕ). p.1) g) ∙ take-append_seam b (drop (length b) out) in
    let walk = (walks_agree k m codes ns).1 w.joined in
    let counted = walked_length k m codes (m ∷ ns) walk in
    let below = (written_bounds k cs (length out) codes w).0 in
    let few = (written_bounds k cs (length out) codes w).1 in
    let eight = codes_below k m ns codes w.joined in
    let rest = stored_codes k m codes w.low below few in
    let r : Reads b (length lent) =
    record {
      k = k;
      start = m;
      n = length codes;
      at = place k m codes w.low below few;
      cs = cs;
      beginning = stored_begins k m codes w.low below few;
      whole = stored_whole k m codes w.low below few;
      zeros = rw rest (packed_padded codes eight);
      fits = omega (arith, ap length split);
      walk = rw (rest, unpacked_packed codes eight) (walk ∙ ap some (sym split));
    } in
    ap (λ (bs : List ℕ). read_border bs lent) bytes ∙ reads_given b lent r

-- ---- what was read is written

-- a number that was read stands before the rest
exact_rest : (bs : List ℕ) (at v next : ℕ) → Exactly bs at v next → drop at bs ≡ numeral v ++ drop next bs
exact_rest bs at v next x =
    let e : at + (next - at) ≡ next = omega (arith, x.place) in
    sym (take-append-drop (next - at) (drop at bs))
    ∙ ap₂ (λ (s r : List ℕ). s ++ r) x.bytes (drop-drop (next - at) at bs ∙ ap (λ (i : ℕ). drop i bs) e)

module _ (bs : List ℕ) (room : ℕ) (r : Reads bs room) (d : (i : ℕ) → get_or bs i 0 < 256) where
  -- the codes
  read_codes_lem : List ℕ
  read_codes_lem = unpacked r.n (drop r.at bs)

  -- the bytes are those of the border
  stored_read : stored r.k r.start read_codes_lem ≡ bs
  unfolding read_codes_lem
  stored_read =
      let b = r.beginning in
      let s = numbers_read bs r.k r.start r.n r.at b in
      let x1 = exact_rest bs 0 r.k b.after_level (numbers.read_exactly bs 0 r.k b.after_level d s.0) in
      let x2 = exact_rest bs b.after_level r.start b.after_start (numbers.read_exactly bs b.after_level r.start b.after_start d s.1) in
      let x3 = exact_rest bs b.after_start r.n r.at (numbers.read_exactly bs b.after_start r.n r.at d s.2) in
      let size : length (drop r.at bs) ≡ code_bytes r.n = length-drop r.at bs ∙ omega (arith, r.whole) in
      let codes = packed_unpacked r.n (drop r.at bs) size (λ i. rw (get_or-drop r.at bs i 0) (d (r.at + i))) r.zeros in
      ap₂ (λ (n : ℕ) (p : List ℕ). numeral r.k ++ (numeral r.start ++ (numeral n ++ p))) (length_digits 8 r.n _) codes
      ∙ ap (λ (p : List ℕ). numeral r.k ++ (numeral r.start ++ p)) (sym x3)
      ∙ ap (λ (p : List ℕ). numeral r.k ++ p) (sym x2)
      ∙ sym x1

  written_read : (lent : List ℕ) → length bs ≤ length lent → write_border r.k r.cs lent ≡ (given (length bs), bs ++ drop (length bs) lent)
  unfolding read_codes_lem
  written_read lent l =
      let f = walked_first r.k r.start read_codes_lem r.cs r.walk in
      let joined : codes_of r.k r.cs ≡ some read_codes_lem =
      ap (codes_of r.k) f.1 ∙ (walks_agree r.k r.start read_codes_lem f.0).0 (r.walk ∙ ap some f.1) in
      let bytes : stored r.k (get_or r.cs 0 0) read_codes_lem ≡ bs =
      ap (λ (s : List ℕ). stored r.k (get_or s 0 0) read_codes_lem) f.1 ∙ stored_read in
      let counted = walked_length r.k r.start read_codes_lem r.cs r.walk in
      let size = length_digits 8 r.n (value_of 256 (drop r.at bs)) in
      let w : Writes r.k r.cs (length lent) read_codes_lem =
      record {
        low = r.beginning.low;
        some_cells = omega arith;
        few = omega (arith, r.beginning.few);
        below = walked_cells r.k r.start read_codes_lem r.cs r.beginning.below r.walk;
        joined = joined;
        fits = omega (arith, ap length bytes);
      } in
      writes_given r.k r.cs lent read_codes_lem w ∙ ap (λ (b : List ℕ). (given (length b), b ++ drop (length b) lent)) bytes

-- accepted bytes are exactly those that the writer writes for what was read
pub write_read : (bs out lent : List ℕ) (k n : ℕ) → ((i : ℕ) → get_or bs i 0 < 256) → (read_border bs out).0 ≡ given (k, n) → length bs ≤ length lent →
    write_border k (take n (read_border bs out).1) lent ≡ (given (length bs), bs ++ drop (length bs) lent)
write_read bs out lent k n d e l =
    let r = reads_accepted bs out (k, n) e in
    let g = reads_given bs out r in
    let same = given_same (sym (ap (λ (p : Answer (ℕ × ℕ) × List ℕ). p.0) g) ∙ e) in
    let found : take n (read_border bs out).1 ≡ r.cs =
    ap₂ (λ (i : ℕ) (o : List ℕ). take i o) (sym (ap (λ (p : ℕ × ℕ). p.1) same)) (ap (λ (p : Answer (ℕ × ℕ) × List ℕ). p.1) g)
    ∙ take-append_seam r.cs (drop (length r.cs) out) in
    ap₂ (λ (i : ℕ) (s : List ℕ). write_border i s lent) (sym (ap (λ (p : ℕ × ℕ). p.0) same)) found ∙ written_read bs (length out) r d lent l

-- so two that read as the same level and cells are the same
pub same_border : (bs bs' out out' : List ℕ) (k n : ℕ) → ((i : ℕ) → get_or bs i 0 < 256) → ((i : ℕ) → get_or bs' i 0 < 256) →
    (read_border bs out).0 ≡ given (k, n) → (read_border bs' out').0 ≡ given (k, n) → take n (read_border bs out).1 ≡ take n (read_border bs' out').1 →
    bs ≡ bs'
same_border bs bs' out out' k n d d' e e' s =
    let lent = bs ++ bs' in
    let size = length-append bs bs' in
    let w = write_read bs out lent k n d e (omega arith) in
    let w' = write_read bs' out' lent k n d' e' (omega arith) in
    let both = sym w ∙ ap (λ (c : List ℕ). write_border k c lent) s ∙ w' in
    let same : length bs ≡ length bs' = given_same (ap (λ (p : Answer ℕ × List ℕ). p.0) both) in
    sym (take-append_seam bs (drop (length bs) lent))
    ∙ ap₂ (λ (i : ℕ) (o : List ℕ). take i o) same (ap (λ (p : Answer ℕ × List ℕ). p.1) both)
    ∙ take-append_seam bs' (drop (length bs') lent)

-- ---- 1,545 bytes judge an input of any length

-- a number ends at most five bytes after its place
after_most : (bs : List ℕ) (at : ℕ) → after (read_call bs at) ≤ at + 5
after_most bs at = go (read_call bs at) refl
  where
    go : (a : Answer (ℕ × ℕ)) → read_call bs at ≡ a → after a ≤ at + 5
    go (given (v, next)) e = omega (arith, numbers.read_place bs at v next e, (numbers.numeral_length v).1)
    go (refused n) e = omega arith

-- the three numbers are in the first fifteen bytes
module _ (bs : List ℕ) (m : ℕ) (h : 15 ≤ m) where
  level_most : after (level_read bs) ≤ 5
  unfolding level_read
  level_most = after_most bs 0

  start_most : after (start_read bs) ≤ 10
  unfolding start_read
  start_most = omega (arith, after_most bs (after (level_read bs)), level_most)

  front_level : level_read (take m bs) ≡ level_read bs
  unfolding level_read
  front_level = numbers.read_front bs 0 m (omega arith)

  front_start : start_read (take m bs) ≡ start_read bs
  unfolding start_read
  front_start =
      ap (λ a. read_call (take m bs) (after a)) front_level ∙ numbers.read_front bs (after (level_read bs)) m (omega (arith, level_most))

  front_count : count_read (take m bs) ≡ count_read bs
  unfolding count_read
  front_count =
      ap (λ a. read_call (take m bs) (after a)) front_start ∙ numbers.read_front bs (after (start_read bs)) m (omega (arith, start_most))

  front_header : in_order (header_tests (take m bs)) (header (take m bs)) ≡ in_order (header_tests bs) (header bs)
  front_header =
      ap₂ (λ l s. answer_of l s (count_read (take m bs))) front_level front_start ∙ ap (answer_of (level_read bs) (start_read bs)) front_count

  front_begins : (k start n at : ℕ) → Begins bs k start n at → Begins (take m bs) k start n at
  front_begins k start n at b =
      record {
        after_level = b.after_level;
        after_start = b.after_start;
        level = front_level ∙ b.level;
        cell = front_start ∙ b.cell;
        count = front_count ∙ b.count;
        low = b.low;
        below = b.below;
        few = b.few;
      }

-- where the three are refused, the reader is
header_refused : (bs out : List ℕ) (i : ℕ) → refused i ≡ in_order (header_tests bs) (header bs) → read_border bs out ≡ (refused i, out)
header_refused bs out i e =
    sym (lent_refused _ out _ i (same_refusal (header_tests bs) (code_tests bs (length out) (header bs)) (header bs) ((header bs).0, length (cells_read bs)) i e))

-- and otherwise more than 1,544 bytes are too many
too_many : (bs out : List ℕ) (k start n at : ℕ) → Begins bs k start n at → 1544 < length bs → read_border bs out ≡ (refused 12, out)
too_many bs out k start n at b h =
    let s = numbers_read bs k start n at b in
    let p1 = numbers.read_place bs 0 k b.after_level s.0 in
    let p2 = numbers.read_place bs b.after_level start b.after_start s.1 in
    let p3 = numbers.read_place bs b.after_start n at s.2 in
    let place : at ≤ 8 =
    omega (
      arith,
      numbers.numeral_within 0 k (omega (arith, b.low)),
      (numbers.numeral_length start).1,
      numbers.numeral_within 1 n (omega (arith, b.few)),
    ) in
    let size : at + code_bytes n ≤ 1544 = omega (arith, b.few) in
    let first : First 12 (code_tests bs (length out) (k, start, n, at)) =
    inr (le-ltb (length bs) (at + code_bytes n) (omega arith), inl (lt-ltb (at + code_bytes n) (length bs) (omega arith), refl)) in
    let codes = code_tests bs (length out) (header bs) in
    let a : ℕ × ℕ = ((header bs).0, length (cells_read bs)) in
    let f = subst (λ (t : Header). First 12 (code_tests bs (length out) t)) (sym (begins_header bs k start n at b)) first in
    sym (lent_refused _ out _ 12 (refuses codes a 12 f ∙ passed_on (header_tests bs) codes a (begins_passed bs k start n at b)))

-- the first 1,545 bytes are read as all are, so a program needs no more of its input
pub front_decides : (bs out : List ℕ) → read_border (take 1545 bs) out ≡ read_border bs out
front_decides bs out = short (leb (length bs) 1545) refl
  where
    long : 1545 < length bs → (a : Answer Header) → in_order (header_tests bs) (header bs) ≡ a → read_border (take 1545 bs) out ≡ read_border bs out
    long h (refused i) e =
        header_refused (take 1545 bs) out i (sym (front_header bs 1545 (omega arith) ∙ e)) ∙ sym (header_refused bs out i (sym e))
    long h (given t) e =
        let b = begins bs (passed (header_tests bs) (header bs) t (sym e)).0 in
        let f = front_begins bs 1545 (omega arith) b.0 b.1 b.2 b.3 b.4 in
        too_many (take 1545 bs) out b.0 b.1 b.2 b.3 f (rw (length-take-le 1545 bs (omega arith)) (omega arith))
        ∙ sym (too_many bs out b.0 b.1 b.2 b.3 b.4 (omega arith))

    short : (t : Bool) → leb (length bs) 1545 ≡ t → read_border (take 1545 bs) out ≡ read_border bs out
    short true e = ap (λ (b : List ℕ). read_border b out) (take_all 1545 bs (leb-true (length bs) 1545 e))
    short false e = long (leb-false (length bs) 1545 e) (in_order (header_tests bs) (header bs)) refl
