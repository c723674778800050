-- How a border's bytes are laid out, and that its slices keep their lengths. Assumes nothing.
use Prim.Native.Nat.{ℕ, suc, ◌≤◌, ◌<◌}
use mathlib.Core.Path.{◌≡◌, refl, sym, ap, subst, ◌∙◌}
use mathlib.Core.List.{List, [], ◌∷◌, ◌++◌}
use mathlib.Core.Option.{Option, some}
use native.Mathlib.Numerals.{add-one}
use native.Mathlib.Omega.{arith}
use lib.ListN.{length, take, drop, get_or, length-append, length-drop}
use lib.Seq.{take_at}
use Rattle.refusal.specs.Answer.{Answer, given, refused}
use Rattle.refusal.proofs.Answers.{given_same}
use Rattle.varint.specs.Varint.{numeral, groups}
use Rattle.code.specs.Step.{found_or, step_call}
use Rattle.border.specs.Stored.{digits_of, value_of, code_bytes, packed, unpacked, stored}
use Rattle.border.specs.Border.{codes_of, border_bytes, read_border, write_border}
use Rattle.border.proofs.Digits.{length_digits, digits_below}
use Rattle.border.proofs.Bits.{length_packed, code_bit, pad_bit}
use Rattle.border.proofs.Walks.{walked_length, walks_agree, codes_below, codes_lead}
use Rattle.border.proofs.Laws.{no_codes, reads_accepted, reads_given, writes_accepted, writes_given}
use Rattle.demands.specs.Demand2.{Layout}

pub one_cell : (k m : ℕ) → border_bytes k (m ∷ []) ≡ numeral k ++ (numeral m ++ (0 ∷ []))
unfolding groups digits_of
one_cell k m = ap (λ (o : Option (List ℕ)). stored k m (found_or [] o)) (no_codes k m)

-- ---- the layout

-- the cells of a border begin with its start
begins_with : (cs : List ℕ) → 1 ≤ length cs → cs ≡ get_or cs 0 0 ∷ drop 1 cs
begins_with [] h = absurd (omega arith)
begins_with (c ∷ cs) h = refl

layout : (k : ℕ) (cs codes : List ℕ) → 1 ≤ length cs → codes_of k cs ≡ some codes → Layout k cs (stored k (get_or cs 0 0) codes)
layout k cs codes h e =
    let start = get_or cs 0 0 in
    let first = begins_with cs h in
    let d = codes_below k start (drop 1 cs) codes e in
    let walk = (walks_agree k start codes (drop 1 cs)).1 e in
    record {
      codes = codes;
      count = ap length first ∙ walked_length k start codes (start ∷ drop 1 cs) walk ∙ add-one (length codes);
      leads = subst (λ (l : List ℕ). (i : ℕ) → i < length codes → step_call k (get_or l i 0) (get_or codes i 0) ≡ given (get_or l (suc i) 0)) (sym first)
          (codes_lead k start (drop 1 cs) codes e);
      last = packed codes;
      numbers = refl;
      bytes = (length_packed codes, digits_below 256 (code_bytes (length codes)) (value_of 8 codes) (omega arith));
      three_bits = code_bit codes d;
      padding = λ c l m. pad_bit codes d c l (rw (length_packed codes) at m);
    }

pub border_layout : (k : ℕ) (cs out : List ℕ) (n : ℕ) → (write_border k cs out).0 ≡ given n → Layout k cs (take n (write_border k cs out).1)
border_layout k cs out n e =
    let w = writes_accepted k cs out n e in
    let codes = w.0 in
    let b = stored k (get_or cs 0 0) codes in
    let g = writes_given k cs out codes w.1 in
    let size : length b ≡ n = given_same (sym (ap (λ (r : Answer ℕ × List ℕ). r.0) g) ∙ e) in
    let front : take n (write_border k cs out).1 ≡ b =
    ap (λ (r : Answer ℕ × List ℕ). take n r.1) g ∙ take_at b (drop (length b) out) n size in
    subst (Layout k cs) (sym front) (layout k cs codes w.1.some_cells w.1.joined)

-- ---- lengths

-- what is put at the front of a slice with room for it keeps its length
front_kept : (b out : List ℕ) → length b ≤ length out → length (b ++ drop (length b) out) ≡ length out
front_kept b out h = length-append b (drop (length b) out) ∙ rw (length-drop (length b) out) (omega arith)

read_kept : (bs out : List ℕ) (a : Answer (ℕ × ℕ)) → (read_border bs out).0 ≡ a → length (read_border bs out).1 ≡ length out
read_kept bs out (refused n) e = rw e
read_kept bs out (given v) e =
    let r = reads_accepted bs out v e in
    let some_more = walked_length r.k r.start (unpacked r.n (drop r.at bs)) r.cs r.walk in
    let size = length_digits 8 r.n (value_of 256 (drop r.at bs)) in
    ap (λ (r : Answer (ℕ × ℕ) × List ℕ). length r.1) (reads_given bs out r) ∙ front_kept r.cs out (omega (arith, r.fits, some_more, size))

write_kept : (k : ℕ) (cs out : List ℕ) (a : Answer ℕ) → (write_border k cs out).0 ≡ a → length (write_border k cs out).1 ≡ length out
write_kept k cs out (refused n) e = rw e
write_kept k cs out (given n) e =
    let w = writes_accepted k cs out n e in
    ap (λ (r : Answer ℕ × List ℕ). length r.1) (writes_given k cs out w.0 w.1) ∙ front_kept (stored k (get_or cs 0 0) w.0) out w.1.fits

pub border_lengths : (bs cs out : List ℕ) (k : ℕ) → (length (read_border bs out).1 ≡ length out) × (length (write_border k cs out).1 ≡ length out)
border_lengths bs cs out k = (read_kept bs out (read_border bs out).0 refl, write_kept k cs out (write_border k cs out).0 refl)
