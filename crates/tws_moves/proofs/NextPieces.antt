-- The spelling piece by piece, from the left.
use Rattle.std.proofs.Common.{◌≡◌, ℕ, ◌+◌, ◌-◌, ◌/◌, ◌%◌, ◌<◌, ◌≤◌, true, false, ◌&&◌, zero, suc, List, [], ◌∷◌, ◌++◌, length, take, drop, slice_index_or, Option, None, Some, IfSome, IfNone, refl, ap, sym, subst, ◌∙◌, arith, length-drop, drop-drop, append_assoc, append-nil}
use Rattle.std.specs.List.{AllByRecursion}
use Rattle.std.proofs.lemmas.List.{drop_more, nil_from_length}
use Rattle.std.proofs.lemmas.Bool.{and_parts}
use Rattle.std.proofs.Math.Seq.{take-length}
use Rattle.tws_moves.specs.Bytes.{little_bytes}
use Rattle.tws_moves.specs.Move.{Wait}
use Rattle.tws_moves.specs.Shortest.{alone, is_plain, three_byte, waits_bytes}
use Rattle.tws_moves.specs.Steps.{HasLayout, IsNextPiece, BeginsAlone, WritesSoFar}
use Rattle.byte_output.proofs.Lists.{all_take_more}
use Rattle.tws_moves.proofs.Least.{alone_first, held_if_plain, direction_if_plain}

-- ---- the bytes of a number

-- the bytes of a number, lowest first: one byte, and those of the number without it
pub little_step : (count n : ℕ) → 1 ≤ count → little_bytes count n ≡ n % 256 ∷ little_bytes (count - 1) (n / 256)
little_step zero n some = absurd (omega arith)
little_step (suc count) n some = let e : count ≡ suc count - 1 = omega arith in ap (λ (k : ℕ). n % 256 ∷ little_bytes k (n / 256)) e

-- one more byte of a number was appended, and the rest of its bytes are still to be
pub pushed_more : (bytes more whole : List ℕ) (count next n : ℕ) → bytes ++ little_bytes count n ≡ whole →
    more ≡ bytes ++ (n % 256) ∷ [] → 1 ≤ count → next ≡ count - 1 → more ++ little_bytes next (n / 256) ≡ whole
pushed_more bytes more whole count next n so_far more-is some next-is =
    ap (λ (xs : List ℕ). xs ++ little_bytes next (n / 256)) more-is
    ∙ append_assoc bytes ((n % 256) ∷ []) (little_bytes next (n / 256))
    ∙ ap (λ (k : ℕ). bytes ++ (n % 256) ∷ little_bytes k (n / 256)) next-is
    ∙ ap (λ (xs : List ℕ). bytes ++ xs) (sym (little_step count n some))
    ∙ so_far

-- once no bytes of the number are left, all are appended
pub pushed_all : (bytes whole : List ℕ) (count n : ℕ) → bytes ++ little_bytes count n ≡ whole → count ≡ 0 → bytes ≡ whole
pushed_all bytes whole count n so_far none =
    sym (append-nil bytes) ∙ ap (λ (k : ℕ). bytes ++ little_bytes k n) (sym none) ∙ so_far

-- ---- three waits

-- of fewer than three waits, each is alone
pub few_apart : (waits : List Wait) (i : ℕ) → i < length waits → length waits - i < 3 → BeginsAlone (drop i waits)
few_apart waits i inside few = few_alone (drop i waits) (omega (arith, length-drop i waits)) (omega (arith, length-drop i waits))
  where
    few_alone : (ws : List Wait) → 1 ≤ length ws → length ws < 3 → BeginsAlone ws
    few_alone [] some few = absurd (omega arith)
    few_alone (a ∷ []) some few = sym (append-nil (alone a))
    few_alone (a ∷ b ∷ []) some few = refl
    few_alone (a ∷ b ∷ c ∷ ws) some few = absurd (omega arith)

-- the next three waits, as they are read from the list
module _ (waits : List Wait) (i : ℕ) (a b c : Wait) (inside : i + 3 ≤ length waits) (a-is : a ≡ slice_index_or waits i a)
    (b-is : b ≡ slice_index_or waits (i + 1) b) (c-is : c ≡ slice_index_or waits (i + 2) c) where
  -- what is left begins with these three
  cells : drop i waits ≡ a ∷ b ∷ c ∷ drop (i + 3) waits
  cells =
      let one = drop_more waits i a (omega arith) in
      let two = drop_more waits (i + 1) b (omega arith) in
      let next : i + 1 + 1 ≡ i + 2 = omega arith in
      let three = drop_more waits (i + 2) c (omega arith) in
      let last : i + 2 + 1 ≡ i + 3 = omega arith in
      one
      ∙ ap (λ (w : Wait). w ∷ drop (i + 1) waits) (sym a-is)
      ∙ ap (λ (ws : List Wait). a ∷ ws) (two ∙ ap (λ (w : Wait). w ∷ drop (i + 1 + 1) waits) (sym b-is))
      ∙ ap (λ (k : ℕ). a ∷ b ∷ drop k waits) next
      ∙ ap (λ (ws : List Wait). a ∷ b ∷ ws) (three ∙ ap (λ (w : Wait). w ∷ drop (i + 2 + 1) waits) (sym c-is))
      ∙ ap (λ (k : ℕ). a ∷ b ∷ c ∷ drop k waits) last

  -- unless all three are plain steps, the first is alone
  pub three_apart : (is_plain a && is_plain b && is_plain c) ≡ false → BeginsAlone (drop i waits)
  three_apart e =
      let first : BeginsAlone (a ∷ b ∷ c ∷ drop (i + 3) waits) = rw e in
      subst BeginsAlone (sym cells) first

  -- three plain steps are the next piece
  pub three_next : (size number count : ℕ) → size ≡ 1 → number ≡ three_byte a b c → count ≡ 3 → (is_plain a && is_plain b && is_plain c) ≡ true → IsNextPiece (drop i waits) size number count
  three_next size number count size-is number-is count-is e =
      let rest = drop (i + 3) waits in
      let outer = and_parts (is_plain a && is_plain b) (is_plain c) e in
      let inner = and_parts (is_plain a) (is_plain b) outer.0 in
      let byte : number % 256 ≡ three_byte a b c = omega (arith, direction_if_plain a inner.0, direction_if_plain b inner.1, direction_if_plain c outer.1) in
      let bytes : waits_bytes (a ∷ b ∷ c ∷ rest) ≡ three_byte a b c ∷ waits_bytes rest = rw e in
      let found : IsNextPiece (a ∷ b ∷ c ∷ rest) 1 number 3 = record {
        some = omega arith;
        within = omega arith;
        held = (held_if_plain a inner.0, (held_if_plain b inner.1, (held_if_plain c outer.1, tt)));
        bytes = bytes ∙ ap (λ (n : ℕ). n ∷ waits_bytes rest) (sym byte);
      } in
      let here = subst (λ (ws : List Wait). IsNextPiece ws 1 number 3) (sym cells) found in
      subst (λ (k : ℕ). IsNextPiece (drop i waits) size number k) (sym count-is) (subst (λ (k : ℕ). IsNextPiece (drop i waits) k number 3) (sym size-is) here)

-- ---- one wait

-- a wait that is alone and held by a layout is the next piece
pub alone_next : (waits : List Wait) (i : ℕ) (w : Wait) (size number count : ℕ) → i < length waits →
    w ≡ slice_index_or waits i w → BeginsAlone (drop i waits) → HasLayout w → little_bytes size number ≡ alone w → count ≡ 1 →
    IsNextPiece (drop i waits) size number count
alone_next waits i w size number count inside w-is apart held bytes count-is =
    let rest = drop (i + 1) waits in
    let cells : drop i waits ≡ w ∷ rest = drop_more waits i w inside ∙ ap (λ (v : Wait). v ∷ rest) (sym w-is) in
    let first : waits_bytes (w ∷ rest) ≡ alone w ++ waits_bytes rest = subst BeginsAlone cells apart in
    let found : IsNextPiece (w ∷ rest) size number 1 = record {
      some = omega arith;
      within = omega arith;
      held = (held, tt);
      bytes = first ∙ ap (λ (xs : List ℕ). xs ++ waits_bytes rest) (sym bytes);
    } in
    subst (λ (n : ℕ). IsNextPiece (drop i waits) size number n) (sym count-is) (subst (λ (ws : List Wait). IsNextPiece ws size number 1) (sym cells) found)

-- a wait that is not a plain step is alone, if some layout holds it
module _ (waits : List Wait) (i : ℕ) (w : Wait) (inside : i < length waits) (w-is : w ≡ slice_index_or waits i w) where
  plain_apart : is_plain w ≡ false → BeginsAlone (drop i waits)
  plain_apart other =
      let cells : drop i waits ≡ w ∷ drop (i + 1) waits = drop_more waits i w inside ∙ ap (λ (v : Wait). v ∷ drop (i + 1) waits) (sym w-is) in
      subst BeginsAlone (sym cells) (alone_first w (drop (i + 1) waits) other)

  -- if a piece was computed for it, that is the next piece
  pub other_next : {X : Type 0} (piece : Option X) (size number count : X → ℕ) → is_plain w ≡ false →
      IfSome piece (λ p. HasLayout w) → IfSome piece (λ p. little_bytes (size p) (number p) ≡ alone w) →
      IfSome piece (λ p. count p ≡ 1) → IfSome piece (λ p. IsNextPiece (drop i waits) (size p) (number p) (count p))
  other_next None size number count other held bytes one = tt
  other_next (Some p) size number count other held bytes one = alone_next waits i w (size p) (number p) (count p) inside w-is (plain_apart other) held bytes one

  -- if none was computed, no layout holds the wait at this index
  pub other_none : {X : Type 0} (piece : Option X) → IfNone piece (HasLayout w → ⊥) → IfNone piece ((v : Wait) → HasLayout (slice_index_or waits i v) → ⊥)
  other_none None unheld = λ v held.
      let first = drop_more waits i v inside in
      let again = drop_more waits i w inside in
      let same : slice_index_or waits i v ≡ slice_index_or waits i w = cc in
      unheld (subst HasLayout (same ∙ sym w-is) held)
  other_none (Some p) unheld = tt

-- ---- all pieces

-- the next piece was appended: the spelling is written up to the wait after it
pub writes_more : (waits : List Wait) (bytes more : List ℕ) (i size number count : ℕ) → WritesSoFar waits bytes i →
    IsNextPiece (drop i waits) size number count → more ≡ bytes ++ little_bytes size number → WritesSoFar waits more (i + count)
writes_more waits bytes more i size number count so_far next more-is = record {
  within = omega (arith, so_far.within, next.within, length-drop i waits);
  held = all_take_more HasLayout i count waits so_far.held next.held;
  split =
      so_far.split
      ∙ ap (λ (xs : List ℕ). bytes ++ xs) (next.bytes ∙ ap (λ (ws : List Wait). little_bytes size number ++ waits_bytes ws) (drop-drop count i waits))
      ∙ sym (append_assoc bytes (little_bytes size number) (waits_bytes (drop (i + count) waits)))
      ∙ ap (λ (xs : List ℕ). xs ++ waits_bytes (drop (i + count) waits)) (sym more-is);
}

-- once all waits are written
module _ (waits : List Wait) (bytes : List ℕ) (i : ℕ) (so_far : WritesSoFar waits bytes i) (over : length waits ≤ i) where
  -- some layout holds each of them
  pub all_held : AllByRecursion HasLayout waits
  all_held =
      let whole : take i waits ≡ waits = ap (λ (n : ℕ). take n waits) (let e : i ≡ length waits = omega (arith, so_far.within) in e) ∙ take-length waits in
      subst (AllByRecursion HasLayout) whole so_far.held

  -- the bytes are their whole spelling
  pub all_written : bytes ≡ waits_bytes waits
  all_written =
      let none : drop i waits ≡ [] = nil_from_length (drop i waits) (omega (arith, length-drop i waits)) in
      sym (so_far.split ∙ ap (λ (ws : List Wait). bytes ++ waits_bytes ws) none ∙ append-nil bytes)
