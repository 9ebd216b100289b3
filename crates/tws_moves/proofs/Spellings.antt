-- Which moves bytes spell, and where they are cut.
use Rattle.std.proofs.Common.{◌≡◌, ◌⊎◌, ℕ, zero, suc, ◌+◌, ◌-◌, ◌<◌, ◌≤◌, List, [], ◌∷◌, ◌++◌, length, take, drop, refl, ap, sym, subst, ◌∙◌, arith, inl, inr, ⊎_elim, append_assoc, append-nil, take-append-drop, length-append, length-take, length-drop}
use Rattle.std.specs.List.{flat_map, AllByRecursion}
use Rattle.std.proofs.Math.Seq.{take-append_seam, drop-append_seam, take-length}
use Rattle.std.proofs.lemmas.List.{nil_from_length}
use Rattle.std.proofs.lemmas.List.Concat.{flat_map-append}
use Rattle.tws_moves.specs.declared.moves_fault.MovesFault.{MovesFault}
use Rattle.tws_moves.specs.declared.moves_fault.MovesFault.TheVariants.{Cut, Memory}
use Rattle.tws_moves.specs.Move.{Move, Wait, moves_from, tick_after}
use Rattle.std.proofs.lemmas.Bool.{cases_lt}
use Rattle.byte_output.specs.Bytes.{IsBytes}
use Rattle.tws_moves.specs.Spelling.{IsPiece, piece_length, waits_of, pieces_in, moves_in, join, Spells, IsSpelling, IsCutAt, IsCut, MovesFail}
use Rattle.tws_moves.specs.Steps.{IsPieceCut, ArePieces, ReadsSoFar, CountsSoFar, singles}
use Rattle.byte_output.proofs.Bytes.{IsBytes-take, IsBytes-drop}
use Rattle.byte_output.proofs.Lists.{all_append}
use Rattle.tws_moves.proofs.Codes.{one_cut, longest_cut}
use Rattle.tws_moves.proofs.Pieces.{itself, pieces_are_code, none_begins_none, cut_begins_none, piece_some}
use Rattle.tws_moves.proofs.Ticks.{moves_of_waits, moves_alone, moves_from-append, tick_after-append}

-- ---- one list of moves

-- bytes spell at most one list of moves
pub one_reading : (bytes : List ℕ) (m n : List Move) → Spells bytes m → Spells bytes n → m ≡ n
one_reading bytes m n sm sn =
    let same = one_cut IsPiece itself pieces_are_code sm.pieces sn.pieces [] [] sm.fits sn.fits none_begins_none none_begins_none
    (append-nil (join sm.pieces) ∙ sym sm.joined ∙ sn.joined ∙ sym (append-nil (join sn.pieces))) in
    moves_alone (flat_map waits_of sm.pieces) m sm.made
    ∙ ap (λ (ps : List (List ℕ)). moves_from 0 (flat_map waits_of ps)) same.0
    ∙ sym (moves_alone (flat_map waits_of sn.pieces) n sn.made)

-- the pieces of joined pieces
pieces_in_join : (steps : ℕ) (pieces : List (List ℕ)) → AllByRecursion IsPiece pieces → length (join pieces) ≤ steps → pieces_in steps (join pieces) ≡ pieces
pieces_in_join zero [] fits enough = refl
pieces_in_join (suc steps) [] fits enough = refl
pieces_in_join steps ([] ∷ pieces) fits enough = absurd fits.0.whole
pieces_in_join zero ((first ∷ tail) ∷ pieces) fits enough = absurd (omega arith)
pieces_in_join (suc steps) ((first ∷ tail) ∷ pieces) fits enough =
    let count : piece_length first - 1 ≡ length tail = omega (arith, fits.0.whole) in
    let head : take (piece_length first - 1) (tail ++ join pieces) ≡ tail = ap (λ (n : ℕ). take n (tail ++ join pieces)) count ∙ take-append_seam tail (join pieces) in
    let rest : drop (piece_length first - 1) (tail ++ join pieces) ≡ join pieces = ap (λ (n : ℕ). drop n (tail ++ join pieces)) count ∙ drop-append_seam tail (join pieces) in
    ap (λ (xs : List ℕ). (first ∷ xs) ∷ pieces_in steps (drop (piece_length first - 1) (tail ++ join pieces))) head
    ∙ ap (λ (xs : List ℕ). (first ∷ tail) ∷ pieces_in steps xs) rest
    ∙ ap (λ (ps : List (List ℕ)). (first ∷ tail) ∷ ps) (pieces_in_join steps pieces fits.1 (omega (arith, enough, length-append tail (join pieces))))

-- the function returns the moves that are spelled
pub moves_in_spelled : (bytes : List ℕ) (moves : List Move) → Spells bytes moves → moves ≡ moves_in bytes
moves_in_spelled bytes moves spells =
    moves_alone (flat_map waits_of spells.pieces) moves spells.made
    ∙ ap (λ (ps : List (List ℕ)). moves_from 0 (flat_map waits_of ps))
    (sym (pieces_in_join (length bytes) spells.pieces spells.fits (omega (arith, ap length spells.joined))) ∙
    ap (pieces_in (length bytes)) (sym spells.joined))

-- pieces in a row spell the moves that their waits make
pub spells_pieces : (bytes : List ℕ) (pieces : List (List ℕ)) → AllByRecursion IsPiece pieces → bytes ≡ join pieces → Spells bytes (moves_from 0 (flat_map waits_of pieces))
spells_pieces bytes pieces fits joined =
    record { pieces = pieces; fits = fits; joined = joined; made = moves_of_waits (flat_map waits_of pieces) }

-- the bytes were cut into pieces up to a rest
module _ (bytes rest : List ℕ) (pieces : List (List ℕ)) (so_far : ArePieces bytes rest pieces) where
  -- the position of the rest is the length of the pieces
  at_join : length bytes - length rest ≡ length (join pieces)
  at_join = omega (arith, ap length so_far.split, length-append (join pieces) rest)

  -- ---- nothing is left

  -- if nothing is left, the bytes are the pieces
  spelled_whole : length rest < 1 → bytes ≡ join pieces
  spelled_whole none = so_far.split ∙ ap (λ (xs : List ℕ). join pieces ++ xs) (nil_from_length rest (omega (arith, none))) ∙ append-nil (join pieces)

  -- if nothing is left, the bytes spell the moves of the pieces
  pub spells_so_far : length rest < 1 → Spells bytes (moves_from 0 (flat_map waits_of pieces))
  spells_so_far none = spells_pieces bytes pieces so_far.fits (spelled_whole none)

  -- ---- what is left is cut

  -- the bytes before the rest spell some moves
  prefix_spelled : IsSpelling (take (length (join pieces)) bytes)
  prefix_spelled =
      let prefix : take (length (join pieces)) bytes ≡ join pieces = ap (take (length (join pieces))) so_far.split ∙ take-append_seam (join pieces) rest in
      (moves_from 0 (flat_map waits_of pieces), spells_pieces (take (length (join pieces)) bytes) pieces so_far.fits prefix)

  -- if the rest is cut, no longer prefix spells any
  longest_prefix : IsPieceCut rest → (n : ℕ) → n ≤ length bytes → IsSpelling (take n bytes) → n ≤ length (join pieces)
  longest_prefix cut n within spelled =
      let other = spelled.1 in
      let whole : join other.pieces ++ drop n bytes ≡ join pieces ++ rest = ap (λ (xs : List ℕ). xs ++ drop n bytes) (sym other.joined) ∙ take-append-drop n bytes ∙ so_far.split in
      let shorter = longest_cut IsPiece itself pieces_are_code other.pieces pieces (drop n bytes) rest other.fits so_far.fits (cut_begins_none rest cut) whole in
      omega (arith, shorter, ap length other.joined, length-take n bytes)

  -- so the bytes are cut where the rest begins
  pub cut_place : IsPieceCut rest → 1 ≤ length rest → IsCutAt bytes (length bytes - length rest)
  cut_place cut some =
      rw at_join (record {
        within = omega (arith, ap length so_far.split, length-append (join pieces) rest);
        spelled = prefix_spelled;
        longest = λ n within spelled. longest_prefix cut n within spelled;
      })

  -- a read that stops at the rest returns where the bytes are cut
  pub cut_at : (e : MovesFault) → e ≡ Cut (length bytes - length rest) → IsPieceCut rest → 1 ≤ length rest → IsCut bytes e
  cut_at e e-is cut some = subst (IsCut bytes) (sym e-is) (cut_place cut some)

-- bytes that are cut spell nothing
pub cut_spells_nothing : (bytes : List ℕ) (at : ℕ) (moves : List Move) → IsCutAt bytes at → Spells bytes moves → ⊥
cut_spells_nothing bytes at moves cut spells =
    let too_long = cut.longest (length bytes) (omega arith) (subst IsSpelling (sym (take-length bytes)) (moves, spells)) in
    omega (arith, too_long, cut.within)

-- bytes that are cut spell no moves
pub cut_is_no_spelling : (bytes : List ℕ) (e : MovesFault) (moves : List Move) → IsCut bytes e → Spells bytes moves → ⊥
cut_is_no_spelling bytes (Cut at) moves cut spells = cut_spells_nothing bytes at moves cut spells
cut_is_no_spelling bytes Memory moves cut spells = cut

-- reading bytes that spell moves fails only when out of memory
pub spelled_fails : (bytes : List ℕ) (e : MovesFault) (moves : List Move) → MovesFail bytes e → Spells bytes moves → e ≡ Memory
spelled_fails bytes (Cut at) moves fails spells = ⊎_elim (λ cut. absurd (cut_spells_nothing bytes at moves cut spells)) (λ memory. memory) fails
spelled_fails bytes Memory moves fails spells = refl

pub one_place : (bytes : List ℕ) (m n : ℕ) → IsCutAt bytes m → IsCutAt bytes n → m ≡ n
one_place bytes m n first second =
    omega (arith, first.longest n (omega (arith, second.within)) second.spelled, second.longest m (omega (arith, first.within)) first.spelled)

-- ---- one more piece

-- one more piece adds its bytes
more_texts : (pieces : List (List ℕ)) (piece : List ℕ) → join (pieces ++ piece ∷ []) ≡ join pieces ++ piece
more_texts pieces piece = flat_map-append itself pieces (piece ∷ []) ∙ ap (λ (xs : List ℕ). join pieces ++ xs) (append-nil piece)

-- and adds its waits
more_waits : (pieces : List (List ℕ)) (piece : List ℕ) → flat_map waits_of (pieces ++ piece ∷ []) ≡ flat_map waits_of pieces ++ waits_of piece
more_waits pieces piece = flat_map-append waits_of pieces (piece ∷ []) ∙ ap (λ (ws : List Wait). flat_map waits_of pieces ++ ws) (append-nil (waits_of piece))

-- a piece after pieces: all are pieces
one_more : (pieces : List (List ℕ)) (piece : List ℕ) → AllByRecursion IsPiece pieces → IsPiece piece → AllByRecursion IsPiece (pieces ++ piece ∷ [])
one_more [] piece fits one = (one, tt)
one_more (p ∷ pieces) piece fits one = (fits.0, one_more pieces piece fits.1 one)

-- the rest begins with a piece
module _ (bytes rest piece after : List ℕ) (one : IsPiece piece) (split : rest ≡ piece ++ after) where
  -- the pieces so far and this one are the pieces up to what follows it
  pieces_more : (pieces : List (List ℕ)) → ArePieces bytes rest pieces → ArePieces bytes after (pieces ++ piece ∷ [])
  pieces_more pieces so_far = record {
    fits = one_more pieces piece so_far.fits one;
    split = so_far.split ∙ ap (λ (xs : List ℕ). join pieces ++ xs) split ∙ sym (append_assoc (join pieces) piece after) ∙ ap (λ (xs : List ℕ). xs ++ after) (sym (more_texts pieces piece));
  }

  -- its moves come after those read so far
  pub reads_more : (moves pushed : List Move) (tick next : ℕ) → ReadsSoFar bytes rest moves tick →
      pushed ≡ moves ++ moves_from tick (waits_of piece) → next ≡ tick_after tick (waits_of piece) →
      ReadsSoFar bytes after pushed next
  reads_more moves pushed tick next reads pushed-is next-is =
      let waits = flat_map waits_of reads.pieces in
      record {
        pieces = reads.pieces ++ piece ∷ [];
        so_far = pieces_more reads.pieces reads.so_far;
        moves_are = pushed-is ∙ ap (λ (ms : List Move). ms ++ moves_from tick (waits_of piece)) reads.moves_are ∙
            ap (λ (t : ℕ). moves_from 0 waits ++ moves_from t (waits_of piece)) reads.tick_is ∙
            sym (moves_from-append 0 waits (waits_of piece)) ∙ ap (moves_from 0) (sym (more_waits reads.pieces piece));
        tick_is = next-is ∙ ap (λ (t : ℕ). tick_after t (waits_of piece)) reads.tick_is ∙ sym (tick_after-append 0 waits (waits_of piece)) ∙ ap (tick_after 0) (sym (more_waits reads.pieces piece));
      }

-- counting begins with one piece
pub counts_piece : (bytes piece after : List ℕ) (count : ℕ) → IsPiece piece → bytes ≡ piece ++ after → count ≡ length (waits_of piece) → CountsSoFar bytes after count
counts_piece bytes piece after count one split count-is = record {
  pieces = piece ∷ [];
  so_far = record { fits = (one, tt); split = split ∙ ap (λ (xs : List ℕ). xs ++ after) (sym (append-nil piece)) };
  count_is = count-is ∙ ap length (sym (append-nil (waits_of piece)));
}

-- ---- bytes that are one piece each

-- pieces of one byte each, in a row, are the bytes
join_singles : (bytes : List ℕ) → join (singles bytes) ≡ bytes
join_singles [] = refl
join_singles (b ∷ bytes) = ap (λ (xs : List ℕ). b ∷ xs) (join_singles bytes)

-- counting begins with pieces of one byte each
pub counts_singles : (bytes prefix rest : List ℕ) (count : ℕ) → AllByRecursion IsPiece (singles prefix) → bytes ≡ prefix ++ rest →
    count ≡ length (flat_map waits_of (singles prefix)) → CountsSoFar bytes rest count
counts_singles bytes prefix rest count fits split count-is = record {
  pieces = singles prefix;
  so_far = record { fits = fits; split = split ∙ ap (λ (xs : List ℕ). xs ++ rest) (sym (join_singles prefix)) };
  count_is = count-is;
}

-- ---- pieces and then more pieces

module _ (bytes rest after : List ℕ) where
  -- pieces of the bytes, and then pieces of their rest
  pub are_more : (prefix more : List (List ℕ)) → ArePieces bytes rest prefix → ArePieces rest after more → ArePieces bytes after (prefix ++ more)
  are_more prefix more first second = record {
    fits = all_append IsPiece prefix more first.fits second.fits;
    split =
        first.split
        ∙ ap (λ (xs : List ℕ). join prefix ++ xs) second.split
        ∙ sym (append_assoc (join prefix) (join more) after)
        ∙ ap (λ (xs : List ℕ). xs ++ after) (sym (flat_map-append itself prefix more));
  }

  -- their counts add up
  pub counts_more : (count more next : ℕ) → CountsSoFar bytes rest count → CountsSoFar rest after more → next ≡ count + more → CountsSoFar bytes after next
  counts_more count more next first second next-is = record {
    pieces = first.pieces ++ second.pieces;
    so_far = are_more first.pieces second.pieces first.so_far second.so_far;
    count_is = omega (
      arith,
      next-is,
      first.count_is,
      second.count_is,
      ap length
          (flat_map-append waits_of first.pieces second.pieces),
      length-append (flat_map waits_of first.pieces)
          (flat_map waits_of second.pieces),
    );
  }

-- ---- every list of bytes

IsBytes-cell : (first : ℕ) (tail : List ℕ) → first < 256 → IsBytes tail → IsBytes (first ∷ tail)
IsBytes-cell first tail head fits zero = head
IsBytes-cell first tail head fits (suc i) = fits i

-- the bytes are pieces, followed by a rest that does not begin with a whole piece
abbrev Pieces : List ℕ → Type 0
Pieces bytes = (rest : List ℕ) × (pieces : List (List ℕ)) × ArePieces bytes rest pieces × IsPieceCut rest

-- bytes long enough for the length that their first byte gives begin with a piece
first_piece : (first : ℕ) (tail : List ℕ) → IsBytes (first ∷ tail) → piece_length first ≤ 1 + length tail → IsPiece (first ∷ take (piece_length first - 1) tail)
first_piece first tail fits whole =
    let count = piece_length first - 1 in
    record {
      bytes = IsBytes-cell first (take count tail) (fits 0) (IsBytes-take count tail (λ i. fits (suc i)));
      whole = omega (arith, length-take count tail, whole, piece_some first);
    }

-- a piece before bytes that are cut into pieces
piece_then : (piece after bytes : List ℕ) → IsPiece piece → bytes ≡ piece ++ after → Pieces after → Pieces bytes
piece_then piece after bytes one split later =
    let more : ArePieces bytes later.0 (piece ∷ later.1) = record {
      fits = (one, later.2.fits);
      split = split ∙ ap (λ (xs : List ℕ). piece ++ xs) later.2.split ∙ sym (append_assoc piece (join later.1) later.0);
    } in
    (later.0, piece ∷ later.1, more, later.3)

-- a rest shorter than its piece is left as it is
nothing_more : (bytes : List ℕ) → IsPieceCut bytes → Pieces bytes
nothing_more bytes cut = (bytes, [], record { fits = tt; split = refl }, cut)

-- any bytes are pieces followed by a rest that is cut
pieces_of : (fuel : ℕ) (bytes : List ℕ) → IsBytes bytes → length bytes ≤ fuel → Pieces bytes
pieces_of fuel [] fits enough = nothing_more [] tt
pieces_of zero (first ∷ tail) fits enough = absurd (omega arith)
pieces_of (suc fuel) (first ∷ tail) fits enough =
    let count = piece_length first - 1 in
    elim (cases_lt (1 + length tail) (piece_length first)) [
      | inl short ↦ nothing_more (first ∷ tail) short
      | inr whole ↦ piece_then (first ∷ take count tail) (drop count tail) (first ∷ tail) (first_piece first tail fits whole)
          (ap (λ (xs : List ℕ). first ∷ xs) (sym (take-append-drop count tail)))
          (pieces_of fuel (drop count tail) (IsBytes-drop count tail (λ i. fits (suc i))) (omega (arith, length-drop count tail)))
    ]

-- any bytes are a spelling, or are cut at some position
pub cut_or_spelled : (bytes : List ℕ) → IsBytes bytes → IsSpelling bytes ⊎ ((at : ℕ) × IsCutAt bytes at)
cut_or_spelled bytes fits =
    let found = pieces_of (length bytes) bytes fits (omega arith) in
    elim (cases_lt (length found.0) 1) [
      | inl none ↦ inl (moves_from 0 (flat_map waits_of found.1), spells_so_far bytes found.0 found.1 found.2 none)
      | inr some ↦ inr (length bytes - length found.0, cut_place bytes found.0 found.1 found.2 found.3 some)
    ]
