-- Packing bytes into the shortest bytes, piece by piece, with the plain steps that are pending.
use Rattle.std.proofs.Common.{◌≡◌, ℕ, ◌+◌, ◌*◌, ◌^◌, ◌/◌, ◌%◌, ◌<◌, false, List, [], ◌∷◌, ◌++◌, length, refl, ap, sym, subst, ◌∙◌, arith, flat_map, append_assoc, append-nil}
use Rattle.std.proofs.lemmas.List.Concat.{flat_map-append}
use Rattle.tws_moves.specs.declared.act.Act.TheVariants.{Step}
use Rattle.tws_moves.specs.declared.pending.Pending.{Pending}
use Rattle.tws_moves.specs.declared.pending.Pending.TheVariants as pending
use Rattle.tws_moves.specs.declared.layout.Layout.TheVariants as layout
use Rattle.tws_moves.specs.Bytes.{number_of, bits}
use Rattle.tws_moves.specs.Move.{Wait, moves_from}
use Rattle.tws_moves.specs.Spelling.{IsPiece, IsSpelling, Spells, waits_of}
use Rattle.tws_moves.specs.Shortest.{alone, is_plain, packed_bytes, waits_bytes}
use Rattle.tws_moves.specs.Steps.{Packs, PacksPieces, pending_waits, plain_step}
use Rattle.tws_moves.proofs.PackedBytes.{packed_are}
use Rattle.tws_moves.proofs.Spellings.{spells_so_far, are_more}
use Rattle.tws_moves.proofs.Waits.{waits_back}
use Rattle.tws_moves.proofs.Held.{short_first, step_short, waits_in}
use Rattle.tws_moves.proofs.Least.{three_step, alone_first, alone_second, alone_third, step_is_plain}

-- each pending step is alone before a wait that is not a plain step
pending_apart : (k : Pending) (w : Wait) (rest : List Wait) → is_plain w ≡ false → waits_bytes (pending_waits k ++ (w ∷ rest)) ≡ waits_bytes (pending_waits k) ++ (alone w ++ waits_bytes rest)
pending_apart pending.None w rest other = alone_first w rest other
pending_apart (pending.One a) w rest other =
    alone_second (plain_step a) w rest other ∙ ap (λ (xs : List ℕ). alone (plain_step a) ++ xs) (alone_first w rest other)
pending_apart (pending.Two a b) w rest other =
    alone_third (plain_step a) (plain_step b) w rest other
    ∙ ap (λ (xs : List ℕ). alone (plain_step a) ++ xs) (alone_second (plain_step b) w rest other ∙ ap (λ (xs : List ℕ). alone (plain_step b) ++ xs) (alone_first w rest other))

-- pending steps are written out before a wait that is not a plain step, and then that wait
pub packs_apart : (old more bytes new : List ℕ) (before : Pending) (w : Wait) → is_plain w ≡ false →
    more ≡ old ++ waits_bytes (pending_waits before) → bytes ≡ alone w → new ≡ more ++ bytes →
    Packs old before (w ∷ []) new pending.None
packs_apart old more bytes new before w other more-is bytes-is new-is = record {
  fits = tt;
  bytes = λ rest.
      ap (λ (xs : List ℕ). old ++ xs) (pending_apart before w rest other)
      ∙ sym (append_assoc old (waits_bytes (pending_waits before)) (alone w ++ waits_bytes rest))
      ∙ ap (λ (xs : List ℕ). xs ++ (alone w ++ waits_bytes rest)) (sym more-is)
      ∙ sym (append_assoc more (alone w) (waits_bytes rest))
      ∙ ap (λ (xs : List ℕ). (more ++ xs) ++ waits_bytes rest) (sym bytes-is)
      ∙ ap (λ (xs : List ℕ). xs ++ waits_bytes rest) (sym new-is);
}

-- one after the other
pub packs_join : (old mid new : List ℕ) (before between after : Pending) (v w : List Wait) → Packs old before v mid between → Packs mid between w new after → Packs old before (v ++ w) new after
packs_join old mid new before between after v w first second = record {
  fits = second.fits;
  bytes = λ rest.
      ap (λ (ws : List Wait). old ++ waits_bytes (pending_waits before ++ ws)) (append_assoc v w rest)
      ∙ first.bytes (w ++ rest)
      ∙ second.bytes rest;
}

-- ---- a step in one byte

-- a byte in the layout of a short step
module _ (b t : ℕ) (t-is : t ≡ b / 32) (low : b % 4 ≡ 1) (small : b < 256) where
  -- the one wait that it holds
  pub short_waits : waits_of (b ∷ []) ≡ record { ticks = t; act = Step (b / 4 % 8) } ∷ []
  short_waits =
      let make : ℕ → ℕ → List Wait = λ t d. record { ticks = t; act = Step d } ∷ [] in
      let ticks : bits 5 3 (number_of (b ∷ [])) ≡ t = omega (arith, t-is) in
      let direction : bits 2 3 (number_of (b ∷ [])) ≡ b / 4 % 8 = omega arith in
      let whole : make (bits 5 3 (number_of (b ∷ []))) (bits 2 3 (number_of (b ∷ []))) ≡ make t (b / 4 % 8) = cc in
      waits_in layout.ShortStep (number_of (b ∷ [])) b [] (short_first b low) refl ∙ whole

  -- the byte is the shortest for that wait
  pub short_alone : b ∷ [] ≡ alone (record { ticks = t; act = Step (b / 4 % 8) })
  short_alone =
      let byte : b ≡ (1 + 4 * (b / 4 % 8) + 2 ^ 5 * t) % 256 = omega (arith, low, t-is) in
      ap (λ (n : ℕ). n ∷ []) byte ∙ sym (step_short t (b / 4 % 8) (omega (arith, t-is)))

-- ---- three plain steps in a byte

-- with no step pending, three plain steps are packed into one byte
pub three_steps : (old new : List ℕ) (d e f byte : ℕ) → d < 4 → e < 4 → f < 4 → byte ≡ 4 * d + 16 * e + 64 * f →
    new ≡ old ++ byte ∷ [] → Packs old pending.None (plain_step d ∷ plain_step e ∷ plain_step f ∷ []) new pending.None
three_steps old new d e f byte first second third byte-is new-is = record {
  fits = tt;
  bytes = λ rest.
      ap (λ (xs : List ℕ). old ++ xs) (three_step (plain_step d) (plain_step e) (plain_step f) rest (step_is_plain d first) (step_is_plain e second) (step_is_plain f third))
      ∙ ap (λ (n : ℕ). old ++ (n ∷ waits_bytes rest)) (sym byte-is)
      ∙ sym (append_assoc old (byte ∷ []) (waits_bytes rest))
      ∙ ap (λ (xs : List ℕ). xs ++ waits_bytes rest) (sym new-is);
}

-- ---- pieces

-- one piece is packed
pub packs_piece : (bytes piece after old new : List ℕ) (before next : Pending) → IsPiece piece → bytes ≡ piece ++ after →
    Packs old before (waits_of piece) new next → PacksPieces bytes after old before new next
packs_piece bytes piece after old new before next one split packs = record {
  pieces = piece ∷ [];
  so_far = record { fits = (one, tt); split = split ∙ ap (λ (xs : List ℕ). xs ++ after) (sym (append-nil piece)) };
  packs = subst (λ (ws : List Wait). Packs old before ws new next) (sym (append-nil (waits_of piece))) packs;
}

module _ (bytes rest after : List ℕ) where
  -- some pieces are packed, and then more
  pub packs_more : (old mid new : List ℕ) (before between next : Pending) → PacksPieces bytes rest old before mid between →
      PacksPieces rest after mid between new next → PacksPieces bytes after old before new next
  packs_more old mid new before between next first second = record {
    pieces = first.pieces ++ second.pieces;
    so_far = are_more bytes rest after first.pieces second.pieces first.so_far second.so_far;
    packs = subst (λ (ws : List Wait). Packs old before ws new next) (sym (flat_map-append waits_of first.pieces second.pieces))
        (packs_join old mid new before between next (flat_map waits_of first.pieces)
        (flat_map waits_of second.pieces) first.packs second.packs);
  }

-- ---- all pieces

-- all pieces are packed, and no bytes are left
module _ (bytes rest packed whole : List ℕ) (left : Pending) (all : PacksPieces bytes rest [] pending.None packed left) (none : length rest < 1) where
  spells : Spells bytes (moves_from 0 (flat_map waits_of all.pieces))
  spells = spells_so_far bytes rest all.pieces all.so_far none

  -- the bytes are a spelling
  pub packs_spelling : IsSpelling bytes
  packs_spelling = (moves_from 0 (flat_map waits_of all.pieces), spells)

  -- with the pending steps after it, what was written is the packed bytes
  pub packs_all : whole ≡ packed ++ waits_bytes (pending_waits left) → whole ≡ packed_bytes bytes
  packs_all whole-is =
      let waits = flat_map waits_of all.pieces in
      whole-is
      ∙ ap (λ (ws : List Wait). packed ++ waits_bytes ws) (sym (append-nil (pending_waits left)))
      ∙ sym (all.packs.bytes [])
      ∙ ap waits_bytes (append-nil waits ∙ sym (waits_back 0 waits))
      ∙ sym (packed_are bytes (moves_from 0 waits) spells)
