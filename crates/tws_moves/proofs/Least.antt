-- No spelling is shorter than the one written from the left.
use Rattle.std.proofs.Common.{◌≡◌, ◌⊎◌, ℕ, ◌+◌, ◌<◌, ◌≤◌, true, false, ltb, eqb, List, [], ◌∷◌, ◌++◌, length, refl, ap, sym, subst, ◌∙◌, arith, inl, inr, flat_map, length-append, append-nil}
use Rattle.std.specs.List.{AllByRecursion}
use Rattle.std.proofs.lemmas.Bool.{cases_Bool, lt-ltb, and_parts, ltb-true, eqb-true}
use Rattle.tws_moves.specs.declared.act.Act.{Act}
use Rattle.tws_moves.specs.declared.act.Act.TheVariants.{Step, Code}
use Rattle.tws_moves.specs.Move.{Move, Wait, IsTimed, moves_from, waits_from}
use Rattle.tws_moves.specs.Spelling.{IsPiece, waits_of, join, Spells}
use Rattle.tws_moves.specs.Shortest.{IsShortest, shortest_of, alone, is_plain, is_plain_act, waits_bytes, direction_of, three_byte}
use Rattle.tws_moves.specs.Steps.{HasLayout, plain_step}
use Rattle.tws_moves.proofs.Held.{Holds, alone_holds, three_holds}
use Rattle.tws_moves.proofs.Spellings.{spells_pieces}
use Rattle.tws_moves.proofs.Ticks.{moves_alone}
use Rattle.tws_moves.proofs.Waits.{waits_back, moves_back, timed_moves}
use Rattle.tws_moves.proofs.PieceKinds.{One, Three, piece_kind, step_limit}

-- ---- the spelling's two steps

-- three plain steps are written in one byte
pub three_step : (a b c : Wait) (rest : List Wait) → is_plain a ≡ true → is_plain b ≡ true → is_plain c ≡ true → waits_bytes (a ∷ b ∷ c ∷ rest) ≡ three_byte a b c ∷ waits_bytes rest
three_step a b c rest pa pb pc = rw (pa, pb, pc)

-- if one of the next three is not plain, the next one is alone in its piece
pub alone_first : (a : Wait) (rest : List Wait) → is_plain a ≡ false → waits_bytes (a ∷ rest) ≡ alone a ++ waits_bytes rest
alone_first a [] p = sym (append-nil (alone a))
alone_first a (b ∷ []) p = refl
alone_first a (b ∷ c ∷ rest) p = rw p

-- if the second of two is not plain, the first is alone in its piece
pub alone_second : (a b : Wait) (rest : List Wait) → is_plain b ≡ false → waits_bytes (a ∷ b ∷ rest) ≡ alone a ++ waits_bytes (b ∷ rest)
alone_second a b [] p = refl
alone_second a b (c ∷ rest) p = elim (cases_Bool (is_plain a)) [ inl plain ↦ rw (plain, p) | inr other ↦ rw other ]

-- if the third of three is not plain, the first is alone in its piece
pub alone_third : (a b c : Wait) (rest : List Wait) → is_plain c ≡ false → waits_bytes (a ∷ b ∷ c ∷ rest) ≡ alone a ++ waits_bytes (b ∷ c ∷ rest)
alone_third a b c rest p = elim (cases_Bool (is_plain a)) [
  | inl plain ↦ elim (cases_Bool (is_plain b)) [ inl too ↦ rw (plain, too, p) | inr other ↦ rw (plain, other) ]
  | inr other ↦ rw other
]

-- The next three are plain steps, or the next one is alone in its piece.
pub next_step : (a b c : Wait) (rest : List Wait) → ((is_plain a ≡ true) × (is_plain b ≡ true) × (is_plain c ≡ true)) ⊎ (waits_bytes (a ∷ b ∷ c ∷ rest) ≡ alone a ++ waits_bytes (b ∷ c ∷ rest))
next_step a b c rest =
    elim (cases_Bool (is_plain a)) [
      | inl pa ↦ elim (cases_Bool (is_plain b)) [
        | inl pb ↦ elim (cases_Bool (is_plain c)) [
          | inl pc ↦ inl (pa, pb, pc)
          | inr other ↦ inr (alone_third a b c rest other)
        ]
        | inr other ↦ inr (alone_second a b (c ∷ rest) other)
      ]
      | inr other ↦ inr (alone_first a (b ∷ c ∷ rest) other)
    ]

-- ---- a plain step

-- a step in direction 0 to 3 that waits three ticks
pub record Plain (w : Wait) : Type 0 where
  pub direction : ℕ
  pub small : direction < 4
  pub whole : w ≡ record { ticks = 3; act = Step direction }

plain_act : (t : ℕ) (a : Act) → is_plain_act t a ≡ true → Plain (record { ticks = t; act = a })
plain_act t (Step d) p =
    let parts = and_parts (ltb d 4) (eqb t 3) p in
    record {
      direction = d;
      small = ltb-true d 4 parts.0;
      whole = ap (λ (x : ℕ). let w : Wait = record { ticks = x; act = Step d } in w) (eqb-true t 3 parts.1);
    }
plain_act t (Code c) p = absurd cc

-- a wait that passes the test `is_plain` is a plain step
pub plain_is : (w : Wait) → is_plain w ≡ true → Plain w
plain_is w p = plain_act w.ticks w.act p

-- a plain step alone takes one byte
plain_length : (w : Wait) → is_plain w ≡ true → length (alone w) ≡ 1
plain_length w p = let plain = plain_is w p in ap (λ (v : Wait). length (alone v)) plain.whole

-- ---- the length

abbrev pub size : List Wait → ℕ
size waits = length (waits_bytes waits)

alone_size : (w : Wait) (ws : List Wait) → waits_bytes (w ∷ ws) ≡ alone w ++ waits_bytes ws → size (w ∷ ws) ≡ length (alone w) + size ws
alone_size w ws e = omega (arith, ap length e, length-append (alone w) (waits_bytes ws))

-- Two plain steps before other waits never save bytes: either a third follows, or the others are spelled by themselves.
two_more : (b c d : Wait) (rest : List Wait) → is_plain b ≡ true → is_plain c ≡ true → size (d ∷ rest) ≤ length (alone d) + size rest → size (d ∷ rest) ≤ size (b ∷ c ∷ d ∷ rest)
two_more b c d rest pb pc later =
    elim (cases_Bool (is_plain d)) [
      | inl plain ↦ omega (arith, later, plain_length d plain, ap length (three_step b c d rest pb pc plain))
      | inr other ↦ omega (arith, alone_size b (c ∷ d ∷ rest) (alone_third b c d rest other), alone_size c (d ∷ rest) (alone_second c d rest other))
    ]

-- One more wait costs no more than its bytes alone.
one_more_by : (a b c : Wait) (rest : List Wait) → (is_plain b ≡ true → is_plain c ≡ true → size rest ≤ size (b ∷ c ∷ rest)) → size (a ∷ b ∷ c ∷ rest) ≤ length (alone a) + size (b ∷ c ∷ rest)
one_more_by a b c rest fewer =
    elim (next_step a b c rest) [
      | inl plain ↦ omega (arith, fewer plain.1 plain.2, plain_length a plain.0, ap length (three_step a b c rest plain.0 plain.1 plain.2))
      | inr apart ↦ omega (arith, alone_size a (b ∷ c ∷ rest) apart)
    ]

-- one more wait adds at most the bytes that it takes alone
pub one_more : (w : Wait) (ws : List Wait) → size (w ∷ ws) ≤ length (alone w) + size ws
one_more a [] = omega arith
one_more a (b ∷ []) = omega (arith, length-append (alone a) (alone b))
one_more a (b ∷ c ∷ []) = one_more_by a b c [] (λ pb pc. omega arith)
one_more a (b ∷ c ∷ d ∷ rest) =
    let later = one_more d rest in
    one_more_by a b c (d ∷ rest) (λ pb pc. two_more b c d rest pb pc later)

-- ---- no list of pieces is shorter

-- some layout holds a plain step
plain_held : (d : ℕ) → d < 4 → HasLayout (plain_step d)
plain_held d small = record { act = omega arith; ticks = omega (arith, step_limit d) }

-- some layout holds a wait that passes the test of plain steps
pub held_if_plain : (w : Wait) → is_plain w ≡ true → HasLayout w
held_if_plain w p = let plain = plain_is w p in subst HasLayout (sym plain.whole) (plain_held plain.direction plain.small)

-- the direction of such a wait is below 4
pub direction_if_plain : (w : Wait) → is_plain w ≡ true → direction_of w.act < 4
direction_if_plain w p = let plain = plain_is w p in omega (arith, plain.small, ap (λ (v : Wait). direction_of v.act) plain.whole)

-- a plain step passes the test
pub step_is_plain : (d : ℕ) → d < 4 → is_plain (plain_step d) ≡ true
step_is_plain d small = let e = lt-ltb d 4 small in rw e

-- some layout holds each wait, and their spelling has at most `most` bytes
record Within (most : ℕ) (waits : List Wait) : Type 0 where
  held : AllByRecursion HasLayout waits
  least : size waits ≤ most

-- a piece of one wait before waits that fit: the bound grows by the piece's length
within_one : (piece : List ℕ) (rest : List Wait) (most : ℕ) → One piece → Within most rest → Within (length piece + most) (waits_of piece ++ rest)
within_one piece rest most one later =
    rw one.made (record { held = (one.held, later.held); least = omega (arith, one_more one.wait rest, one.short, later.least) })

-- the same for a piece of three plain steps
within_three : (piece : List ℕ) (rest : List Wait) (most : ℕ) → 1 ≤ length piece → Three piece → Within most rest → Within (length piece + most) (waits_of piece ++ rest)
within_three piece rest most some three later =
    let small = three.small in
    rw three.made (record {
      held = (plain_held three.first small.0, (plain_held three.second small.1, (plain_held three.third small.2, later.held)));
      least = omega (
        arith,
        some,
        later.least,
        ap length
            (three_step (plain_step three.first) (plain_step three.second) (plain_step three.third) rest
            (step_is_plain three.first small.0) (step_is_plain three.second small.1) (step_is_plain three.third small.2)),
      );
    })

piece_length_some : (piece : List ℕ) → IsPiece piece → 1 ≤ length piece
piece_length_some [] one = absurd one.whole
piece_length_some (first ∷ rest) one = omega arith

-- the waits of any pieces are spelled by no more bytes than these pieces have
pieces_within : (pieces : List (List ℕ)) → AllByRecursion IsPiece pieces → Within (length (join pieces)) (flat_map waits_of pieces)
pieces_within [] fits = record { held = tt; least = omega arith }
pieces_within (piece ∷ pieces) fits =
    let later = pieces_within pieces fits.1 in
    let rest = flat_map waits_of pieces in
    let most = length (join pieces) in
    let whole : Within (length piece + most) (waits_of piece ++ rest) =
    elim (piece_kind piece fits.0) [
      | inl one ↦ within_one piece rest most one later
      | inr three ↦ within_three piece rest most (piece_length_some piece fits.0) three later
    ] in
    let total : length piece + most ≡ length (piece ++ join pieces) = omega (arith, length-append piece (join pieces)) in
    subst (λ (n : ℕ). Within n (waits_of piece ++ rest)) total whole

-- ---- the spelling as pieces

-- the spelling is a sequence of pieces, which hold the waits
pub record Spelled (waits : List Wait) : Type 0 where
  pub pieces : List (List ℕ)
  pub fits : AllByRecursion IsPiece pieces
  pub joined : waits_bytes waits ≡ join pieces
  pub made : flat_map waits_of pieces ≡ waits

-- a piece before a spelling makes a spelling of its waits and the others
spelled_more : (piece : List ℕ) (prefix rest : List Wait) → Holds piece prefix → waits_bytes (prefix ++ rest) ≡ piece ++ waits_bytes rest → Spelled rest → Spelled (prefix ++ rest)
spelled_more piece prefix rest holds bytes later = record {
  pieces = piece ∷ later.pieces;
  fits = (holds.piece, later.fits);
  joined = bytes ∙ ap (λ (xs : List ℕ). piece ++ xs) later.joined;
  made = ap (λ (ws : List Wait). ws ++ flat_map waits_of later.pieces) holds.made ∙ ap (λ (ws : List Wait). prefix ++ ws) later.made;
}

-- the byte of three plain steps is a piece that holds them
three_hold : (a b c : Wait) → Plain a → Plain b → Plain c → Holds (three_byte a b c ∷ []) (a ∷ b ∷ c ∷ [])
three_hold a b c first second third =
    let all : Holds (three_byte (plain_step first.direction) (plain_step second.direction) (plain_step third.direction) ∷ [])
    (plain_step first.direction ∷ plain_step second.direction ∷ plain_step third.direction ∷ []) =
    three_holds first.direction second.direction third.direction first.small second.small third.small in
    let with_third = subst (λ (x : Wait). Holds (three_byte (plain_step first.direction) (plain_step second.direction) x ∷ [])
    (plain_step first.direction ∷ plain_step second.direction ∷ x ∷ [])) (sym third.whole) all in
    let with_second = subst (λ (x : Wait). Holds (three_byte (plain_step first.direction) x c ∷ []) (plain_step first.direction ∷ x ∷ c ∷ [])) (sym second.whole) with_third in
    subst (λ (x : Wait). Holds (three_byte x b c ∷ []) (x ∷ b ∷ c ∷ [])) (sym first.whole) with_second

-- three plain steps before waits whose spelling is a sequence of pieces
three_spelled : (a b c : Wait) (rest : List Wait) → is_plain a ≡ true → is_plain b ≡ true → is_plain c ≡ true → Spelled rest → Spelled (a ∷ b ∷ c ∷ rest)
three_spelled a b c rest pa pb pc later =
    spelled_more (three_byte a b c ∷ []) (a ∷ b ∷ c ∷ []) rest (three_hold a b c (plain_is a pa) (plain_is b pb) (plain_is c pc)) (three_step a b c rest pa pb pc) later

-- waits that layouts hold have a spelling
pub waits_spelled : (waits : List Wait) → AllByRecursion HasLayout waits → Spelled waits
waits_spelled [] held = record { pieces = []; fits = tt; joined = refl; made = refl }
waits_spelled (a ∷ []) held = spelled_more (alone a) (a ∷ []) [] (alone_holds a held.0) (sym (append-nil (alone a))) (waits_spelled [] tt)
waits_spelled (a ∷ b ∷ []) held = spelled_more (alone a) (a ∷ []) (b ∷ []) (alone_holds a held.0) refl (waits_spelled (b ∷ []) held.1)
waits_spelled (a ∷ b ∷ c ∷ rest) held =
    elim (next_step a b c rest) [
      | inl plain ↦ three_spelled a b c rest plain.0 plain.1 plain.2 (waits_spelled rest held.1.1.1)
      | inr apart ↦ spelled_more (alone a) (a ∷ []) (b ∷ c ∷ rest) (alone_holds a held.0) apart (waits_spelled (b ∷ c ∷ rest) held.1)
    ]

-- ---- moves

-- Timed moves are the moves that their waits make.
pub moves_of_their_waits : (moves : List Move) → IsTimed moves → moves_from 0 (waits_from 0 moves) ≡ moves
moves_of_their_waits moves timed = moves_back 0 moves timed (λ m some. omega arith)

-- Moves that are spelled are timed, and layouts hold their waits.
module _ (bytes : List ℕ) (moves : List Move) (spells : Spells bytes moves) where
  -- the waits of the moves are those of the pieces
  waits_are : waits_from 0 moves ≡ flat_map waits_of spells.pieces
  waits_are = ap (waits_from 0) (moves_alone (flat_map waits_of spells.pieces) moves spells.made) ∙ waits_back 0 (flat_map waits_of spells.pieces)

  -- the moves are timed
  pub spelled_timed : IsTimed moves
  spelled_timed = subst IsTimed (sym (moves_alone (flat_map waits_of spells.pieces) moves spells.made)) (timed_moves 0 (flat_map waits_of spells.pieces))

  -- some layout holds each of their waits
  pub spelled_held : AllByRecursion HasLayout (waits_from 0 moves)
  spelled_held = subst (AllByRecursion HasLayout) (sym waits_are) (pieces_within spells.pieces spells.fits).held

  -- their shortest spelling is no longer than these bytes
  pub spelled_least : length (shortest_of moves) ≤ length bytes
  spelled_least = omega (arith, (pieces_within spells.pieces spells.fits).least, ap size waits_are, ap length spells.joined)

-- timed moves whose waits layouts hold are spelled by the bytes written from the left
pub held_spells : (moves : List Move) → IsTimed moves → AllByRecursion HasLayout (waits_from 0 moves) → Spells (shortest_of moves) moves
held_spells moves timed held =
    let spelled = waits_spelled (waits_from 0 moves) held in
    let all = spells_pieces (shortest_of moves) spelled.pieces spelled.fits spelled.joined in
    subst (Spells (shortest_of moves)) (ap (moves_from 0) spelled.made ∙ moves_of_their_waits moves timed) all

-- the spelling written from the left of timed moves whose waits layouts hold is a shortest one
pub held_shortest : (moves : List Move) → IsTimed moves → AllByRecursion HasLayout (waits_from 0 moves) → IsShortest (shortest_of moves) moves
held_shortest moves timed held = record {
  spells = held_spells moves timed held;
  least = λ others fits spells. spelled_least others moves spells;
}
