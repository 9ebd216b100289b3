-- Bytes that spell moves, and the shortest bytes that spell the same moves.
use Rattle.std.proofs.Common.{◌≡◌, ℕ, zero, suc, ◌≤◌, List, [], ◌∷◌, ◌++◌, length, ap, sym, subst, ◌∙◌, arith}
use Rattle.std.specs.List.{AllByRecursion}
use Rattle.byte_output.specs.Bytes.{IsBytes}
use Rattle.tws_moves.specs.Move.{Move}
use Rattle.tws_moves.specs.Spelling.{IsPiece, join, Spells, moves_in}
use Rattle.tws_moves.specs.Shortest.{IsShortest, IsSpelled, shortest_of, packed_bytes}
use Rattle.tws_moves.proofs.Spellings.{moves_in_spelled}
use Rattle.tws_moves.proofs.Least.{spelled_timed, spelled_held, spelled_least, held_shortest}

-- ---- bytes

IsBytes-append : (a b : List ℕ) → IsBytes a → IsBytes b → IsBytes (a ++ b)
IsBytes-append [] b fa fb i = fb i
IsBytes-append (x ∷ a) b fa fb zero = fa 0
IsBytes-append (x ∷ a) b fa fb (suc i) = IsBytes-append a b (λ j. fa (suc j)) fb i

-- pieces one after another are bytes
IsBytes-join : (pieces : List (List ℕ)) → AllByRecursion IsPiece pieces → IsBytes (join pieces)
IsBytes-join [] fits i = omega arith
IsBytes-join (piece ∷ pieces) fits i = IsBytes-append piece (join pieces) fits.0.bytes (IsBytes-join pieces fits.1) i

-- a spelling is bytes
pub spelling_is_bytes : (bytes : List ℕ) (moves : List Move) → Spells bytes moves → IsBytes bytes
spelling_is_bytes bytes moves spells = subst IsBytes (sym spells.joined) (IsBytes-join spells.pieces spells.fits)

-- ---- moves that are spelled

-- moves that some bytes spell
module _ (moves : List Move) (spelled : IsSpelled moves) where
  -- the spelling written from the left is a shortest one
  pub shortest : IsShortest (shortest_of moves) moves
  shortest = held_shortest moves (spelled_timed spelled.0 moves spelled.1) (spelled_held spelled.0 moves spelled.1)

  -- it spells these moves
  pub reads_back : moves_in (shortest_of moves) ≡ moves
  reads_back = sym (moves_in_spelled (shortest_of moves) moves shortest.spells)

-- ---- bytes that spell

-- bytes that spell these moves
module _ (bytes : List ℕ) (moves : List Move) (spells : Spells bytes moves) where
  -- the moves are those that the function returns
  moves_are : moves ≡ moves_in bytes
  moves_are = moves_in_spelled bytes moves spells

  -- the packed bytes are the shortest spelling of the moves
  pub packed_are : packed_bytes bytes ≡ shortest_of moves
  packed_are = ap shortest_of (sym moves_are)

  -- the packed bytes spell the same moves, and no fewer bytes do
  pub packed_shortest : IsShortest (packed_bytes bytes) moves
  packed_shortest = subst (λ (xs : List ℕ). IsShortest xs moves) (sym packed_are) (shortest moves (bytes, spells))

  -- packing makes nothing longer
  pub packed_no_longer : length (packed_bytes bytes) ≤ length bytes
  packed_no_longer = omega (arith, ap length packed_are, spelled_least bytes moves spells)

  -- packed bytes stay as they are when packed again
  pub packed_once : packed_bytes (packed_bytes bytes) ≡ packed_bytes bytes
  packed_once = ap shortest_of (sym (moves_in_spelled (packed_bytes bytes) moves packed_shortest.spells) ∙ moves_are)
