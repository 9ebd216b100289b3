-- Pieces are a prefix code: none is a prefix of another.
use Rattle.std.proofs.Common.{◌≡◌, ℕ, ◌≤◌, List, [], ◌∷◌, ◌++◌, length, ap, arith, length-append}
use Rattle.tws_moves.specs.declared.layout.Layout.{Layout}
use Rattle.tws_moves.specs.declared.layout.Layout.TheVariants as layout
use Rattle.tws_moves.specs.Spelling.{IsPiece, layout_of, layout_length, piece_length}
use Rattle.tws_moves.specs.Steps.{IsPieceCut}
use Rattle.tws_moves.proofs.Codes.{IsCode, BeginsNoWord}
use Rattle.byte_output.proofs.Lists.{append_parts}

-- the bytes of a piece are the piece itself
abbrev pub itself : List ℕ → List ℕ
itself piece = piece

pub pieces_are_code : IsCode IsPiece itself
pieces_are_code [] q x y fp fq e = absurd fp.whole
pieces_are_code (a ∷ p) [] x y fp fq e = absurd fq.whole
pieces_are_code (a ∷ p) (b ∷ q) x y fp fq e =
    let head : a ≡ b = cc in
    append_parts (a ∷ p) (b ∷ q) x y (omega (arith, fp.whole, fq.whole, ap piece_length head)) e

-- no piece is a prefix of no bytes
pub none_begins_none : BeginsNoWord IsPiece itself []
none_begins_none [] more fits e = absurd fits.whole
none_begins_none (a ∷ p) more fits e = absurd cc

-- bytes that are cut do not begin with a piece
pub cut_begins_none : (rest : List ℕ) → IsPieceCut rest → BeginsNoWord IsPiece itself rest
cut_begins_none rest cut [] more fits e = absurd fits.whole
cut_begins_none [] cut (a ∷ p) more fits e = absurd cc
cut_begins_none (b ∷ rest) cut (a ∷ p) more fits e =
    let head : b ≡ a = cc in
    let tail : rest ≡ p ++ more = cc in
    absurd (omega (arith, cut, fits.whole, ap piece_length head, ap length tail, length-append p more))

-- each layout has at least one byte
layout_some : (l : Layout) (first : ℕ) → 1 ≤ layout_length l first
layout_some layout.ThreeSteps first = omega arith
layout_some layout.ShortStep first = omega arith
layout_some layout.MiddleStep first = omega arith
layout_some layout.LongStep first = omega arith
layout_some layout.Code first = omega arith

-- a piece has at least one byte
pub piece_some : (first : ℕ) → 1 ≤ piece_length first
piece_some first = layout_some (layout_of first) first
