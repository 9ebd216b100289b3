-- A file and its blocks: their lengths, and that they make the file again.
use Rattle.std.proofs.Math.Nat.{min_comm}
use Rattle.std.proofs.lemmas.List.{take_min}
use Rattle.std.proofs.Common.{◌≡◌, ℕ, zero, suc, ◌+◌, ◌-◌, ◌*◌, ◌^◌, ◌<◌, ◌≤◌, min, List, [], ◌∷◌, ◌++◌, length, take, drop, refl, ap, sym, ◌∙◌, arith, length-take, length-drop, append-nil}
use Rattle.std.proofs.Math.Seq.{take-add}
use Rattle.std.proofs.lemmas.List.{take_all, take_at, take_rest}
use Rattle.std.proofs.lemmas.List.Folds.{concat-append}
use Rattle.std.specs.List.{concat}
use Rattle.tftp_packet.specs.declared.sizes.TheConstants.{BLOCK_SIZE}
use Rattle.tftp_packet.specs.Blocks.{block_count, block_of, first_blocks, blocks_to, blocks_of}

-- a block has BLOCK_SIZE bytes, or what is left of the file
pub length-block_of : (file : List ℕ) (k : ℕ) → length (block_of file k) ≡ min BLOCK_SIZE (length file - BLOCK_SIZE * (k - 1))
unfolding block_of
length-block_of file k =
    length-take BLOCK_SIZE (drop (BLOCK_SIZE * (k - 1)) file) ∙ ap (min BLOCK_SIZE) (length-drop (BLOCK_SIZE * (k - 1)) file)

-- no block has more than BLOCK_SIZE bytes
pub length-block_of-le : (file : List ℕ) (k : ℕ) → length (block_of file k) ≤ BLOCK_SIZE
length-block_of-le file k = omega (arith, length-block_of file k)

-- the first r blocks, and the next one
pub first_blocks-more : (file : List ℕ) (r : ℕ) → first_blocks file r ++ block_of file (r + 1) ≡ first_blocks file (r + 1)
unfolding block_of
first_blocks-more file r =
    ap (λ (n : ℕ). first_blocks file r ++ take BLOCK_SIZE (drop n file)) (omega arith)
    ∙ sym (take-add (BLOCK_SIZE * r) BLOCK_SIZE file)
    ∙ ap (λ (n : ℕ). take n file) (omega arith)

-- ---- full and short blocks

-- another block follows a full one
pub full_block : (file : List ℕ) (k : ℕ) → 1 ≤ k → length (block_of file k) ≡ BLOCK_SIZE → k < block_count file
full_block file k counted full = omega (arith, length-block_of file k)

-- each block before the last is full
pub block_before : (file : List ℕ) (k : ℕ) → 1 ≤ k → k < block_count file → length (block_of file k) ≡ BLOCK_SIZE
block_before file k counted before = omega (arith, length-block_of file k)

-- only the last block is short
pub short_block : (file : List ℕ) (k : ℕ) → 1 ≤ k → length (block_of file k) < BLOCK_SIZE → block_count file ≤ k
short_block file k counted short = omega (arith, length-block_of file k)

-- the last block is short
pub last_block : (file : List ℕ) (k : ℕ) → block_count file ≤ k → length (block_of file k) < BLOCK_SIZE
last_block file k last = omega (arith, length-block_of file k)

-- a short block ends the file
pub file_end : (file : List ℕ) (k : ℕ) → 1 ≤ k → length (block_of file k) < BLOCK_SIZE → first_blocks file k ≡ file
file_end file k counted short = take_all (BLOCK_SIZE * k) file (omega (arith, length-block_of file k))

-- ---- all blocks

-- the first blocks joined
pub joined_first : (file : List ℕ) (r : ℕ) → concat (blocks_to file r) ≡ first_blocks file r
joined_first file zero = refl
joined_first file (suc r) =
    let next : suc r ≡ r + 1 = omega arith in
    let one : concat (block_of file (suc r) ∷ []) ≡ block_of file (r + 1) = append-nil (block_of file (suc r)) ∙ ap (block_of file) next in
    concat-append (blocks_to file r) (block_of file (suc r) ∷ [])
    ∙ ap (λ (xs : List ℕ). xs ++ concat (block_of file (suc r) ∷ [])) (joined_first file r)
    ∙ ap (λ (xs : List ℕ). first_blocks file r ++ xs) one
    ∙ first_blocks-more file r
    ∙ ap (first_blocks file) (sym next)

-- all blocks, one after another, are the file
pub joined : (file : List ℕ) → concat (blocks_of file) ≡ file
joined file = joined_first file (block_count file) ∙ take_all (BLOCK_SIZE * block_count file) file (omega arith)

-- a file of this length or less has fewer than 2^16 blocks, so two bytes hold each number
pub numbered : (file : List ℕ) → length file ≤ 33553919 → block_count file < 2 ^ 16
numbered file fits = omega arith

-- ---- a block from a file in one piece

-- the first BLOCK_SIZE bytes of what follows the blocks before it are a block
block_of-rest : (file rest : List ℕ) (k number : ℕ) → number ≡ k → rest ≡ drop (BLOCK_SIZE * (number - 1)) file → take BLOCK_SIZE rest ≡ block_of file k
unfolding block_of
block_of-rest file rest k number number-is rest-is =
    ap (take BLOCK_SIZE) rest-is ∙ ap (λ (n : ℕ). take BLOCK_SIZE (drop (BLOCK_SIZE * (n - 1)) file)) number-is

-- `count` bytes of a rest that begins with the block were copied to the start of a buffer
pub copied_prefix : (file rest out copied : List ℕ) (k count : ℕ) → count ≡ min (length rest) BLOCK_SIZE →
    copied ≡ take count rest → take BLOCK_SIZE rest ≡ block_of file k →
    (count ≡ length (block_of file k)) × (take count (copied ++ out) ≡ block_of file k)
copied_prefix file rest out copied k count count-is copied-is is_block =
    let block = ap (λ n. take n rest) count-is ∙ (ap (λ n. take n rest) (min_comm (length rest) BLOCK_SIZE) ∙ take_min BLOCK_SIZE rest) ∙ is_block in
    let size : count ≡ length (take count rest) = omega (arith, length-take count rest) in
    (size ∙ ap length block, take_at copied out count (ap length copied-is ∙ sym size) ∙ copied-is ∙ block)

-- the same for a file in one piece
pub copied_block : (file held rest out copied : List ℕ) (k number count : ℕ) → held ≡ file → number ≡ k →
    rest ≡ take (length held - BLOCK_SIZE * (number - 1)) (drop (BLOCK_SIZE * (number - 1)) held) →
    count ≡ min (length rest) BLOCK_SIZE → copied ≡ take count rest →
    (count ≡ length (block_of file k)) × (take count (copied ++ out) ≡ block_of file k)
copied_block file held rest out copied k number count held-is number-is rest-is count-is copied-is =
    let after = rest-is ∙ take_rest held (BLOCK_SIZE * (number - 1)) ∙ ap (drop (BLOCK_SIZE * (number - 1))) held-is in
    copied_prefix file rest out copied k count count-is copied-is (block_of-rest file rest k number number-is after)
