-- How a file is cut into blocks (RFC 1350 sections 2 and 6): BLOCK_SIZE bytes each, except the last, which has fewer.
-- They are counted from 1. The last block of a file whose length is a multiple of BLOCK_SIZE is empty.
use Rattle.std.specs.Prelude.{ℕ, zero, suc, ◌+◌, ◌-◌, ◌*◌, ◌/◌, List, [], ◌∷◌, ◌++◌, length, take, drop}
use Rattle.tftp_packet.specs.declared.sizes.TheConstants.{BLOCK_SIZE}

abbrev pub block_count : List ℕ → ℕ
block_count file = length file / BLOCK_SIZE + 1

-- the bytes from BLOCK_SIZE * (k - 1) up to BLOCK_SIZE * k or the end
unfoldable pub block_of : List ℕ → ℕ → List ℕ
block_of file k = take BLOCK_SIZE (drop (BLOCK_SIZE * (k - 1)) file)

-- the bytes of the first r blocks
abbrev pub first_blocks : List ℕ → ℕ → List ℕ
first_blocks file r = take (BLOCK_SIZE * r) file

-- blocks 1 to r, in order
abbrev pub blocks_to : List ℕ → ℕ → List (List ℕ)
blocks_to file zero = []
blocks_to file (suc r) = blocks_to file r ++ block_of file (suc r) ∷ []

-- all blocks of the file
abbrev pub blocks_of : List ℕ → List (List ℕ)
blocks_of file = blocks_to file (block_count file)
