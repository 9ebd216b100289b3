-- The chunks of a received file: CHUNK_SIZE bytes each, except the last, which has 1 to CHUNK_SIZE. They are counted
-- from 0. An empty file has none.
use Rattle.std.specs.Prelude.{ℕ, zero, suc, ◌+◌, ◌-◌, ◌*◌, ◌/◌, List, [], ◌∷◌, ◌++◌, length, take, drop}
use Rattle.tftp_ends.specs.declared.chunks.TheConstants.{CHUNK_SIZE}

abbrev pub chunk_count : List ℕ → ℕ
chunk_count file = (length file + (CHUNK_SIZE - 1)) / CHUNK_SIZE

-- the bytes from CHUNK_SIZE * i up to CHUNK_SIZE * (i + 1) or the end
unfoldable pub chunk_of : List ℕ → ℕ → List ℕ
chunk_of file i = take CHUNK_SIZE (drop (CHUNK_SIZE * i) file)

-- the first n chunks, in order
abbrev pub chunks_to : List ℕ → ℕ → List (List ℕ)
chunks_to file zero = []
chunks_to file (suc n) = chunks_to file n ++ chunk_of file n ∷ []

-- all chunks of the file
abbrev pub chunks_of : List ℕ → List (List ℕ)
chunks_of file = chunks_to file (chunk_count file)
