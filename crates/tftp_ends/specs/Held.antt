-- The bytes in a receiver's chunks. Only for private functions.
use Rattle.std.specs.Prelude.{◌≡◌, ℕ, ◌≤◌, List, ◌++◌, length}
use Rattle.std.specs.List.{concat, AllByRecursion}
use Rattle.tftp_ends.specs.declared.limits.TheConstants.{MAX_FILE}
use Rattle.tftp_ends.specs.declared.chunks.TheConstants.{CHUNK_SIZE}
use Rattle.tftp_ends.specs.declared.chunks.Chunks.TheInside as chunks

abbrev pub IsFull : List ℕ → Type 0
IsFull chunk = length chunk ≡ CHUNK_SIZE

abbrev pub AllFull : List (List ℕ) → Type 0
AllFull held = AllByRecursion IsFull held

abbrev pub bytes_of : {A : Type 0} → chunks.Inside A → List ℕ
bytes_of c = concat c.full.items ++ c.last.items

pub record IsChunks {A : Type 0} (c : chunks.Inside A) : Type 0 where
  pub whole : AllFull c.full.items
  pub within : length c.last.items ≤ CHUNK_SIZE
  pub room : length (bytes_of c) ≤ MAX_FILE
