-- The line that shows how far a transfer has come, and what is written to draw and to erase it.
use Rattle.std.specs.Prelude.{ℕ, ◌-◌, ◌*◌, ◌/◌, max, List, [], ◌∷◌, ◌++◌, codes, decimal, Option, None, Some}
use Rattle.std.specs.Option.{option_map}
use Rattle.tftp_packet.specs.declared.sizes.TheConstants.{BLOCK_SIZE}
use Rattle.archive_progress.specs.declared.progress.Progress.{Progress}

-- the bytes of the blocks, none of which is the last of its file
abbrev pub bytes_of : Progress → ℕ
bytes_of p = p.blocks * BLOCK_SIZE

-- how many of them came in a second, on average
abbrev pub rate_of : Progress → ℕ
rate_of p = bytes_of p * 1000 / max p.millis 1

-- how many bytes of the file are left, if its length is known
abbrev pub left_of : Progress → Option ℕ
left_of p = option_map (λ length. length - bytes_of p) p.length

abbrev pub left_text : (left : Option ℕ) → List ℕ
left_text None = []
left_text (Some left) = codes ", " ++ (decimal left ++ codes " bytes left")

-- the line without its end
abbrev pub progress_text : Progress → List ℕ
progress_text p = (codes "block " ++ (decimal p.blocks ++ (codes ", " ++ (decimal (bytes_of p) ++ (codes " bytes, " ++ (decimal (rate_of p) ++ codes " bytes/s")))))) ++ left_text (left_of p)

-- what erases the line on which a terminal is: a carriage return, and ECMA-48's 'erase in line'
abbrev pub erasure : List ℕ
erasure = 13 ∷ 27 ∷ 91 ∷ 75 ∷ []

-- what draws the line in place of what was there
abbrev pub drawing_of : Progress → List ℕ
drawing_of p = erasure ++ progress_text p
