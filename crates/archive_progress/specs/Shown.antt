-- What a wire writes to the terminal.
use Rattle.std.specs.Prelude.{◌≡◌, ◌⊎◌, ℕ, Bool, true, false, List, Option, None, Some}
use Rattle.std.specs.Io.KnownBytes.{Appends}
use Rattle.byte_output.specs.Output.{AppendsPrefix}
use Rattle.archive_progress.specs.declared.progress.Progress.{Progress}
use Rattle.archive_progress.specs.Text.{drawing_of, erasure}

-- what is known of what was written to the terminal, if there is one
abbrev pub contents_of : {W : Type 0} (contents : W → Option (List ℕ)) → (terminal : Option W) → Option (List ℕ)
contents_of contents None = None
contents_of contents (Some terminal) = contents terminal

-- A text was written, or a proper prefix of it if the terminal failed.
abbrev pub Writes : (old new : Option (List ℕ)) (text : List ℕ) → Type 0
Writes old new text = Appends old new text ⊎ AppendsPrefix old new text

-- The line was drawn, if that was due.
abbrev pub Draws : (due : Option Progress) (old new : Option (List ℕ)) → Type 0
Draws None old new = new ≡ old
Draws (Some progress) old new = Writes old new (drawing_of progress)

-- The line was erased, if it was drawn.
abbrev pub Erases : (is_drawn : Bool) (old new : Option (List ℕ)) → Type 0
Erases false old new = new ≡ old
Erases true old new = Writes old new erasure
