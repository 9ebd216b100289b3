-- What a command says of files on standard error, when all is done.
use Rattle.std.specs.Prelude.{ℕ, List, Option, IfSome}
use Rattle.tws_file.specs.Text.{File, IsText}
use Rattle.command_line.specs.Saying.{Says}
use Rattle.show_commands.specs.SeveralInputs.{AreFiles}

-- what this says of the file in an input of which so much is known
abbrev pub SaysOf : (said : File → List ℕ) → (Silent : Type 0) → (known old new : Option (List ℕ)) → Type 0
SaysOf said Silent known old new = (file : File) × IfSome known (λ (bytes : List ℕ). IsText bytes file) × Says (said file) Silent old new

-- the same of the files in several inputs
abbrev pub SaysOfFiles : (said : List File → List ℕ) → (Silent : Type 0) → (knowns : List (Option (List ℕ))) → (old new : Option (List ℕ)) → Type 0
SaysOfFiles said Silent knowns old new = (files : List File) × AreFiles knowns files × Says (said files) Silent old new
