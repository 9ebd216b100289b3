-- What a command said on standard error.
use Rattle.std.proofs.Common.{◌≡◌, ◌∙◌, ◌≢◌, ℕ, List, [], ◌∷◌, Option, Some, None, Result, OnOk, refl, sym, subst}
use Rattle.std.specs.Io.KnownBytes.{Appends}
use Rattle.tws_file.specs.declared.«ruleset».Ruleset.TheVariants.{Lynx}
use Rattle.tws_file.specs.Text.{File}
use Rattle.command_line.specs.declared.tool_fault.ToolFault.{ToolFault}
use Rattle.command_line.specs.Faults.{answer_status}
use Rattle.command_line.proofs.Statuses.{at_zero}
use Rattle.show_commands.specs.Knowing.{files_less}
use Rattle.command_line.specs.Saying.{Says}
use Rattle.show_commands.specs.Saying.{SaysOf, SaysOfFiles}
use Rattle.show_commands.specs.SeveralInputs.{AreLessKnown}
use Rattle.show_commands.specs.Written.{Writes}

-- there was nothing to say
pub says_none : (text : List ℕ) (Silent : Type 0) (old new : Option (List ℕ)) → text ≡ [] → Silent → Says text Silent old new
says_none text Silent old new none silent = subst (λ (t : List ℕ). Says t Silent old new) (sym none) silent

-- the whole text was written
pub says_some : (text : List ℕ) (Silent : Type 0) (old new : Option (List ℕ)) → text ≢ [] → Appends old new text → Says text Silent old new
says_some [] Silent old new some wrote = absurd (some refl)
says_some (code ∷ text) Silent old new some wrote = wrote

-- what a command left of standard error is still so if the report of its end says nothing
pub still : {E : Type 0} (P : E → Type 0) (left new : E) (r : Result (Unit {0}) ToolFault) (status : ℕ) → status ≡ answer_status r → OnOk r (P left) →
    (status ≡ 0 → new ≡ left) → status ≡ 0 → P new
still P left new r status is holds silent zero = subst P (sym (silent zero)) (at_zero r holds (sym is ∙ zero))

-- ---- nothing is said of any file

no_file : File
no_file = record { «ruleset» = Lynx; word = []; extra = []; records = [] }

-- of the file whose text was written
pub silent_of : (text : File → List ℕ) (Silent : Type 0) (known old new before after : Option (List ℕ)) → Writes text known old new → Silent → SaysOf (λ (file : File). []) Silent known before after
silent_of text Silent None old new before after wrote silent = (no_file, tt, silent)
silent_of text Silent (Some bytes) old new before after wrote silent = (wrote.0, wrote.1, silent)

-- ---- what is said of several files

-- it is said also of inputs of which less is known
pub says_less : (said : List File → List ℕ) (Silent : Type 0) (more less : List (Option (List ℕ))) (old new : Option (List ℕ)) → AreLessKnown more less →
    SaysOfFiles said Silent more old new → SaysOfFiles said Silent less old new
says_less said Silent more less old new are says = (says.0, files_less more less says.0 are says.1, says.2)
