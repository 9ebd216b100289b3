-- Inputs of which less is known: what was written of the others was written of these. These lemmas are laws of the
-- commands.
use Rattle.std.specs.Prelude.{◌≡◌, ℕ, List, [], ◌∷◌, Option, Some, None, IfSome}
use Rattle.std.proofs.Common.{subst}
use Rattle.tws_file.specs.Text.{File, IsText}
use Rattle.show_commands.specs.declared.show.ShowArguments.{ShowArguments}
use Rattle.show_commands.specs.Show.{ShowPrefix, ShowWrites}
use Rattle.show_commands.specs.SeveralInputs.{AreFiles, AreLessKnown, AreReported}

-- bytes that are known of these are known of the others
pub reported_less : (more less : List (Option (List ℕ))) (texts : List (List ℕ)) → AreLessKnown more less → AreReported less texts → AreReported more texts
reported_less [] [] texts are reported = reported
reported_less [] (left ∷ less) texts are reported = absurd are
reported_less (known ∷ more) [] texts are reported = absurd are
reported_less (known ∷ more) (left ∷ less) [] are reported = reported
reported_less (known ∷ more) (left ∷ less) (text ∷ texts) are reported =
    (subst (λ (o : Option (List ℕ)). IfSome o (λ (bytes : List ℕ). known ≡ Some bytes)) reported.0 are.0, reported_less more less texts are.1 reported.1)

-- a text of an input of which more is known
text_less : (known left : Option (List ℕ)) (file : File) → IfSome left (λ (bytes : List ℕ). known ≡ Some bytes) → IfSome known (λ (bytes : List ℕ). IsText bytes file) → IfSome left (λ (bytes : List ℕ). IsText bytes file)
text_less known None file is text = tt
text_less known (Some bytes) file is text = subst (λ (o : Option (List ℕ)). IfSome o (λ (xs : List ℕ). IsText xs file)) is text

-- the files whose texts the others are
pub files_less : (more less : List (Option (List ℕ))) (files : List File) → AreLessKnown more less → AreFiles more files → AreFiles less files
files_less [] [] files are texts = texts
files_less [] (left ∷ less) files are texts = absurd are
files_less (known ∷ more) [] files are texts = absurd are
files_less (known ∷ more) (left ∷ less) [] are texts = texts
files_less (known ∷ more) (left ∷ less) (file ∷ files) are texts = (text_less known left file are.0 texts.0, files_less more less files are.1 texts.1)

-- ---- what was written

pub show_writes_less : (arguments : ShowArguments) (more less : List (Option (List ℕ))) (old new : Option (List ℕ)) → AreLessKnown more less → ShowWrites arguments more old new → ShowWrites arguments less old new
show_writes_less arguments more less old new are wrote = (wrote.0, files_less more less wrote.0 are wrote.1, wrote.2)

pub show_prefix_less : (arguments : ShowArguments) (more less : List (Option (List ℕ))) (old new : Option (List ℕ)) → AreLessKnown more less → ShowPrefix arguments more old new → ShowPrefix arguments less old new
show_prefix_less arguments more less old new are wrote = (wrote.0, files_less more less wrote.0 are wrote.1, wrote.2)
