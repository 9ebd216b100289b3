-- The page of the files that were read from several inputs.
use Rattle.std.proofs.Common.{◌≡◌, ℕ, List, Option, inr}
use Rattle.tws_file.specs.Text.{File}
use Rattle.byte_output.specs.Output.{AppendsPrefix}
use Rattle.byte_output.specs.declared.out_fault.OutFault.{OutFault}
use Rattle.byte_output.specs.declared.out_fault.OutFault.TheVariants as out
use Rattle.command_line.specs.Faults.{written_fault}
use Rattle.tws_pages.specs.declared.level.Level.{Level}
use Rattle.tws_pages.specs.LevelPage.{page_by}
use Rattle.show_commands.specs.SeveralInputs.{AreFiles}
use Rattle.file_commands.specs.Page.{PageFails}

-- the page of the files that were read was not written whole
pub page_fails : (title : Option (List ℕ)) (levels : Option (List Level)) (fault : OutFault) (knowns : List (Option (List ℕ))) (files : List File) (old new : Option (List ℕ)) → AreFiles knowns files →
    AppendsPrefix old new (page_by title levels files) → PageFails title levels knowns old new (written_fault fault)
page_fails title levels out.Io knowns files old new are part = (files, are, part)
page_fails title levels out.Memory knowns files old new are part = inr (files, are, part)

-- the same title and levels
pub same_page : (given title : Option (List ℕ)) (lent levels : Option (List Level)) (files : List File) → given ≡ title → lent ≡ levels
    → page_by given lent files ≡ page_by title levels files
same_page given title lent levels files title-is levels-is = cc
