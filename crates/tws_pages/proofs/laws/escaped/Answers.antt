use Rattle.tws_pages.proofs.Escapes.{no_marks, only_references, shown_as_itself, text_references, text_unmarked}
use Rattle.tws_pages.proofs.Named.{shows_name}
use Rattle.tws_pages.proofs.laws.escaped.Goals as goal

pub returns-clause-marks : goal.returns-clause-marks
returns-clause-marks c = no_marks

pub returns-clause-references : goal.returns-clause-references
returns-clause-references c = only_references

pub returns-clause-shown : goal.returns-clause-shown
returns-clause-shown c = shown_as_itself

pub returns-clause-text_marks : goal.returns-clause-text_marks
returns-clause-text_marks c = text_unmarked

pub returns-clause-text_references : goal.returns-clause-text_references
returns-clause-text_references c = text_references

pub returns-clause-name_shown : goal.returns-clause-name_shown
returns-clause-name_shown c = shows_name
