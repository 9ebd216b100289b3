use Rattle.std.proofs.Common.{◌≡◌, ℕ, List, Some, sym, subst}
use Rattle.tws_file.specs.declared.file_fault.FileFault.{FileFault}
use Rattle.tws_file.specs.Text.{Record, IsText}
use Rattle.tws_file.specs.TwsFile.{file_of}
use Rattle.tws_reader.specs.PartReader.{HasRead}
use Rattle.tws_reader.specs.Steps.{with_records}
use Rattle.tws_reader.proofs.InParts.{end_ok, end_err, finishes_fault, finishes_whole}
use Rattle.tws_reader.proofs.Lasting.{joined_from}
use Rattle.tws_reader.proofs.reader.Reader.finish.Goals as goal

pub returns-in-Err-clause-finishes : goal.returns-in-Err-clause-finishes
returns-in-Err-clause-finishes g c =
    let r = c.self.inside in
    finishes_fault r.parts r.records c.args.self c.in-Err.fault c.self.view_is c.self.invariant.read c.in-Err.ensures.ends c.in-Err.ensures.kept

pub returns-in-Err-clause-joined : goal.returns-in-Err-clause-joined
returns-in-Err-clause-joined g c = λ bytes taken. joined_from c.args.self bytes _ taken (returns-in-Err-clause-finishes g c)

pub returns-in-Ok-clause-finishes : goal.returns-in-Ok-clause-finishes
returns-in-Ok-clause-finishes g c =
    let r = c.self.inside in
    let ends = subst (λ h. (rs : List Record) (bytes : List ℕ) → HasRead r.parts rs bytes → IsText bytes (with_records h rs)) (sym c.header.view_is) c.in-Ok.ensures.ends in
    let kept = subst (λ h. (k : FileFault) → r.parts.fault ≡ Some k → end_ok h ≡ end_err k) (sym c.header.view_is) c.in-Ok.ensures.kept in
    (finishes_whole r.parts r.records c.args.self (file_of c.header.inside) c.self.view_is c.self.invariant.read ends kept).1

pub returns-in-Ok-clause-joined : goal.returns-in-Ok-clause-joined
returns-in-Ok-clause-joined g c = λ bytes taken. joined_from c.args.self bytes _ taken (returns-in-Ok-clause-finishes g c)
