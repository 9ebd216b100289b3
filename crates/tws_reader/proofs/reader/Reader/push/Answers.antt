use Rattle.std.proofs.Common.{◌≢◌, rules, refl}
use Rattle.tws_file.specs.declared.file_fault.FileFault.TheVariants.{Memory}
use Rattle.tws_reader.proofs.InParts.{whole_room, goes_on, pushes_fault, pushed_taken}
use Rattle.tws_reader.proofs.reader.Reader.push.Goals as goal

pub push_into-requires : goal.push_into-requires
push_into-requires g c =
    let r = c.self.inside in
    whole_room r.parts r.records c.args.self.now c.args.piece.now c.self.view_is c.self.invariant.read c.requires

pub returns-in-Ok-clause-goes_on : goal.returns-in-Ok-clause-goes_on
returns-in-Ok-clause-goes_on g c =
    let r = c.self.inside in
    goes_on r.parts c.push_into.new.self r.records c.push_into.new.records c.args.piece.now c.self.invariant.read c.in-Ok.ensures.appends

pub returns-else-eq-clause-pushes : goal.returns-else-eq-clause-pushes
returns-else-eq-clause-pushes g c =
    let r = c.self.inside in
    let some : c.in-Err.fault ≢ Memory = search rules in
    pushes_fault r.parts c.push_into.new.self r.records c.args.piece.now c.self.invariant.read c.of.result c.args.self.now _ c.in-Err.fault c.self.view_is refl
    (c.in-Err.ensures.fault some) c.in-Err.ensures.kept

pub returns-else-eq-clause-taken : goal.returns-else-eq-clause-taken
returns-else-eq-clause-taken g c = pushed_taken c.args.self.now _ c.args.piece.now _ (returns-else-eq-clause-pushes g c)
