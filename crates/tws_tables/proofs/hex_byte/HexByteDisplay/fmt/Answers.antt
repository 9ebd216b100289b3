use Rattle.std.proofs.Common.{false, arith, rules}
use Rattle.std.proofs.Output.{has_written_of_eq}
use Rattle.std.proofs.lemmas.Fmt as fmt
use Rattle.tws_tables.proofs.hex_byte.HexByteDisplay.fmt.Goals as goal

pub returns-clause-writes : goal.returns-clause-writes
returns-clause-writes g c = λ plain ok.
    has_written_of_eq _ _ _ _ _ (fmt.hex_byte false c.args.self.now.0 (omega arith)) (search rules)
