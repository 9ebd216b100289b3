use Rattle.tws_file.proofs.Packs.{packed_file_fits, packed_moves, packed_is_shortest, packed_no_longer_text, packed_twice}
use Rattle.tws_file.proofs.laws.packed_files.Goals as goal

pub returns-clause-fits : goal.returns-clause-fits
returns-clause-fits c = packed_file_fits

pub returns-clause-same : goal.returns-clause-same
returns-clause-same c = packed_moves

pub returns-clause-shortest : goal.returns-clause-shortest
returns-clause-shortest c = packed_is_shortest

pub returns-clause-no_longer : goal.returns-clause-no_longer
returns-clause-no_longer c = packed_no_longer_text

pub returns-clause-once : goal.returns-clause-once
returns-clause-once c = packed_twice
