use Rattle.tftp_ends.proofs.Runs.{first_blocks_held, finishes_whole, sends_once, taken_once}
use Rattle.tftp_ends.proofs.laws.one_pair.Goals as goal

pub returns-clause-blocks : goal.returns-clause-blocks
returns-clause-blocks c = first_blocks_held

pub returns-clause-whole : goal.returns-clause-whole
returns-clause-whole c = finishes_whole

pub returns-clause-once : goal.returns-clause-once
returns-clause-once c = sends_once

pub returns-clause-taken : goal.returns-clause-taken
returns-clause-taken c = taken_once
