use Rattle.tftp_packet.proofs.Cutting.{full_block, block_before, short_block, last_block, length-block_of-le}
use Rattle.tftp_packet.proofs.laws.block_sizes.Goals as goal

pub returns-clause-full : goal.returns-clause-full
returns-clause-full c = λ file k counted. (full_block file k counted, block_before file k counted)

pub returns-clause-short : goal.returns-clause-short
returns-clause-short c = λ file k counted. (short_block file k counted, last_block file k)

pub returns-clause-most : goal.returns-clause-most
returns-clause-most c = length-block_of-le
