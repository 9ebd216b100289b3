use Rattle.tftp_ends.proofs.Chunking.{joined_chunks, full_chunk, some_chunk, most_chunk}
use Rattle.tftp_ends.proofs.laws.joined_chunks.Goals as goal

pub returns-clause-joined : goal.returns-clause-joined
returns-clause-joined c = joined_chunks

pub returns-clause-full : goal.returns-clause-full
returns-clause-full c = full_chunk

pub returns-clause-some : goal.returns-clause-some
returns-clause-some c = some_chunk

pub returns-clause-most : goal.returns-clause-most
returns-clause-most c = most_chunk
