use Rattle.std.proofs.Common.{◌≡◌, ◌*◌, take}
use Rattle.tftp_ends.specs.declared.chunks.TheConstants.{CHUNK_SIZE}
use Rattle.tftp_ends.proofs.received.Received.to_vec.Given as goal

abbrev pub invariant-loop-i : goal.invariant-loop-i
invariant-loop-i g l = l.bytes.items ≡ take (CHUNK_SIZE * l.i) l.self
