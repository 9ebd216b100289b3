use Rattle.std.proofs.Common.{◌*◌, take}
use Rattle.std.specs.Io.KnownBytes.{Appends}
use Rattle.tftp_ends.specs.declared.chunks.TheConstants.{CHUNK_SIZE}
use Rattle.tftp_ends.proofs.received.Received.write_to.Given as goal

abbrev pub invariant-loop-i : goal.invariant-loop-i
invariant-loop-i g l = Appends (g.W.Write.contents l.fn.out) (g.W.Write.contents l.out) (take (CHUNK_SIZE * l.i) l.self)
