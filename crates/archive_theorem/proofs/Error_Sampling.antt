-- The outcomes of some runs in which a put fails, each computed from its events.
use Rattle.std.proofs.Common.{[], refl}
use Rattle.tftp_packet.specs.declared.cause.Cause.TheVariants.{Refused, TimedOut}
use Rattle.tftp_packet.specs.Packet.{encode}
use Rattle.tftp_packet.specs.Decode.{decode_bytes}
use Rattle.tftp_packet.specs.Blocks.{block_of}
use Rattle.archive_model.specs.World.{run, start, AllMerged}
use Rattle.archive_theorem.specs.Headline.{HasOwnPorts}
use Rattle.archive_theorem.specs.Errors.{HasFailed}
use Rattle.archive_theorem.specs.Samples.{sample_client}
use Rattle.archive_theorem.specs.Error_Samples.{unkept_put, found_put, late_put, stale_put, put_taken, PutFails}
use Rattle.archive_theorem.proofs.Sample_Takings.{merged-by}
use Rattle.archive_theorem.proofs.Port_Sample.{own-by}
use Rattle.archive_theorem.proofs.Sample_Put.{empty_merged}

unkept-own : HasOwnPorts (run unkept_put)
unfolding encode decode_bytes block_of
unkept-own = own-by (run unkept_put) refl refl refl

unkept-merged : AllMerged unkept_put start
unfolding encode decode_bytes block_of
unkept-merged = merged-by unkept_put start tt

unkept-failed : HasFailed (run unkept_put) (sample_client 1) (Refused 0)
unfolding encode decode_bytes block_of
unkept-failed = record { client = _; is = refl; failed_by = refl }

pub unkept-fails : PutFails unkept_put (Refused 0) [] []
unfolding encode decode_bytes block_of
unkept-fails = record { own = unkept-own; merged = unkept-merged; fails = unkept-failed; taken_is = refl; recovered_is = refl }

found-own : HasOwnPorts (run found_put)
unfolding encode decode_bytes block_of
found-own = own-by (run found_put) refl refl refl

found-merged : AllMerged found_put start
unfolding encode decode_bytes block_of
found-merged = merged-by found_put start (empty_merged, tt)

found-failed : HasFailed (run found_put) (sample_client 1) (Refused 0)
unfolding encode decode_bytes block_of
found-failed = record { client = _; is = refl; failed_by = refl }

pub found-fails : PutFails found_put (Refused 0) put_taken put_taken
unfolding encode decode_bytes block_of
found-fails = record { own = found-own; merged = found-merged; fails = found-failed; taken_is = refl; recovered_is = refl }

late-own : HasOwnPorts (run late_put)
unfolding encode decode_bytes block_of
late-own = own-by (run late_put) refl refl refl

late-merged : AllMerged late_put start
unfolding encode decode_bytes block_of
late-merged = merged-by late_put start (empty_merged, tt)

late-failed : HasFailed (run late_put) (sample_client 1) TimedOut
unfolding encode decode_bytes block_of
late-failed = record { client = _; is = refl; failed_by = refl }

pub late-fails : PutFails late_put TimedOut put_taken []
unfolding encode decode_bytes block_of
late-fails = record { own = late-own; merged = late-merged; fails = late-failed; taken_is = refl; recovered_is = refl }

stale-own : HasOwnPorts (run stale_put)
unfolding encode decode_bytes block_of
stale-own = own-by (run stale_put) refl refl refl

stale-merged : AllMerged stale_put start
unfolding encode decode_bytes block_of
stale-merged = merged-by stale_put start (empty_merged, tt)

stale-failed : HasFailed (run stale_put) (sample_client 1) (Refused 5)
unfolding encode decode_bytes block_of
stale-failed = record { client = _; is = refl; failed_by = refl }

pub stale-fails : PutFails stale_put (Refused 5) put_taken []
unfolding encode decode_bytes block_of
stale-fails = record { own = stale-own; merged = stale-merged; fails = stale-failed; taken_is = refl; recovered_is = refl }
