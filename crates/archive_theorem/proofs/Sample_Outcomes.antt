-- The outcomes of some runs, each computed from its events.
use Rattle.std.proofs.Common.{◌≡◌, [], ◌∷◌, refl}
use Rattle.tftp_packet.specs.Packet.{encode}
use Rattle.tftp_packet.specs.Decode.{decode_bytes}
use Rattle.tftp_packet.specs.Blocks.{block_of}
use Rattle.archive_model.specs.World.{to_write, run}
use Rattle.archive_theorem.specs.Samples.{request_twice, late_ack, crossed_get, unanswered, strange_put, restart_between, empty_put, empty_get, lost_block, barred_strays, summary_of, sample_opening, one_put_summary, no_file_summary, crossed_get_summary, strange_put_summary, restart_summary, empty_put_summary, empty_get_summary, lost_block_summary}

pub request_twice-comes : summary_of (run request_twice) ≡ one_put_summary 6 (sample_opening 1 4000 to_write 0 ∷ sample_opening 1 4001 to_write 0 ∷ [])
unfolding encode decode_bytes block_of
request_twice-comes = refl

pub late_ack-comes : summary_of (run late_ack) ≡ one_put_summary 10 (sample_opening 1 4000 to_write 0 ∷ [])
unfolding encode decode_bytes block_of
late_ack-comes = refl

pub crossed_get-comes : summary_of (run crossed_get) ≡ crossed_get_summary
unfolding encode decode_bytes block_of
crossed_get-comes = refl

pub unanswered-comes : summary_of (run unanswered) ≡ no_file_summary 5
unfolding encode decode_bytes block_of
unanswered-comes = refl

pub strange_put-comes : summary_of (run strange_put) ≡ strange_put_summary
unfolding encode decode_bytes block_of
strange_put-comes = refl

pub restart_between-comes : summary_of (run restart_between) ≡ restart_summary
unfolding encode decode_bytes block_of
restart_between-comes = refl

pub empty_put-comes : summary_of (run empty_put) ≡ empty_put_summary
unfolding encode decode_bytes block_of
empty_put-comes = refl

pub empty_get-comes : summary_of (run empty_get) ≡ empty_get_summary
unfolding encode decode_bytes block_of
empty_get-comes = refl

pub lost_block-comes : summary_of (run lost_block) ≡ lost_block_summary
unfolding encode decode_bytes block_of
lost_block-comes = refl

pub barred_strays-comes : summary_of (run barred_strays) ≡ no_file_summary 1
unfolding encode decode_bytes block_of
barred_strays-comes = refl
