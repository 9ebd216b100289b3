-- The sample runs meet the premises of the law.
use Rattle.std.proofs.Common.{◌≡◌, ℕ, suc, refl, arith}
use Rattle.tftp_packet.specs.Packet.{encode}
use Rattle.tftp_packet.specs.Decode.{decode_bytes}
use Rattle.tftp_packet.specs.Blocks.{block_of}
use Rattle.archive_model.specs.World.{run, start, AllMerged}
use Rattle.archive_theorem.specs.Headline.{HasOwnPorts}
use Rattle.archive_theorem.specs.Samples.{crossed_get, strange_put, restart_between, opened_again}
use Rattle.archive_theorem.proofs.Sample_Takings.{merged-by}
use Rattle.archive_theorem.proofs.Port_Sample.{own-by}
use Rattle.archive_theorem.proofs.Sample_Files.{hundred-first, ninety-first, ninety-better, hundred-worse}

crossed_get-own : HasOwnPorts (run crossed_get)
unfolding encode decode_bytes block_of
crossed_get-own = own-by (run crossed_get) refl refl refl

crossed_get-merged : AllMerged crossed_get start
unfolding encode decode_bytes block_of
crossed_get-merged = merged-by crossed_get start (hundred-first, (ninety-better, tt))

-- in this run no port is reused, and each file makes the collections
pub crossed_get-meets : HasOwnPorts (run crossed_get) × AllMerged crossed_get start
crossed_get-meets = (crossed_get-own, crossed_get-merged)

strange_put-own : HasOwnPorts (run strange_put)
unfolding encode decode_bytes block_of
strange_put-own = own-by (run strange_put) refl refl refl

strange_put-merged : AllMerged strange_put start
unfolding encode decode_bytes block_of
strange_put-merged = merged-by strange_put start (ninety-first, (hundred-worse, tt))

-- in this run no port is reused, and each file makes the collections
pub strange_put-meets : HasOwnPorts (run strange_put) × AllMerged strange_put start
strange_put-meets = (strange_put-own, strange_put-merged)

restart_between-own : HasOwnPorts (run restart_between)
unfolding encode decode_bytes block_of
restart_between-own = own-by (run restart_between) refl refl refl

restart_between-merged : AllMerged restart_between start
unfolding encode decode_bytes block_of
restart_between-merged = merged-by restart_between start (hundred-first, tt)

-- in this run no port is reused, and each file makes the collections
pub restart_between-meets : HasOwnPorts (run restart_between) × AllMerged restart_between start
restart_between-meets = (restart_between-own, restart_between-merged)

pub not_next : {P : Type 0} (i : ℕ) → i ≡ suc i → P
not_next i e = absurd (omega arith)

-- in this run a port is reused
pub opened_again-breaks : HasOwnPorts (run opened_again) → ⊥
unfolding encode decode_bytes block_of
opened_again-breaks own = not_next 0 (own.openings 0 1 _ _ refl refl refl refl)
