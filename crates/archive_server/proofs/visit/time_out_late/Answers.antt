use Rattle.std.proofs.Common.{◌∙◌}
use Rattle.archive_server.proofs.Following.{walks_none, walks_at, tracks_at}
use Rattle.archive_server.proofs.Dallying.{falls_none, falls_at, has_given_way}
use Rattle.archive_server.proofs.visit.time_out_late.Goals as goal

pub loop-port-init : goal.loop-port-init
loop-port-init g c = (walks_none _ _ _ _, record { fits = c.requires.fits; tracks = c.requires.tracks }, falls_none _)

pub loop-port-preserved : goal.loop-port-preserved
loop-port-preserved g c =
    (walks_at _ _ _ _ _ _ _ _ _ _ _ c.loop-port-test.true c.loop-port.invariant.0 c.time_out-change.ensures.timeout c.apply_timeout.ensures, tracks_at _ _ _ _ _ _ _ c.loop-port.invariant.1 c.time_out-change.ensures.timeout c.apply_timeout.ensures c.time_out-change.ensures.fits, falls_at _ _ _ _ _ _ c.loop-port-test.true c.loop-port.invariant.2 c.time_out-change.ensures.timeout.server c.loop-port.invariant.1.fits.ordered)

pub returns-clause-given_way : goal.returns-clause-given_way
returns-clause-given_way g c =
    has_given_way c.args.mode c.args.change c.args.timers.now c.args.table.now c.loop-port.table c.as_slice-port-items.result.now c.loop-port.port-index
    (record { fits = c.requires.fits; tracks = c.requires.tracks }) c.loop-port.invariant.1.fits
    c.loop-port-test.false (c.as_slice-port-items.ensures.value ∙ c.late-ports.ensures) c.loop-port.invariant.2
