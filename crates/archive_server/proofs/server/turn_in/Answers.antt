use Rattle.std.proofs.Common.{ap, ◌∙◌}
use Rattle.archive_server.specs.Timers.{ports_of}
use Rattle.archive_server.proofs.Turns.{visit_room, visit_tracks, turn_in_made}
use Rattle.archive_server.proofs.server.turn_in.Goals as goal

pub apply-requires : goal.apply-requires
apply-requires g c = visit_room _ _ _ _ _ _ _ c.visit-visit.ensures.visit c.requires.tracks (c.visit-visit.ensures.fits c.requires.fits)

pub time_out_late-requires-clause-tracks : goal.time_out_late-requires-clause-tracks
time_out_late-requires-clause-tracks g c =
    ap ports_of c.apply.ensures ∙ visit_tracks _ _ _ _ _ _ _ _ c.visit-visit.ensures.visit c.requires.tracks

pub returns-clause-makes : goal.returns-clause-makes
returns-clause-makes g c = turn_in_made _ _ _ _ _ _ _ _ _ _ c.visit-visit.ensures.visit c.apply.ensures c.time_out_late.ensures.walks
