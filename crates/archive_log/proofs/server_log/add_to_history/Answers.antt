use Rattle.std.proofs.Common.{Option, Some, ap, ◌∙◌, subst, sym}
use Rattle.archive_table.specs.Table.{Taken}
use Rattle.archive_history.specs.History.{stem_text}
use Rattle.archive_history.specs.Kept.{without_pads}
use Rattle.archive_log.specs.ServerLog.{KeepsFile}
use Rattle.archive_log.proofs.Recording.{keeps_by, readable_by}
use Rattle.archive_log.proofs.server_log.add_to_history.Goals as goal

pub returns-in-Ok-clause-history : goal.returns-in-Ok-clause-history
returns-in-Ok-clause-history g c = λ modelled undoes.
    let m = g.H.Folder.model in
    let taken = c.args.taken.now in
    let rules = c.in-Some-ruleset.«ruleset» in
    let stem-is = ap (λ (t : Taken). stem_text c.args.time.now t.peer rules) c.taken.view_is in
    subst (λ (h : Option _). KeepsFile m taken c.args.merged h (Some c.record.new.folder)) (sym c.in-Some.is)
    (keeps_by m c.record.result taken c.args.merged c.args.time.now rules (stem_text c.args.time.now c.taken.inside.peer rules) (without_pads c.taken.inside.file) c.in-Some.history c.record.new.folder
    c.requires (readable_by c.args.merged.fault c.is_some.ensures c.if-is_some.false) (sym c.ruleset.ensures ∙ c.in-Some-ruleset.is) stem-is
    (ap (λ (t : Taken). without_pads t.file) c.taken.view_is) (c.record.ensures.recorded modelled) (c.record.ensures.known modelled) (c.record.ensures.unsynced modelled) (c.record.ensures.failed modelled undoes))

pub returns-in-Err-clause-history : goal.returns-in-Err-clause-history
returns-in-Err-clause-history g c = λ modelled undoes.
    let m = g.H.Folder.model in
    let taken = c.args.taken.now in
    let rules = c.in-Some-ruleset.«ruleset» in
    let stem-is = ap (λ (t : Taken). stem_text c.args.time.now t.peer rules) c.taken.view_is in
    subst (λ (h : Option _). KeepsFile m taken c.args.merged h (Some c.record.new.folder)) (sym c.in-Some.is)
    (keeps_by m c.record.result taken c.args.merged c.args.time.now rules (stem_text c.args.time.now c.taken.inside.peer rules) (without_pads c.taken.inside.file) c.in-Some.history c.record.new.folder
    c.requires (readable_by c.args.merged.fault c.is_some.ensures c.if-is_some.false) (sym c.ruleset.ensures ∙ c.in-Some-ruleset.is) stem-is
    (ap (λ (t : Taken). without_pads t.file) c.taken.view_is) (c.record.ensures.recorded modelled) (c.record.ensures.known modelled) (c.record.ensures.unsynced modelled) (c.record.ensures.failed modelled undoes))
