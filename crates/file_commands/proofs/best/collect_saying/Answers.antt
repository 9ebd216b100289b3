use Rattle.std.proofs.lemmas.Result.{err_from_is_err_and}
use Rattle.std.proofs.Common.{◌∙◌, map}
use Rattle.file_commands.proofs.Collecting.{best_unsaid, collect_fails}
use Rattle.file_commands.proofs.Noting.{nothing_noted, noted_said}
use Rattle.file_commands.proofs.best.collect_saying.Goals as goal

pub returns-in_err-collection-clause-fails : goal.returns-in_err-collection-clause-fails
returns-in_err-collection-clause-fails g c =
    let p = err_from_is_err_and c.from_residual.result c.from_residual.ensures.1 in
    rw (p.1, p.2) (λ unwritten. collect_fails c.args.ruleset (map (λ file. g.R.Read.remaining file) c.args.files.now) unwritten _ c.in_err-collection.ensures.fails)

pub returns-in_err-say-clause-fails : goal.returns-in_err-say-clause-fails
returns-in_err-say-clause-fails g c =
    let p = err_from_is_err_and c.from_residual-in_err-say.result c.from_residual-in_err-say.ensures.1 in
    rw (p.1, p.2, c.in_err-say.ensures.fails) (λ unwritten. best_unsaid c.args.ruleset (map (λ file. g.R.Read.remaining file) c.args.files.now) c.in_ok-collection.collection unwritten c.in_ok-collection.ensures.collected)

pub returns-clause-said : goal.returns-clause-said
returns-clause-said g c =
    noted_said c.args.ruleset c.args.sources.now c.args.named c.new-notes.result c.collect.new.notes (map (λ file. g.R.Read.remaining file) c.args.files.now) c.as_str.result.now _ _ _
    (nothing_noted c.new-notes.result c.new-notes.ensures.text c.new-notes.ensures.first c.new-notes.ensures.rules_count c.new-notes.ensures.sets_count)
    c.in_ok-collection.ensures.noted (c.as_str.ensures.value ∙ c.in_ok-finish.ensures) c.in_ok-say.ensures.said
