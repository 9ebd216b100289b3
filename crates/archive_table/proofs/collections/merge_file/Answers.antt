use Rattle.std.proofs.Common.{sym, ap, ◌∙◌, Some}
use Rattle.std.proofs.lemmas.Result.{on_ok_weaker, IfErr-weaker}
use Rattle.archive_table.proofs.Grants.{both}
use Rattle.tws_file.specs.declared.«ruleset».Ruleset.TheVariants.{Lynx, Ms}
use Rattle.archive_table.proofs.FileMerges.{of_text, lynx_merged, ms_merged, lynx_refused, ms_refused}
use Rattle.archive_table.proofs.collections.merge_file.Goals as goal

pub returns-in-Lynx-clause-merged : goal.returns-in-Lynx-clause-merged
returns-in-Lynx-clause-merged g c =
    on_ok_weaker c.merge.result
    (λ merged. lynx_merged c.args.file.now c.args.lynx.now c.args.ms.now c.merge.new.self (λ f t. of_text Lynx f.«ruleset» _ c.unwrap_or.result c.in-Lynx.is c.unwrap_or.ensures (c.ruleset_of.ensures.text f t)) c.requires.lynx merged)
    c.merge.ensures.merged

pub returns-in-Lynx-clause-unkept : goal.returns-in-Lynx-clause-unkept
returns-in-Lynx-clause-unkept g c =
    IfErr-weaker c.merge.result _ _
    (λ e h. lynx_refused e c.args.file.now c.args.lynx.now c.args.ms.now _ _ (λ f t. of_text Lynx f.«ruleset» _ c.unwrap_or.result c.in-Lynx.is c.unwrap_or.ensures (c.ruleset_of.ensures.text f t)) c.requires.lynx h)
    c.merge.ensures.unkept

pub returns-in-Ms-clause-merged : goal.returns-in-Ms-clause-merged
returns-in-Ms-clause-merged g c =
    on_ok_weaker c.merge-in-Ms.result
    (λ merged. ms_merged c.args.file.now c.args.lynx.now c.args.ms.now c.merge-in-Ms.new.self (λ f t. of_text Ms f.«ruleset» _ c.unwrap_or.result c.in-Ms.is c.unwrap_or.ensures (c.ruleset_of.ensures.text f t)) c.requires.ms merged)
    c.merge-in-Ms.ensures.merged

pub returns-in-Ms-clause-unkept : goal.returns-in-Ms-clause-unkept
returns-in-Ms-clause-unkept g c =
    IfErr-weaker c.merge-in-Ms.result _ _
    (λ e h. ms_refused e c.args.file.now c.args.lynx.now c.args.ms.now _ _ (λ f t. of_text Ms f.«ruleset» _ c.unwrap_or.result c.in-Ms.is c.unwrap_or.ensures (c.ruleset_of.ensures.text f t)) c.requires.ms h)
    c.merge-in-Ms.ensures.unkept
