use Rattle.std.proofs.Common.{refl, ◌∙◌, codes, subst}
use Rattle.std.proofs.lemmas.Result.{IfOk-weaker}
use Rattle.clap.specs.Matches.{found_of}
use Rattle.clap.proofs.WalkLemmas.{raw_values-rows}
use Rattle.command_line.specs.Arguments.{AreSources}
use Rattle.command_line.proofs.Given.{files_are}
use Rattle.command_line.proofs.arguments.sources_given.Goals as goal

pub returns : goal.returns
returns c =
    let names = files_are c.get_raw.result c.unwrap_or.result _ _ c.unwrap_or.ensures refl (c.get_raw.ensures ∙ raw_values-rows (found_of c.args.words.now) (codes "files")) in
    IfOk-weaker c.sources_of.result _ _ (λ sources are. subst (λ ns. AreSources ns sources.items) names are) c.sources_of.ensures
