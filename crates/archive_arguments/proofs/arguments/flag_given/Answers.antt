use Rattle.std.proofs.Common.{◌∙◌}
use Rattle.clap.specs.Matches.{found_of}
use Rattle.clap.proofs.WalkLemmas.{one_text-rows}
use Rattle.archive_arguments.proofs.arguments.flag_given.Goals as goal

pub returns : goal.returns
returns c =
    let text = one_text-rows (found_of c.args.words.now) c.args.name.now in
    ((λ e. c.get_flag.ensures.value (text ∙ e)), (λ e. c.get_flag.ensures.other (text ∙ e)), (λ e. c.get_flag.ensures.none (text ∙ e)))
