use Rattle.std.proofs.Common.{◌∙◌, codes}
use Rattle.clap.specs.Matches.{found_of}
use Rattle.clap.proofs.WalkLemmas.{one_text-rows}
use Rattle.show_commands.proofs.show.asked.Goals as goal

pub returns : goal.returns
returns c =
    let text = one_text-rows (found_of c.args.words.now) (codes "moves") in
    let csv = one_text-rows (found_of c.args.words.now) (codes "csv") in
    record {
      files_are = c.in_ok-files.ensures;
      moves_are = ((λ e. c.get_flag-moves.ensures.value (text ∙ e)), (λ e. c.get_flag-moves.ensures.other (text ∙ e)), (λ e. c.get_flag-moves.ensures.none (text ∙ e)));
      csv_is = ((λ e. c.get_flag-csv.ensures.value (csv ∙ e)), (λ e. c.get_flag-csv.ensures.other (csv ∙ e)), (λ e. c.get_flag-csv.ensures.none (csv ∙ e)));
      output_is = c.in_ok-output.ensures;
    }
