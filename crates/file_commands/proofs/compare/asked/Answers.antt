use Rattle.std.proofs.Common.{◌∙◌, sym, codes}
use Rattle.clap.specs.Matches.{found_of}
use Rattle.clap.proofs.WalkLemmas.{one_text-rows}
use Rattle.file_commands.proofs.compare.asked.Goals as goal

pub returns : goal.returns
returns c =
    let text = one_text-rows (found_of c.args.words.now) (codes "better") in
    record {
      mine_is = sym (rw c.in-Some.is at c.in_ok-mine.ensures);
      theirs_is = sym (rw c.in-Some-2.is at c.in_ok-theirs.ensures);
      better_is = ((λ e. c.get_flag-better.ensures.value (text ∙ e)), (λ e. c.get_flag-better.ensures.other (text ∙ e)), (λ e. c.get_flag-better.ensures.none (text ∙ e)));
      output_is = c.in_ok-output.ensures;
    }
