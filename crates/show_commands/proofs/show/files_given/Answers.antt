use Rattle.std.proofs.Common.{arith, unwrap_or, []}
use Rattle.clap.specs.Matches.{found_of}
use Rattle.clap.specs.Walk.{all_of}
use Rattle.clap.specs.Words.{rows_of}
use Rattle.show_commands.specs.Show.{shown_rule}
use Rattle.show_commands.proofs.Showing.{none_shown, some_shown}
use Rattle.show_commands.proofs.show.files_given.Goals as goal
use Rattle.show_commands.proofs.show.files_given.Goals.{then-len-eq0+in_ok-push, else-len-eq0}

pub returns : goal.returns
returns c =
    let names = unwrap_or (all_of shown_rule.id (rows_of (found_of c.args.words.now))) [] in
    elim c.if-len-eq0.branch [
      | then-len-eq0+in_ok-push w ↦
          rw w.files-is (none_shown names c.in_ok-files.files.items w.push.new.self.items (omega (arith, w.if-len-eq0.true, c.len.ensures, c.in_ok-files.files.ok.0)) c.in_ok-files.ensures w.in_ok-push.ensures.items)
      | else-len-eq0 w ↦
          rw w.files-is (some_shown names c.in_ok-files.files.items (omega (arith, w.if-len-eq0.false, c.len.ensures, c.in_ok-files.files.ok.0)) c.in_ok-files.ensures)
    ]
