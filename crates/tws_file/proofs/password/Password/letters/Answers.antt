use Rattle.std.proofs.Common.{sym, ◌∙◌}
use Rattle.tws_file.proofs.Words.{letters_as_text}
use Rattle.tws_file.proofs.password.Password.letters.Goals as goal

pub returns-then-is_letters : goal.returns-then-is_letters
returns-then-is_letters c =
    letters_as_text _ c.args.self.now.0 c.from_utf8.result c.ok.result (sym c.is_letters.ensures ∙ c.if-is_letters.true) c.from_utf8.ensures.cases c.ok.ensures.value
