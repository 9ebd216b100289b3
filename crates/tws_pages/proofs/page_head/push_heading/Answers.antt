use Rattle.std.proofs.Common.{string_bytes}
use Rattle.std.specs.Prelude.{option_copied}
use Rattle.std.proofs.lemmas.Result.{on_ok_weaker}
use Rattle.tws_pages.proofs.Parts.{heading_written}
use Rattle.tws_pages.proofs.page_head.push_heading.Goals as goal

pub returns : goal.returns
returns g c =
    on_ok_weaker c.push_closing.result
    (λ p. heading_written c.args.ruleset (option_copied c.args.name) (string_bytes c.args.text.now) (string_bytes c.push_opening.new.text)
    (string_bytes c.push_named.new.text) (string_bytes c.push_closing.new.text) c.in_ok-push_opening.ensures c.in_ok-push_named.ensures p)
    c.push_closing.ensures
