use Rattle.std.proofs.Common.{string_bytes}
use Rattle.std.specs.Prelude.{option_copied}
use Rattle.std.proofs.lemmas.Result.{on_ok_weaker}
use Rattle.tws_file.specs.Record.{records_of}
use Rattle.tws_pages.proofs.Leveled.{level_head}
use Rattle.tws_pages.proofs.level_section.push_level_section_head.Goals as goal

pub returns : goal.returns
returns g c =
    on_ok_weaker c.push_level_table_head.result
    (λ p. level_head c.args.levels.now c.args.ruleset (records_of c.args.records.now) (option_copied c.first_name.result) c.solved_count.result
    c.of.result.solutions c.of.result.ticks (string_bytes c.args.text.now) (string_bytes c.push_heading.new.text) (string_bytes c.push_solved_line.new.text)
    (string_bytes c.push_counts.new.text) (string_bytes c.push_level_table_head.new.text) c.first_name.ensures c.solved_count.ensures c.of.ensures.solutions
    c.of.ensures.ticks c.in_ok-push_heading.ensures c.in_ok-push_solved_line.ensures c.in_ok-push_counts.ensures p)
    c.push_level_table_head.ensures
