use Rattle.std.proofs.Common.{◌≡◌, ℕ, List, Option, inl, subst, string_bytes}
use Rattle.std.specs.Prelude.{option_map}
use Rattle.tws_pages.specs.declared.level.Level.{Level}
use Rattle.command_line.specs.declared.source.Source.{Source}
use Rattle.show_commands.specs.SeveralInputs.{FilesRanFrom}
use Rattle.file_commands.specs.Page.{PagePrefix, PageWrites}
use Rattle.file_commands.proofs.page.run.Goals as goal

pub returns-in-Ok-clause-ran : goal.returns-in-Ok-clause-ran
returns-in-Ok-clause-ran g c =
    let title : Option (List ℕ) = option_map string_bytes c.args.arguments.now.title in
    let levels : Option (List Level) = option_map (λ found. found.items) c.in-Ok.levels in
    inl (record {
      levels = levels;
      are = c.in-Ok.ensures.some;
      ran = subst (λ (sources : List Source). FilesRanFrom sources (g.S.FileSystem.bytes_of c.args.system.now) (c.run_several_inputs.new.input ≡ c.args.input.now)
          (PageWrites title levels) (PagePrefix title levels) c.run_several_inputs.result (g.R.Read.remaining c.args.input.now) (g.R.Read.remaining c.run_several_inputs.new.input)
          (g.W.Write.contents c.args.out.now) (g.W.Write.contents c.run_several_inputs.new.out)) c.deref.ensures.value c.run_several_inputs.ensures.ran;
    })
