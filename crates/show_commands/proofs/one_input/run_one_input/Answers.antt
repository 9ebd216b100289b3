use Rattle.std.proofs.Common.{rules, refl, ◌≡◌, ◌∙◌, ℕ, List, Option, OnOk, ap, sym, subst, string_bytes}
use Rattle.command_line.specs.declared.source.Source.{Source}
use Rattle.command_line.specs.Inputs.{known_of}
use Rattle.show_commands.specs.Saying.{SaysOf}
use Rattle.show_commands.specs.Written.{FileRan, RanFrom}
use Rattle.show_commands.proofs.Said.{still}
use Rattle.show_commands.proofs.Statuses.{ran_named}
use Rattle.show_commands.proofs.one_input.run_one_input.Goals as goal

pub returns-in-Ok-clause-ran : goal.returns-in-Ok-clause-ran
returns-in-Ok-clause-ran g c =
    let text = g.C.OneInputCommand.text c.args.command.now in
    let bytes_of = g.S.FileSystem.bytes_of c.args.system.now in
    let given = g.R.Read.remaining c.args.input.now in
    let old = g.W.Write.contents c.args.out.now in
    let new = g.W.Write.contents c.run_over-done-in-Ok.new.out in
    let file = string_bytes c.in-Named.name in
    let wrote = c.run_over-done-in-Ok.ensures in
    let name : c.as_str.result.now ≡ file = search rules in
    let ran = ran_named text bytes_of file c.as_str.result.now c.run_over-done-in-Ok.result (g.S.File.Read.remaining c.in-Ok.file)
    (g.S.File.Read.remaining c.run_over-done-in-Ok.new.input) old new c.in-Ok.ensures.opened name wrote.end wrote.unreadable wrote.written wrote.fails in
    subst (λ (s : Source). RanFrom s bytes_of (c.args.input.now ≡ c.args.input.now) text c.finish-in-Ok.result given given old new) (sym c.in-Named.is)
    (refl, subst (λ (n : ℕ). FileRan text n (bytes_of file) old new) (sym c.finish-in-Ok.ensures.status) ran)

pub returns-in-Ok-clause-said : goal.returns-in-Ok-clause-said
returns-in-Ok-clause-said g c =
    let says = g.C.OneInputCommand.says c.args.command.now in
    let bytes_of = g.S.FileSystem.bytes_of c.args.system.now in
    let given = g.R.Read.remaining c.args.input.now in
    let known = known_of bytes_of given c.args.source.now in
    let done = c.run_over-done-in-Ok.result in
    let before = c.args.errors.now in
    let left = c.run_over-done-in-Ok.new.errors in
    let name : c.as_str.result.now ≡ string_bytes c.in-Named.name = search rules in
    let same : g.S.File.Read.remaining c.in-Ok.file ≡ known = c.in-Ok.ensures.opened ∙ ap bytes_of name ∙ ap (known_of bytes_of given) (sym c.in-Named.is) in
    still (λ (e : g.row.E.Denot). SaysOf says (e ≡ before) known (g.E.Write.contents before) (g.E.Write.contents e)) left c.finish-in-Ok.new.errors done c.finish-in-Ok.result c.finish-in-Ok.ensures.status
    (subst (λ (e : g.row.E.Denot). OnOk done (SaysOf says (left ≡ e) known (g.E.Write.contents e) (g.E.Write.contents left))) c.in-Ok.ensures.silent
    (subst (λ (k : Option (List ℕ)). OnOk done (SaysOf says (left ≡ c.open_named.new.errors) k (g.E.Write.contents c.open_named.new.errors) (g.E.Write.contents left))) same c.run_over-done-in-Ok.ensures.said))
    c.finish-in-Ok.ensures.silent
