use Rattle.std.proofs.Common.{rules, ◌≡◌, ℕ, List, Option, Some, subst, string_bytes}
use Rattle.archive_commands.specs.Locating.{Locates}
use Rattle.archive_commands.proofs.Files.{put_ran}
use Rattle.archive_commands.proofs.put.run.Goals as goal

pub returns-clause-ran : goal.returns-clause-ran
returns-clause-ran g c =
    let host_of = g.S.Resolver.host_of c.args.system.now in
    let arguments = c.args.arguments.now in
    let host = c.in-Some.host in
    let puts = c.put_files.ensures in
    let text : c.as_str.result.now ≡ string_bytes arguments.target.address = search rules in
    let here = subst (λ (t : List ℕ). Locates host_of t (Some host)) text (subst (λ (f : Option ℕ). Locates host_of c.as_str.result.now f) c.in-Some.is c.locate.ensures) in
    put_ran (g.S.FileSystem.bytes_of c.args.system.now) host_of (c.put_files.new.input ≡ c.args.input.now) arguments c.put_files.result (g.N.Wire.calls c.args.wire.now) (g.N.Wire.calls c.put_files.new.wire)
    (g.R.Read.remaining c.args.input.now) (g.R.Read.remaining c.put_files.new.input) (g.W.Write.contents c.args.out.now) (g.W.Write.contents c.put_files.new.out)
    host here puts.kept puts.puts puts.usage puts.few
