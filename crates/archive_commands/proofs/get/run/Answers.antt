use Rattle.std.proofs.Common.{inl, inr, rules, ◌≡◌, ℕ, List, Option, Some, Ok, Err, sym, subst, string_bytes}
use Rattle.archive_commands.specs.Locating.{Locates}
use Rattle.archive_commands.specs.Get.{GetFails, GetRan, Gets}
use Rattle.archive_commands.specs.Known.{Known}
use Rattle.archive_commands.specs.Reports.{no_host_reason}
use Rattle.archive_arguments.specs.Address.{bad_address_lines}
use Rattle.command_line.specs.Printing.{Printed}
use Rattle.archive_commands.proofs.Fetching.{get_ran}
use Rattle.archive_commands.proofs.Said.{get_reported}
use Rattle.archive_commands.proofs.get.run.Goals as goal

pub returns-in-Ok-clause-ran : goal.returns-in-Ok-clause-ran
returns-in-Ok-clause-ran g c =
    let old = g.W.Write.contents c.args.out.now in
    let new = g.W.Write.contents c.get_file-done.new.out in
    let before = g.N.Wire.calls c.args.wire.now in
    let after = g.N.Wire.calls c.get_file-done.new.wire in
    let files = g.S.FileSystem.bytes_of c.args.system.now in
    let now = g.S.FileSystem.bytes_of c.get_file-done.new.system in
    let drafted_of = g.S.FileSystem.drafted_of c.args.system.now in
    let host_of = g.S.Resolver.host_of c.args.system.now in
    let arguments = c.args.arguments.now in
    let host = c.in-Some.host in
    let text : c.as_str.result.now ≡ string_bytes arguments.target.address = search rules in
    let name : c.as_str-2.result.now ≡ string_bytes arguments.file = search rules in
    let here = subst (λ (t : List ℕ). Locates host_of t (Some host)) text (subst (λ (f : Option ℕ). Locates host_of c.as_str.result.now f) c.in-Some.is c.locate.ensures) in
    get_ran old new (record { bytes_of = files; drafted_of = drafted_of; below_of = g.S.FileSystem.below_of c.args.system.now; host_of = host_of }) now arguments host before after (Ok tt) here
    (subst (λ (n : List ℕ). Gets (record { host = host; port = arguments.target.port }) arguments.ruleset n before after (drafted_of n) files now old new) name c.in-Ok.ensures.got)
    tt

pub returns-in-Err-clause-ran : goal.returns-in-Err-clause-ran
returns-in-Err-clause-ran g c =
    let old = g.W.Write.contents c.args.out.now in
    let new = g.W.Write.contents c.get_file-done.new.out in
    let before = g.N.Wire.calls c.args.wire.now in
    let after = g.N.Wire.calls c.get_file-done.new.wire in
    let files = g.S.FileSystem.bytes_of c.args.system.now in
    let now = g.S.FileSystem.bytes_of c.get_file-done.new.system in
    let drafted_of = g.S.FileSystem.drafted_of c.args.system.now in
    let host_of = g.S.Resolver.host_of c.args.system.now in
    let arguments = c.args.arguments.now in
    let host = c.in-Some.host in
    let text : c.as_str.result.now ≡ string_bytes arguments.target.address = search rules in
    let name : c.as_str-2.result.now ≡ string_bytes arguments.file = search rules in
    let here = subst (λ (t : List ℕ). Locates host_of t (Some host)) text (subst (λ (f : Option ℕ). Locates host_of c.as_str.result.now f) c.in-Some.is c.locate.ensures) in
    let known : Known = record { bytes_of = files; drafted_of = drafted_of; below_of = g.S.FileSystem.below_of c.args.system.now; host_of = host_of } in
    subst (λ (n : ℕ). GetRan known arguments n before after now old new) (sym c.report_get.ensures.status)
    (get_ran old new known now arguments host before after (Err c.in-Err.fault.fault) here tt
    (subst (λ (n : List ℕ). GetFails (record { host = host; port = arguments.target.port }) arguments.ruleset n before after (drafted_of n) files now old new c.in-Err.fault.fault) name c.in-Err.ensures.fails))

pub returns-in_default-clause-printed : goal.returns-in_default-clause-printed
returns-in_default-clause-printed g c = λ some.
    inl (c.no_host.ensures.status, subst (λ (address : List ℕ). Printed (bad_address_lines address no_host_reason) (g.E.Write.contents c.args.errors.now) (g.E.Write.contents c.no_host.new.errors)) c.as_str-in_default.ensures.value c.no_host.ensures.printed)

pub returns-in-Err-clause-printed : goal.returns-in-Err-clause-printed
returns-in-Err-clause-printed g c = λ some. inr (c.in-Err.fault.fault, c.report_get.ensures.status, get_reported _ _ _ _ _ _ _ _ c.report_get.ensures.printed)
