use Rattle.std.proofs.Common.{◌≡◌, ℕ, List, Ok, Err, Global, Vec, ap, map, refl, subst, string_bytes}
use Rattle.command_line.specs.declared.source.Source.{Source}
use Rattle.archive_commands.specs.PutFiles.{AreRead, FailsToRead}
use Rattle.archive_commands.proofs.Said.{put_reports, put_unread}
use Rattle.archive_commands.proofs.Stoppers.{put_said, sends_files}
use Rattle.archive_commands.proofs.put_files.put_files.Goals as goal

pub returns-in-Ok-clause-puts : goal.returns-in-Ok-clause-puts
returns-in-Ok-clause-puts g c =
    let texts = map (λ (text : Vec ℕ Global). text.items) c.in-Ok.texts.items in
    let same : c.as_slice-sources.result.now ≡ c.args.arguments.now.sources.items = c.as_slice-sources.ensures.value in
    record {
      read = Ok texts;
      reads = subst (λ (ss : List Source). AreRead (g.S.FileSystem.bytes_of c.args.system.now) ss texts (g.R.Read.remaining c.args.input.now) (g.R.Read.remaining c.read_all.new.input)) same c.in-Ok.ensures.read;
      sends = sends_files c.as_slice-sources.result.now c.args.arguments.now.sources.items texts (string_bytes c.read_all.new.note) c.as_str-note.result.now same c.as_str-note.ensures.value c.in-Ok.ensures.noted
          c.args.arguments.now.better c.args.to c.say_and_send.result (g.N.Wire.calls c.args.wire.now) (g.N.Wire.calls c.say_and_send.new.wire) (g.W.Write.contents c.args.out.now) (g.W.Write.contents c.say_and_send.new.out)
          c.say_and_send.ensures.sends;
    }

pub returns-in-Ok-clause-said : goal.returns-in-Ok-clause-said
returns-in-Ok-clause-said g c = λ zero.
    put_said c.as_slice-sources.result.now c.args.arguments.now.sources.items (map (λ (text : Vec ℕ Global). text.items) c.in-Ok.texts.items) (string_bytes c.read_all.new.note) c.as_str-note.result.now
    c.as_slice-sources.ensures.value c.as_str-note.ensures.value c.in-Ok.ensures.noted g.E.Write.contents (g.S.FileSystem.bytes_of c.args.system.now) (g.R.Read.remaining c.args.input.now) (g.R.Read.remaining c.read_all.new.input)
    c.args.errors.now c.read_all.new.errors c.say_and_send.new.errors c.in-Ok.ensures.silent c.in-Ok.ensures.read (c.say_and_send.ensures.said zero)

pub returns-clause-puts : goal.returns-clause-puts
returns-clause-puts g c =
    let given = g.R.Read.remaining c.args.input.now in
    let left = g.R.Read.remaining c.read_all.new.input in
    let same : c.as_slice-sources.result.now ≡ c.args.arguments.now.sources.items = c.as_slice-sources.ensures.value in
    record {
      read = Err c.in-Err.status;
      reads = subst (λ (ss : List Source). FailsToRead (g.S.FileSystem.bytes_of c.args.system.now) ss given left c.in-Err.status) same c.in-Err.ensures.unread;
      sends = record { status_is = refl; unsent = refl; unsaid = refl };
    }

pub returns-in-Ok-clause-printed : goal.returns-in-Ok-clause-printed
returns-in-Ok-clause-printed g c =
    put_reports (g.S.FileSystem.bytes_of c.args.system.now) c.as_slice-sources.result.now c.args.arguments.now.sources.items (g.R.Read.remaining c.args.input.now) (string_bytes c.args.arguments.now.target.address) c.say_and_send.result
    (g.E.Write.contents c.args.errors.now) (g.E.Write.contents c.read_all.new.errors) (g.E.Write.contents c.say_and_send.new.errors) c.as_slice-sources.ensures.value (map (λ (text : Vec ℕ Global). text.items) c.in-Ok.texts.items)
    (g.R.Read.remaining c.read_all.new.input) (string_bytes c.read_all.new.note) c.as_str-note.result.now c.in-Ok.ensures.read c.in-Ok.ensures.noted c.as_str-note.ensures.value (ap g.E.Write.contents c.in-Ok.ensures.silent) c.say_and_send.ensures.printed

pub returns-clause-printed : goal.returns-clause-printed
returns-clause-printed g c =
    put_unread (g.S.FileSystem.bytes_of c.args.system.now) c.as_slice-sources.result.now c.args.arguments.now.sources.items (g.R.Read.remaining c.args.input.now) (string_bytes c.args.arguments.now.target.address) c.in-Err.status
    (g.E.Write.contents c.args.errors.now) (g.E.Write.contents c.args.errors.now) (g.E.Write.contents c.read_all.new.errors) c.as_slice-sources.ensures.value c.in-Err.ensures.printed
