use Rattle.std.proofs.Common.{◌≡◌, false, map, take, string_bytes}
use Rattle.command_line.specs.Inputs.{has_standard}
use Rattle.archive_commands.specs.PutFiles.{AreRead, NotesStopping}
use Rattle.archive_commands.proofs.put_files.read_all.Given as goal

-- the first files were read
abbrev pub invariant-loop-source : goal.invariant-loop-source
invariant-loop-source g l = record {
  read : AreRead (g.S.FileSystem.bytes_of l.system) (take l.source-index l.sources) (map (λ text. text.items) l.texts.items) (g.R.Read.remaining l.fn.input) (g.R.Read.remaining l.input);
  noted : NotesStopping l.several (take l.source-index l.sources) (map (λ text. text.items) l.texts.items) (string_bytes l.note);
  kept : has_standard l.sources ≡ false → l.input ≡ l.fn.input;
  silent : l.errors ≡ l.fn.errors;
}
