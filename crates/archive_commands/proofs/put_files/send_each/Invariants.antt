use Rattle.std.proofs.Common.{◌≡◌, ◌≢◌, ◌≤◌, true, false, map, drop, take, string_bytes}
use Rattle.std.specs.Vec.Iter.{into_iter_items}
use Rattle.archive_commands.proofs.Files.{Leads}
use Rattle.archive_commands.specs.Reports.{ReportsEach}
use Rattle.archive_commands.proofs.put_files.send_each.Given as goal

-- the first files were sent
abbrev pub invariant-loop-source : goal.invariant-loop-source
invariant-loop-source g l = record {
  leads : Leads l.arguments.better l.several l.to l.sources (map (λ text. text.items) l.fn.texts.items) (g.N.Wire.calls l.fn.wire) (g.W.Write.contents l.fn.out)
      (drop l.source-index l.sources) (map (λ text. text.items) (into_iter_items l.texts)) l.status (g.N.Wire.calls l.wire) (g.W.Write.contents l.out);
  usage : l.status ≢ 1;
  few : l.status ≤ 4;
  readable : l.several ≡ true → l.status ≢ 3;
  begun : l.source-index ≡ 0 → (l.status ≡ 0) × (l.out ≡ l.fn.out);
  unwritten : l.several ≡ false → l.status ≢ 0 → l.status ≢ 2 → l.out ≡ l.fn.out;
  printed : ReportsEach l.several (string_bytes l.arguments.target.address) (take l.source-index l.sources) (g.E.Write.contents l.fn.errors) (g.E.Write.contents l.errors);
  silent : l.status ≡ 0 → l.errors ≡ l.fn.errors;
}
