use Rattle.std.proofs.Common.{◌≡◌, sym, subst}
use Rattle.file_commands.specs.FileJobs.{FileJobSaid}
use Rattle.file_commands.proofs.file_job.run_into_file.Goals as goal

pub returns-clause-said : goal.returns-clause-said
returns-clause-said g c =
    let before = c.args.errors.now in
    λ zero. subst (λ (e : g.row.E.Denot). FileJobSaid (g.S.FileSystem.below_of c.args.system.now) (g.S.FileSystem.bytes_of c.args.system.now) (g.R.Read.remaining c.args.input.now) (e ≡ before) c.args.job.now (g.E.Write.contents before) (g.E.Write.contents e))
    (sym (c.save.ensures.silent zero)) (c.write_file_job-made.ensures.said (c.save.ensures.saved.saved zero).0)
