use Rattle.std.proofs.Common.{take, arith, inr, length-take}
use Rattle.std.proofs.lemmas.Result.{err_from_is_err_and}
use Rattle.std.proofs.KnownBytes.{Consumes-trans}
use Rattle.command_line.proofs.input.read_to_end.Goals as goal

pub returns-in_err-take : goal.returns-in_err-take
returns-in_err-take g c =
    let p = err_from_is_err_and c.from_residual.result c.from_residual.ensures.1 in
    let before = c.loop.invariant in
    let piece = take c.in-Ok.count c.read.new.buf in
    rw (p.1, p.2) (inr (record {
      sink = c.loop.sink;
      bytes = before.0;
      piece = piece;
      taken = before.1;
      small = omega (arith, length-take c.in-Ok.count c.read.new.buf, c.in-Ok.ensures.bound);
      consumed = Consumes-trans (g.R.Read.remaining c.args.input.now) (g.R.Read.remaining c.loop.input) (g.R.Read.remaining c.read.new.self) before.0 piece before.2 c.in-Ok.ensures.bytes.0;
      refused = c.in_err-take.ensures.refused before.0 before.1;
    }))
