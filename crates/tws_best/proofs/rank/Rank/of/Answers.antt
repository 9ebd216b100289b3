use Rattle.std.proofs.Common.{◌≡◌, ◌∙◌, ℕ, ap, length}
use Rattle.std.proofs.lemmas.List.{take_rest}
use Rattle.byteorder.specs.Endian.{little_number}
use Rattle.tws_best.specs.Rank.{Ranking, ticks_of}
use Rattle.tws_best.proofs.rank.Rank.of.Goals as goal

pub returns : goal.returns
returns c =
    let body = c.args.body.now in
    let ticks_are : c.read_u32.result ≡ ticks_of body = c.read_u32.ensures ∙ ap (little_number 4) (take_rest body 12) in
    let ranked : ℕ → Ranking = λ ticks. record { ticks = ticks; size = length body; bytes = body } in
    ap ranked ticks_are
