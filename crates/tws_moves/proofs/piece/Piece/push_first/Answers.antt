use Rattle.std.proofs.Common.{◌∙◌}
use Rattle.tws_moves.proofs.Numbers.{pushed_first}
use Rattle.tws_moves.proofs.piece.Piece.push_first.Goals as goal

pub returns : goal.returns
returns g c =
    pushed_first c.args.bytes.now.items c.extend_from_slice.new.self.items c.truncate.new.self.items c.to_le_bytes.result c.args.self.length c.args.self.number c.len-before.result
    (c.len-before.ensures ∙ c.args.bytes.now.ok.0) c.to_le_bytes.ensures c.in_ok-extend_from_slice.ensures.items c.truncate.ensures.items c.requires
