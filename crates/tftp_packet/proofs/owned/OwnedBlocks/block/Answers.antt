use Rattle.std.proofs.Common.{[], ◌∙◌, refl}
use Rattle.tftp_packet.proofs.Cutting.{copied_block}
use Rattle.tftp_packet.proofs.owned.OwnedBlocks.block.Goals as goal

pub returns-clause-count : goal.returns-clause-count
returns-clause-count g c =
    (copied_block c.args.self.now c.deref.result.now _ [] c.copy_from_slice.new.self c.args.k c.from.result c.min-count.result
    (c.deref.ensures.value ∙ c.self.view_is) c.from.ensures refl c.min-count.ensures c.copy_from_slice.ensures.after).0

pub returns-clause-bytes : goal.returns-clause-bytes
returns-clause-bytes g c =
    (copied_block c.args.self.now c.deref.result.now _ _ c.copy_from_slice.new.self c.args.k c.from.result c.min-count.result
    (c.deref.ensures.value ∙ c.self.view_is) c.from.ensures refl c.min-count.ensures c.copy_from_slice.ensures.after).1
