-- The premises of the law can be met, even if a file is taken: a put of a file without bytes meets them.
use Rattle.std.proofs.Common.{◌≡◌, ℕ, zero, suc, [], ◌∷◌, slice_get, Some, refl, sym, ◌∙◌}
use Rattle.tftp_packet.specs.Packet.{encode}
use Rattle.tftp_packet.specs.Decode.{decode_bytes}
use Rattle.tftp_packet.specs.Blocks.{block_of}
use Rattle.tws_file.specs.Text.{File, IsText}
use Rattle.archive_table.specs.Table.{IsMerged, empty_maps}
use Rattle.archive_model.specs.World.{run, start, AllMerged}
use Rattle.archive_theorem.specs.Headline.{HasOwnPorts}
use Rattle.archive_theorem.specs.Samples.{empty_put}
use Rattle.archive_theorem.proofs.Port_Tests.{none_there}
use Rattle.archive_theorem.proofs.Sample_Takings.{merged-by}

one_place : {A : Type 0} (x y : A) (i : ℕ) → slice_get (x ∷ []) i ≡ Some y → i ≡ 0
one_place x y zero e = refl
one_place x y (suc i) e = absurd cc

-- no port is reused in the run
pub empty_put-own : HasOwnPorts (run empty_put)
unfolding encode decode_bytes block_of
empty_put-own =
    record {
      operations = λ i j b c at_i at_j same. one_place _ b i at_i ∙ sym (one_place _ c j at_j);
      openings = λ i j o p at_i at_j peer port. one_place _ o i at_i ∙ sym (one_place _ p j at_j);
      strangers = λ d among. none_there d among;
    }

-- the empty list is not the text of a file
empty_unreadable : (f : File) → IsText [] f → ⊥
empty_unreadable f is = let cut = is.text in absurd cc

-- a file without bytes leaves the empty collections
pub empty_merged : IsMerged [] empty_maps empty_maps
empty_merged = record { readable = λ f is. absurd (empty_unreadable f is); unreadable = λ never. refl }

-- so the collections are as the server's contract says
pub empty_put-merged : AllMerged empty_put start
unfolding encode decode_bytes block_of
empty_put-merged = merged-by empty_put start (empty_merged, tt)
