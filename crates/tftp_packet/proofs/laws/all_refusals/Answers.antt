use Rattle.std.proofs.Common.{refl, [], ◌∷◌, ◌++◌, List, ◌≡◌}
use Rattle.tftp_packet.specs.declared.refusal.Refusal.{Refusal}
use Rattle.tftp_packet.specs.declared.refusal.Refusal.TheVariants.{OctetOnly, NoSuchFile, ServerBusy, CollectionTooLong, OutOfMemory, FileTooLong, UnknownTransfer, NotKept}
use Rattle.tftp_packet.specs.declared.refusal.TheConstants.Refusal.{ALL}
use Rattle.tftp_packet.proofs.laws.all_refusals.Goals as goal

is_among : (r : Refusal) → (before after : List Refusal) × (ALL ≡ before ++ r ∷ after)
is_among OctetOnly = ([], NoSuchFile ∷ ServerBusy ∷ CollectionTooLong ∷ OutOfMemory ∷ FileTooLong ∷ UnknownTransfer ∷ NotKept ∷ [], refl)
is_among NoSuchFile = (OctetOnly ∷ [], ServerBusy ∷ CollectionTooLong ∷ OutOfMemory ∷ FileTooLong ∷ UnknownTransfer ∷ NotKept ∷ [], refl)
is_among ServerBusy = (OctetOnly ∷ NoSuchFile ∷ [], CollectionTooLong ∷ OutOfMemory ∷ FileTooLong ∷ UnknownTransfer ∷ NotKept ∷ [], refl)
is_among CollectionTooLong = (OctetOnly ∷ NoSuchFile ∷ ServerBusy ∷ [], OutOfMemory ∷ FileTooLong ∷ UnknownTransfer ∷ NotKept ∷ [], refl)
is_among OutOfMemory = (OctetOnly ∷ NoSuchFile ∷ ServerBusy ∷ CollectionTooLong ∷ [], FileTooLong ∷ UnknownTransfer ∷ NotKept ∷ [], refl)
is_among FileTooLong = (OctetOnly ∷ NoSuchFile ∷ ServerBusy ∷ CollectionTooLong ∷ OutOfMemory ∷ [], UnknownTransfer ∷ NotKept ∷ [], refl)
is_among UnknownTransfer = (OctetOnly ∷ NoSuchFile ∷ ServerBusy ∷ CollectionTooLong ∷ OutOfMemory ∷ FileTooLong ∷ [], NotKept ∷ [], refl)
is_among NotKept = (OctetOnly ∷ NoSuchFile ∷ ServerBusy ∷ CollectionTooLong ∷ OutOfMemory ∷ FileTooLong ∷ UnknownTransfer ∷ [], [], refl)

pub returns : goal.returns
returns c = is_among
