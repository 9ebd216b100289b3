-- Which DATA bring a new block (those that have the next number and are answered), and what a reader has read then.
use Rattle.std.specs.Prelude.{◌≡◌, ℕ, List, Option, None, Result, Ok, Err}
use Rattle.std.proofs.Common.{refl, subst, sym}
use Rattle.tftp_ends.specs.declared.recv_fault.RecvFault.{RecvFault}
use Rattle.tftp_ends.specs.declared.recv_state.RecvState.{RecvState}
use Rattle.tftp_ends.specs.declared.recv_state.RecvState.TheVariants.{Running, Complete, TimedOut, Over}
use Rattle.tftp_ends.specs.Ends.{Receiver, receiver_take, receiver_take_in, IsReceiver, IsEnded}
use Rattle.archive_table.specs.Table.{IsReceiving}

-- the datagram of an answer, if it has one
abbrev pub dgram_or : Result (Option (List ℕ)) RecvFault → Option (List ℕ)
dgram_or (Ok out) = out
dgram_or (Err e) = None

-- ---- a whole file is taken out

gone_in : (state : RecvState) (r : Receiver) → r.state ≡ state → IsEnded (receiver_take_in state r).receiver.state → (receiver_take_in state r).receiver.file ≡ None
gone_in Running r is e = absurd (subst IsEnded is e)
gone_in Complete r is e = refl
gone_in TimedOut r is e = absurd (subst IsEnded is e)
gone_in Over r is e = refl

-- once the file is whole, it is gone
pub take_gone : (r new : Receiver) → new ≡ (receiver_take r).receiver → IsReceiver new → IsReceiving new
take_gone r new is fits = subst IsReceiving (sym is) (record { fits = subst IsReceiver is fits; taken = gone_in r.state r refl })
