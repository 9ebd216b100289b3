-- The plain value of each client, without its layout in memory, and the terms of private functions.
use Rattle.std.specs.Prelude.{ℕ, ◌≤◌, List, length, Option, None, Some}
use Rattle.tftp_packet.specs.declared.sizes.TheConstants.{BLOCK_SIZE}
use Rattle.tftp_ends.specs.Ends.{Sender, Receiver}
use Rattle.tftp_ends.specs.Input.{Input, nothing, stray, refusal, acked, block}
use Rattle.tws_file.specs.declared.«ruleset».Ruleset.{Ruleset}
use Rattle.archive_client.specs.declared.phase.Phase as phases
use Rattle.archive_client.specs.declared.phase.Phase.TheVariants as phase
use Rattle.archive_client.specs.declared.input.Input as borrowed
use Rattle.archive_client.specs.declared.input.Input.TheVariants as inputs
use Rattle.archive_client.specs.declared.put.Put.TheInside as putting
use Rattle.archive_client.specs.declared.get.Get.TheInside as getting
use Rattle.archive_client.specs.Client.{Phase, asking, sending, receiving, failed, Client, put, get}

abbrev pub put_phase : phases.Phase (List ℕ) Sender → Phase
put_phase (phase.Asking file misses) = asking (put file) misses
put_phase (phase.Bound peer s) = sending peer s
put_phase (phase.Failed why) = failed why

abbrev pub get_phase : phases.Phase Ruleset Receiver → Phase
get_phase (phase.Asking rules misses) = asking (get rules) misses
get_phase (phase.Bound peer r) = receiving peer r
get_phase (phase.Failed why) = failed why

-- the port that a client is bound to, whatever its end
abbrev pub bound_peer : {W E : Type 0} → phases.Phase W E → Option ℕ
bound_peer (phase.Asking wanted misses) = None
bound_peer (phase.Bound peer e) = Some peer
bound_peer (phase.Failed why) = None

abbrev pub put_of : {A : Type 0} → putting.Inside A → Client
put_of p = record { port = p.link.port; server = p.link.server; phase = put_phase p.phase }

abbrev pub get_of : {A : Type 0} → getting.Inside A → Client
get_of g = record { port = g.link.port; server = g.link.server; phase = get_phase g.phase }

abbrev pub input_of : borrowed.Input → Input
input_of inputs.Nothing = nothing
input_of inputs.Stray = stray
input_of (inputs.Refusal code) = refusal code
input_of (inputs.Ack n) = acked n
input_of (inputs.Data n body) = block n body.now

-- the body of a received block is no longer than a block
abbrev pub IsInput : Input → Type 0
IsInput nothing = Unit {0}
IsInput stray = Unit {0}
IsInput (refusal code) = Unit {0}
IsInput (acked n) = Unit {0}
IsInput (block n body) = length body ≤ BLOCK_SIZE
