-- What a client has come through: no datagram lowers it, and each time-out raises it or ends the client.
use Rattle.std.proofs.Common.{◌≡◌, ℕ, ◌+◌, ◌*◌, ◌<◌, ◌≤◌, ◌==◌, Bool, true, false, List, [], ◌∷◌, Option, Result, Ok, Err, refl, sym, ap, ◌∙◌, subst, arith}
use Rattle.tftp_packet.specs.declared.endpoint.Endpoint.{Endpoint}
use Rattle.tftp_packet.specs.Packet.{Packet}
use Rattle.tftp_ends.specs.declared.limits.TheConstants.{MISSES}
use Rattle.tftp_ends.specs.declared.send_state.SendState.{SendState}
use Rattle.tftp_ends.specs.declared.send_state.SendState.TheVariants as send
use Rattle.tftp_ends.specs.declared.recv_state.RecvState.{RecvState}
use Rattle.tftp_ends.specs.declared.recv_state.RecvState.TheVariants as recv
use Rattle.tftp_ends.specs.declared.recv_fault.RecvFault.{RecvFault}
use Rattle.tftp_ends.specs.Ends.{Verdict, granted, refused, Sender, SendAnswer, sender_ack, sender_timeout, Receiver, RecvAnswer, receiver_start, receiver_next, receiver_running, is_past, receiver_data, receiver_timeout}
use Rattle.tftp_ends.specs.Input.{Input, nothing, stray, refusal, acked, block}
use Rattle.tftp_ends.specs.Patience.{sender_waited, receiver_waited}
use Rattle.tftp_ends.proofs.Steps.{sender_ack-keeps, sender_timeout-keeps}
use Rattle.tftp_ends.proofs.Waits.{sender_ack-waited, sender_timeout-waited, receiver_data-waited, receiver_timeout-waited}
use Rattle.tws_file.specs.declared.«ruleset».Ruleset.{Ruleset}
use Rattle.archive_client.specs.Client.{Operation, put, get, Phase, asking, sending, receiving, failed, Client, ClientAnswer, IsOperation, IsPhase, IsClient, is_over, is_phase_over, is_send_over, is_recv_over, client_start, client_input, phase_peer, client_by_input, client_unless_over, client_datagram, client_timeout, phase_waits, asks_again, put_answered, put_waited, get_took, get_sent, get_answered, get_refused, get_waited}
use Rattle.archive_client.specs.Patience.{ClientEvent, arrives, waits, client_after, client_run, AreBytes, time_outs, phase_blocks, most_blocks, IsPatient}
use Rattle.archive_client.proofs.Machine.{client_at, over-datagram, over-timeout}
use Rattle.archive_client.proofs.Bounds.{start-fits, datagram-fits, timeout-fits}

-- what a client has come through, by its phase
abbrev phase_waited : Phase → ℕ
phase_waited (asking operation misses) = misses
phase_waited (sending peer s) = sender_waited s
phase_waited (receiving peer r) = receiver_waited r
phase_waited (failed why) = 0

-- a client that has failed is over
abbrev NotLess : (least : ℕ) → Phase → Type 0
NotLess least phase = is_phase_over phase ≡ false → least ≤ phase_waited phase

-- ---- a datagram

answered_waited : (first : Bool) (port own : ℕ) (server : Endpoint) (file : List ℕ) (misses : ℕ) → misses < MISSES →
    NotLess misses (put_answered first port file (client_at own server (asking (put file) misses))).client.phase
answered_waited true port own server file misses patient running = omega arith
answered_waited false port own server file misses patient running = omega arith

took_waited : (peer : ℕ) (r : Receiver) (result : Result (Option Packet) RecvFault) (c : Client) (least : ℕ) → least ≤ receiver_waited r →
    NotLess least (get_took peer r result c).client.phase
took_waited peer r (Ok out) c least enough running = enough
took_waited peer r (Err e) c least enough running = cc

-- the first block counts for all time-outs of the request
first_taken : (past : Bool) (verdict : Verdict) (body : List ℕ) (peer : ℕ) (c : Client) (misses : ℕ) → misses < MISSES →
    NotLess misses (get_sent peer (receiver_next past verdict body receiver_start) c).client.phase
first_taken true verdict body peer c misses patient running = cc
first_taken false granted body peer c misses patient running = omega arith
first_taken false refused body peer c misses patient running = cc

first_waited : (first : Bool) (verdict : Verdict) (port n : ℕ) (body : List ℕ) (c : Client) (misses : ℕ) → (n == 1) ≡ first → misses < MISSES →
    NotLess misses c.phase → NotLess misses (get_answered first verdict port n body c).client.phase
first_waited true verdict port n body c misses is patient before =
    subst (λ (next : Bool). NotLess misses (get_sent port (receiver_running next verdict n body receiver_start) c).client.phase) (sym is)
    (first_taken (is_past n body) verdict body port c misses patient)
first_waited false verdict port n body c misses is patient before = before

refused_waited : (state : RecvState) (code : ℕ) (c : Client) (least : ℕ) → NotLess least c.phase → NotLess least (get_refused state code c).client.phase
refused_waited recv.Running code c least before = λ running. cc
refused_waited recv.Complete code c least before = before
refused_waited recv.TimedOut code c least before = before
refused_waited recv.Over code c least before = before

same_waited : (phase : Phase) → NotLess (phase_waited phase) phase
same_waited phase running = omega arith

input_waited : (own : ℕ) (server : Endpoint) (phase : Phase) (h : Input) (verdict : Verdict) (port : ℕ) → IsPhase phase →
    NotLess (phase_waited phase) (client_by_input h verdict port (client_at own server phase)).client.phase
input_waited own server phase nothing verdict port is = same_waited phase
input_waited own server phase stray verdict port is = same_waited phase
input_waited own server (asking operation misses) (refusal code) verdict port is = λ running. cc
input_waited own server (sending peer s) (refusal code) verdict port is = λ running. cc
input_waited own server (receiving peer r) (refusal code) verdict port is =
    refused_waited r.state code (client_at own server (receiving peer r)) (receiver_waited r) (same_waited (receiving peer r))
input_waited own server (failed why) (refusal code) verdict port is = λ running. cc
input_waited own server (asking (put file) misses) (acked n) verdict port is = answered_waited (n == 0) port own server file misses is.1
input_waited own server (asking (get rules) misses) (acked n) verdict port is = same_waited (asking (get rules) misses)
input_waited own server (sending peer s) (acked n) verdict port is = λ running. sender_ack-waited n s is.bounds
input_waited own server (receiving peer r) (acked n) verdict port is = same_waited (receiving peer r)
input_waited own server (failed why) (acked n) verdict port is = λ running. cc
input_waited own server (asking (put file) misses) (block n body) verdict port is = same_waited (asking (put file) misses)
input_waited own server (asking (get rules) misses) (block n body) verdict port is =
    first_waited (n == 1) verdict port n body (client_at own server (asking (get rules) misses)) misses refl is.1 (same_waited (asking (get rules) misses))
input_waited own server (sending peer s) (block n body) verdict port is = same_waited (sending peer s)
input_waited own server (receiving peer r) (block n body) verdict port is =
    let a = receiver_data verdict n body r in
    let more : receiver_waited r ≤ receiver_waited a.receiver = receiver_data-waited verdict n body r is.bounds in
    let took : receiver_waited r ≤ receiver_waited a.receiver = more in
    took_waited peer a.receiver a.result (client_at own server (receiving peer r)) (receiver_waited r) took
input_waited own server (failed why) (block n body) verdict port is = λ running. cc

unless_waited : (over : Bool) (verdict : Verdict) (from : Endpoint) (bytes : List ℕ) (c : Client) → IsPhase c.phase →
    NotLess (phase_waited c.phase) (client_unless_over over verdict from bytes c).client.phase
unless_waited true verdict from bytes c is = same_waited c.phase
unless_waited false verdict from bytes c is =
    input_waited c.port c.server c.phase (client_input c.server.host (phase_peer c.phase) from bytes) verdict from.port is

-- ---- a time-out

-- a client that goes on after a time-out has counted it
abbrev CountsOne : (before : Phase) → ClientAnswer → Type 0
CountsOne before a = is_phase_over a.client.phase ≡ false → phase_waited a.client.phase ≡ phase_waited before + 1

asks_waited : (last : Bool) (operation : Operation) (misses : ℕ) (c : Client) → CountsOne (asking operation misses) (asks_again last operation misses c)
asks_waited true operation misses c running = cc
asks_waited false operation misses c running = omega arith

put_waits_on : (state : SendState) (peer : ℕ) (s : Sender) (c : Client) → (sender_timeout s).sender.state ≡ state →
    CountsOne (sending peer s) (put_waited state peer (sender_timeout s) c)
put_waits_on send.Running peer s c is running = sender_timeout-waited s is
put_waits_on send.Finished peer s c is running =
    let over : is_send_over (sender_timeout s).sender.state ≡ true = ap is_send_over is in
    cc
put_waits_on send.TimedOut peer s c is running = cc

get_waits_on : (state : RecvState) (peer : ℕ) (r : Receiver) (c : Client) → (receiver_timeout r).receiver.state ≡ state →
    CountsOne (receiving peer r) (get_waited state peer (receiver_timeout r) c)
get_waits_on recv.Running peer r c is running =
    receiver_timeout-waited r (
      (λ e. let both : recv.Running ≡ recv.TimedOut = sym is ∙ e in cc),
      (λ e. let both : recv.Running ≡ recv.Over = sym is ∙ e in cc),
    )
get_waits_on recv.Complete peer r c is running =
    receiver_timeout-waited r (
      (λ e. let both : recv.Complete ≡ recv.TimedOut = sym is ∙ e in cc),
      (λ e. let both : recv.Complete ≡ recv.Over = sym is ∙ e in cc),
    )
get_waits_on recv.TimedOut peer r c is running = cc
get_waits_on recv.Over peer r c is running =
    let over : is_recv_over (receiver_timeout r).receiver.state ≡ true = ap is_recv_over is in
    cc

waits_on : (phase : Phase) (c : Client) → is_phase_over phase ≡ false → CountsOne phase (phase_waits phase c)
waits_on (asking operation misses) c before = asks_waited (misses + 1 == MISSES) operation misses c
waits_on (sending peer s) c before = put_waits_on (sender_timeout s).sender.state peer s c refl
waits_on (receiving peer r) c before = get_waits_on (receiver_timeout r).receiver.state peer r c refl
waits_on (failed why) c before = cc

-- ---- any events

-- how many time-outs an event is
abbrev waits_of : ClientEvent → ℕ
waits_of (arrives verdict from bytes) = 0
waits_of waits = 1

after_fits : (event : ClientEvent) (events : List ClientEvent) (c : Client) → AreBytes (event ∷ events) → IsClient c →
    IsClient (client_after event c) × AreBytes events
after_fits (arrives verdict from bytes) events c bytes_are is = (datagram-fits verdict from bytes c bytes_are.0 is, bytes_are.1)
after_fits waits events c bytes_are is = (timeout-fits c is, bytes_are)

after_waited : (event : ClientEvent) (c : Client) → IsClient c → is_over c ≡ false → is_over (client_after event c) ≡ false →
    phase_waited c.phase + waits_of event ≤ phase_waited (client_after event c).phase
after_waited (arrives verdict from bytes) c is before running =
    let more : phase_waited c.phase ≤ phase_waited (client_datagram verdict from bytes c).client.phase =
    unless_waited (is_over c) verdict from bytes c is.phase running in
    omega (arith, more)
after_waited waits c is before running =
    let more : phase_waited (client_timeout c).client.phase ≡ phase_waited c.phase + 1 = waits_on c.phase c before running in
    omega (arith, more)

-- once it is over it stays so
after_over : (event : ClientEvent) (c : Client) → IsClient c → is_over c ≡ true → client_after event c ≡ c
after_over (arrives verdict from bytes) c is over = ap (λ (a : ClientAnswer). a.client) (over-datagram verdict from bytes c over)
after_over waits c is over = ap (λ (a : ClientAnswer). a.client) (over-timeout c is over)

run_over : (events : List ClientEvent) (c : Client) → IsClient c → is_over c ≡ true → client_run events c ≡ c
run_over [] c is over = refl
run_over (event ∷ events) c is over = ap (client_run events) (after_over event c is over) ∙ run_over events c is over

run_fits : (events : List ClientEvent) (c : Client) → AreBytes events → IsClient c → IsClient (client_run events c)
run_fits [] c bytes_are is = is
run_fits (event ∷ events) c bytes_are is =
    let next = after_fits event events c bytes_are is in
    run_fits events (client_after event c) next.1 next.0

outs_of : (event : ClientEvent) (events : List ClientEvent) → time_outs (event ∷ events) ≡ waits_of event + time_outs events
outs_of (arrives verdict from bytes) events = omega arith
outs_of waits events = omega arith

abbrev RunWaited : List ClientEvent → Client → Type 0
RunWaited events c = is_over (client_run events c) ≡ false → phase_waited c.phase + time_outs events ≤ phase_waited (client_run events c).phase

-- by whether the client is over before an event, and after it
step_waited : (event : ClientEvent) (events : List ClientEvent) (c : Client) → IsClient c → IsClient (client_after event c) →
    RunWaited events (client_after event c) → (before : Bool) → is_over c ≡ before → (after : Bool) → is_over (client_after event c) ≡ after →
    RunWaited (event ∷ events) c
step_waited event events c is next later true over after now running =
    let same : is_over (client_run events (client_after event c)) ≡ true = ap is_over (run_over (event ∷ events) c is over) ∙ over in
    let both : true ≡ false = sym same ∙ running in
    cc
step_waited event events c is next later false over true now running =
    let same : is_over (client_run events (client_after event c)) ≡ true = ap is_over (run_over events (client_after event c) next now) ∙ now in
    let both : true ≡ false = sym same ∙ running in
    cc
step_waited event events c is next later false over false now running =
    let one : phase_waited c.phase + waits_of event ≤ phase_waited (client_after event c).phase = after_waited event c is over now in
    let rest : phase_waited (client_after event c).phase + time_outs events ≤ phase_waited (client_run events (client_after event c)).phase = later running in
    omega (arith, one, rest, outs_of event events)

run_waited : (events : List ClientEvent) (c : Client) → AreBytes events → IsClient c → RunWaited events c
run_waited [] c bytes_are is = λ running. omega arith
run_waited (event ∷ events) c bytes_are is =
    let next = after_fits event events c bytes_are is in
    step_waited event events c is next.0 (run_waited events (client_after event c) next.1 next.0) (is_over c) refl
    (is_over (client_after event c)) refl

-- ---- the bound

least_waited : (phase : Phase) → MISSES * phase_blocks phase ≤ phase_waited phase
least_waited (asking operation misses) = omega arith
least_waited (sending peer s) = omega arith
least_waited (receiving peer r) = omega arith
least_waited (failed why) = omega arith

most_waited : (phase : Phase) → IsPhase phase → phase_waited phase < MISSES * (phase_blocks phase + 1)
most_waited (asking operation misses) is = let patient : misses < MISSES = is.1 in omega arith
most_waited (sending peer s) is = let patient : s.misses < MISSES = is.bounds.patient in omega arith
most_waited (receiving peer r) is = let patient : r.misses < MISSES = is.bounds.patient in omega arith
most_waited (failed why) is = omega arith

pub run-patient : (c : Client) (events : List ClientEvent) → IsClient c → AreBytes events → IsPatient c events
run-patient c events is bytes_are running =
    let waited : phase_waited c.phase + time_outs events ≤ phase_waited (client_run events c).phase = run_waited events c bytes_are is running in
    let least : MISSES * phase_blocks c.phase ≤ phase_waited c.phase = least_waited c.phase in
    let most : phase_waited (client_run events c).phase < MISSES * (phase_blocks (client_run events c).phase + 1) =
    most_waited (client_run events c).phase (run_fits events c bytes_are is).phase in
    omega (arith, waited, least, most)

-- ---- of one operation

-- the phase is one of this operation
abbrev IsFor : Operation → Phase → Type 0
IsFor operation (asking asked misses) = asked ≡ operation
IsFor operation (sending peer s) = put s.file ≡ operation
IsFor operation (receiving peer r) = (rules : Ruleset) × (get rules ≡ operation)
IsFor operation (failed why) = Unit {0}

took_for : (operation : Operation) (peer : ℕ) (r : Receiver) (result : Result (Option Packet) RecvFault) (c : Client) (rules : Ruleset) →
    get rules ≡ operation → IsFor operation (get_took peer r result c).client.phase
took_for operation peer r (Ok out) c rules is = (rules, is)
took_for operation peer r (Err e) c rules is = tt

answered_for : (first : Bool) (operation : Operation) (port own : ℕ) (server : Endpoint) (file : List ℕ) (misses : ℕ) → put file ≡ operation →
    IsFor operation (put_answered first port file (client_at own server (asking (put file) misses))).client.phase
answered_for true operation port own server file misses is = is
answered_for false operation port own server file misses is = is

first_for : (first : Bool) (operation : Operation) (verdict : Verdict) (port n : ℕ) (body : List ℕ) (c : Client) (rules : Ruleset) → get rules ≡ operation →
    IsFor operation c.phase → IsFor operation (get_answered first verdict port n body c).client.phase
first_for true operation verdict port n body c rules is before =
    let a = receiver_data verdict n body receiver_start in
    took_for operation port a.receiver a.result c rules is
first_for false operation verdict port n body c rules is before = before

refused_for : (state : RecvState) (operation : Operation) (code : ℕ) (c : Client) → IsFor operation c.phase →
    IsFor operation (get_refused state code c).client.phase
refused_for recv.Running operation code c before = tt
refused_for recv.Complete operation code c before = before
refused_for recv.TimedOut operation code c before = before
refused_for recv.Over operation code c before = before

same_file : (operation : Operation) (s t : Sender) → t.file ≡ s.file → put s.file ≡ operation → put t.file ≡ operation
same_file operation s t same is = ap put same ∙ is

input_for : (operation : Operation) (own : ℕ) (server : Endpoint) (phase : Phase) (h : Input) (verdict : Verdict) (port : ℕ) →
    IsFor operation phase → IsFor operation (client_by_input h verdict port (client_at own server phase)).client.phase
input_for operation own server phase nothing verdict port is = is
input_for operation own server phase stray verdict port is = is
input_for operation own server (asking asked misses) (refusal code) verdict port is = tt
input_for operation own server (sending peer s) (refusal code) verdict port is = tt
input_for operation own server (receiving peer r) (refusal code) verdict port is =
    refused_for r.state operation code (client_at own server (receiving peer r)) is
input_for operation own server (failed why) (refusal code) verdict port is = tt
input_for operation own server (asking (put file) misses) (acked n) verdict port is = answered_for (n == 0) operation port own server file misses is
input_for operation own server (asking (get rules) misses) (acked n) verdict port is = is
input_for operation own server (sending peer s) (acked n) verdict port is =
    same_file operation s (sender_ack n s).sender (sender_ack-keeps n s).file is
input_for operation own server (receiving peer r) (acked n) verdict port is = is
input_for operation own server (failed why) (acked n) verdict port is = tt
input_for operation own server (asking (put file) misses) (block n body) verdict port is = is
input_for operation own server (asking (get rules) misses) (block n body) verdict port is =
    first_for (n == 1) operation verdict port n body (client_at own server (asking (get rules) misses)) rules is is
input_for operation own server (sending peer s) (block n body) verdict port is = is
input_for operation own server (receiving peer r) (block n body) verdict port is =
    let a = receiver_data verdict n body r in
    took_for operation peer a.receiver a.result (client_at own server (receiving peer r)) is.0 is.1
input_for operation own server (failed why) (block n body) verdict port is = tt

unless_for : (over : Bool) (operation : Operation) (verdict : Verdict) (from : Endpoint) (bytes : List ℕ) (c : Client) → IsFor operation c.phase →
    IsFor operation (client_unless_over over verdict from bytes c).client.phase
unless_for true operation verdict from bytes c is = is
unless_for false operation verdict from bytes c is =
    input_for operation c.port c.server c.phase (client_input c.server.host (phase_peer c.phase) from bytes) verdict from.port is

asks_for : (last : Bool) (operation asked : Operation) (misses : ℕ) (c : Client) → asked ≡ operation →
    IsFor operation (asks_again last asked misses c).client.phase
asks_for true operation asked misses c is = tt
asks_for false operation asked misses c is = is

put_waits_for : (state : SendState) (operation : Operation) (peer : ℕ) (a : SendAnswer) (c : Client) → put a.sender.file ≡ operation →
    IsFor operation (put_waited state peer a c).client.phase
put_waits_for send.Running operation peer a c is = is
put_waits_for send.Finished operation peer a c is = is
put_waits_for send.TimedOut operation peer a c is = tt

get_waits_for : (state : RecvState) (operation : Operation) (peer : ℕ) (a : RecvAnswer) (c : Client) → (rules : Ruleset) × (get rules ≡ operation) →
    IsFor operation (get_waited state peer a c).client.phase
get_waits_for recv.Running operation peer a c is = is
get_waits_for recv.Complete operation peer a c is = is
get_waits_for recv.TimedOut operation peer a c is = tt
get_waits_for recv.Over operation peer a c is = is

waits_for : (operation : Operation) (own : ℕ) (server : Endpoint) (phase : Phase) → IsFor operation phase →
    IsFor operation (client_timeout (client_at own server phase)).client.phase
waits_for operation own server (asking asked misses) is = asks_for (misses + 1 == MISSES) operation asked misses (client_at own server (asking asked misses)) is
waits_for operation own server (sending peer s) is =
    let same = same_file operation s (sender_timeout s).sender (sender_timeout-keeps s).file is in
    put_waits_for (sender_timeout s).sender.state operation peer (sender_timeout s) (client_at own server (sending peer s)) same
waits_for operation own server (receiving peer r) is =
    get_waits_for (receiver_timeout r).receiver.state operation peer (receiver_timeout r) (client_at own server (receiving peer r)) is
waits_for operation own server (failed why) is = tt

after_for : (operation : Operation) (event : ClientEvent) (c : Client) → IsFor operation c.phase → IsFor operation (client_after event c).phase
after_for operation (arrives verdict from bytes) c is = unless_for (is_over c) operation verdict from bytes c is
after_for operation waits c is = waits_for operation c.port c.server c.phase is

run_for : (operation : Operation) (events : List ClientEvent) (c : Client) → IsFor operation c.phase → IsFor operation (client_run events c).phase
run_for operation [] c is = is
run_for operation (event ∷ events) c is = run_for operation events (client_after event c) (after_for operation event c is)

few_blocks : (operation : Operation) (phase : Phase) → IsFor operation phase → IsPhase phase → phase_blocks phase ≤ most_blocks operation
few_blocks operation (asking asked misses) is fits = omega arith
few_blocks operation (sending peer s) is fits =
    subst (λ (o : Operation). s.current ≤ most_blocks o) is fits.bounds.within
few_blocks operation (receiving peer r) is fits =
    subst (λ (o : Operation). r.count ≤ most_blocks o) is.1 fits.bounds.within
few_blocks operation (failed why) is fits = omega arith

-- by whether it is over
ends_by : (operation : Operation) (events : List ClientEvent) (c : Client) → IsPatient c events →
    phase_blocks (client_run events c).phase ≤ most_blocks operation →
    MISSES * (most_blocks operation + 1) ≤ time_outs events → (over : Bool) → is_over (client_run events c) ≡ over → is_over (client_run events c) ≡ true
ends_by operation events c patient few many true is = is
ends_by operation events c patient few many false is =
    let bound : time_outs events + MISSES * phase_blocks c.phase < MISSES * (phase_blocks (client_run events c).phase + 1) = patient is in
    absurd (omega (arith, bound, few, many))

pub start-ends : (port : ℕ) (server : Endpoint) (operation : Operation) (events : List ClientEvent) → IsOperation operation → AreBytes events →
    MISSES * (most_blocks operation + 1) ≤ time_outs events → is_over (client_run events (client_start port server operation)) ≡ true
start-ends port server operation events is bytes_are many =
    let c = client_start port server operation in
    let fits : IsClient c = start-fits port server operation is in
    let last = (run_fits events c bytes_are fits).phase in
    let few : phase_blocks (client_run events c).phase ≤ most_blocks operation =
    few_blocks operation (client_run events c).phase (run_for operation events c refl) last in
    ends_by operation events c (run-patient c events fits bytes_are) few many (is_over (client_run events c)) refl
