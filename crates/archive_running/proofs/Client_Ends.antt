-- What a client counts as sent or has fetched after a step is either new with that step or was so before.
use Rattle.std.proofs.Common.{◌≡◌, ◌⊎◌, ℕ, ◌+◌, ◌==◌, Bool, true, false, List, Option, Some, refl, ap, sym, ◌∙◌, inl, inr}
use Rattle.tftp_packet.specs.declared.endpoint.Endpoint.{Endpoint}
use Rattle.tftp_ends.specs.declared.send_state.SendState.{SendState}
use Rattle.tftp_ends.specs.declared.send_state.SendState.TheVariants as send
use Rattle.tftp_ends.specs.declared.recv_state.RecvState.{RecvState}
use Rattle.tftp_ends.specs.declared.recv_state.RecvState.TheVariants as recv
use Rattle.tftp_ends.specs.Ends.{Verdict, Sender, Receiver, receiver_take, receiver_again, is_last_come, receiver_dallied}
use Rattle.tftp_ends.specs.declared.limits.TheConstants.{DALLY}
use Rattle.tftp_ends.specs.Input.{Input, nothing, stray, refusal, acked, block}
use Rattle.archive_client.specs.declared.state.State.{State}
use Rattle.archive_client.specs.declared.state.State.TheVariants as state
use Rattle.archive_client.proofs.Machine.{client_at}
use Rattle.archive_client.specs.Client.{Phase, asking, sending, receiving, failed, Client, state_of, phase_state, recv_state, phase_file, is_phase_over, is_send_over, is_recv_over, is_over, client_input, phase_peer, client_by_input, client_unless_over, client_datagram, client_timeout, get_waited, get_sent}
use Rattle.archive_model.specs.World.{newly_sent, newly_got}

-- a file that counts as sent or is fetched after the step is newly so, or was so before
pub record Ends (c next : Client) : Type 0 where
  pub sent : state_of next ≡ state.Sent → (newly_sent (state_of c) (state_of next) ≡ true) ⊎ (state_of c ≡ state.Sent)
  pub got : (file : List ℕ) → phase_file next.phase ≡ Some file → (newly_got (state_of c) (state_of next) ≡ true) ⊎ (phase_file c.phase ≡ Some file)

-- ---- a client that still runs, and one that stays in its phase

-- only a receiver with the whole file hands it out, and then its client counts as having got it
gives_got : (s : RecvState) (count misses : ℕ) (held : Option (List ℕ)) (file : List ℕ) →
    (receiver_take (record { count = count; file = held; misses = misses; state = s })).file ≡ Some file → recv_state s ≡ state.Got
gives_got recv.Running count misses held file e = absurd cc
gives_got recv.Complete count misses held file e = refl
gives_got recv.TimedOut count misses held file e = absurd cc
gives_got recv.Over count misses held file e = refl

-- a client that has a file to hand out counts as having got it
file_got : (phase : Phase) (file : List ℕ) → phase_file phase ≡ Some file → phase_state phase ≡ state.Got
file_got (asking operation misses) file e = absurd cc
file_got (sending peer s) file e = absurd cc
file_got (receiving peer r) file e = gives_got r.state r.count r.misses r.file file e
file_got (failed why) file e = absurd cc

-- after a step of a client that is running, all is new
ends_running : (c next : Client) → state_of c ≡ state.Running → Ends c next
ends_running c next running =
    record {
      sent = λ sent. inl (ap (λ (s : State). newly_sent s (state_of next)) running ∙ ap (λ (s : State). newly_sent state.Running s) sent);
      got = λ file given. inl
          (ap (λ (s : State). newly_got s (state_of next)) running ∙ ap (λ (s : State). newly_got state.Running s) (file_got next.phase file given));
    }

-- a step that leaves the phase leaves all as it was
ends_same : (c next : Client) → next.phase ≡ c.phase → Ends c next
ends_same c next same =
    record {
      sent = λ sent. inr (ap phase_state (sym same) ∙ sent);
      got = λ file given. inr (ap phase_file (sym same) ∙ given);
    }

-- ---- a datagram

-- a repeated block leaves the phase
again_phase : (last : Bool) (peer : ℕ) (r : Receiver) (c : Client) → (get_sent peer (receiver_again last r) c).client.phase ≡ receiving peer r
again_phase true peer r c = refl
again_phase false peer r c = refl

-- with the whole file
complete_phase : (h : Input) (verdict : Verdict) (from port peer : ℕ) (server : Endpoint) (count misses : ℕ) (file : Option (List ℕ)) →
    let r : Receiver = record { count = count; file = file; misses = misses; state = recv.Complete } in
    (client_by_input h verdict from (client_at port server (receiving peer r))).client.phase ≡ receiving peer r
complete_phase nothing verdict from port peer server count misses file = refl
complete_phase stray verdict from port peer server count misses file = refl
complete_phase (refusal code) verdict from port peer server count misses file = refl
complete_phase (acked n) verdict from port peer server count misses file = refl
complete_phase (block n body) verdict from port peer server count misses file =
    let r : Receiver = record { count = count; file = file; misses = misses; state = recv.Complete } in
    again_phase (is_last_come n r) peer r (client_at port server (receiving peer r))

-- a sender that is not over is running
send_received : (s : Sender) (state : SendState) → s.state ≡ state → is_send_over state ≡ false → state ≡ send.Running
send_received s send.Running is over = refl
send_received s send.Finished is over = absurd cc
send_received s send.TimedOut is over = absurd cc

-- any input to a get that is bound
receiver_ends : (h : Input) (verdict : Verdict) (from port peer : ℕ) (server : Endpoint) (count misses : ℕ) (file : Option (List ℕ)) (s : RecvState) →
    is_recv_over s ≡ false →
    let c = client_at port server (receiving peer (record { count = count; file = file; misses = misses; state = s })) in
    Ends c (client_by_input h verdict from c).client
receiver_ends h verdict from port peer server count misses file recv.Running over = ends_running _ _ refl
receiver_ends h verdict from port peer server count misses file recv.Complete over =
    ends_same _ _ (complete_phase h verdict from port peer server count misses file)
receiver_ends h verdict from port peer server count misses file recv.TimedOut over = absurd cc
receiver_ends h verdict from port peer server count misses file recv.Over over = absurd cc

-- any input to a client that is not over
phase_ends : (h : Input) (verdict : Verdict) (from port : ℕ) (server : Endpoint) (phase : Phase) → is_phase_over phase ≡ false →
    Ends (client_at port server phase) (client_by_input h verdict from (client_at port server phase)).client
phase_ends h verdict from port server (asking operation misses) over = ends_running _ _ refl
phase_ends h verdict from port server (sending peer s) over =
    ends_running _ _
    (ap (λ (x : SendState). phase_state (sending peer (record { file = s.file; current = s.current; misses = s.misses; state = x })))
    (send_received s s.state refl over))
phase_ends h verdict from port server (receiving peer r) over =
    receiver_ends h verdict from port peer server r.count r.misses r.file r.state over
phase_ends h verdict from port server (failed why) over = absurd cc

unless_ends : (over : Bool) (verdict : Verdict) (from : Endpoint) (bytes : List ℕ) (c : Client) → is_over c ≡ over →
    Ends c (client_unless_over over verdict from bytes c).client
unless_ends true verdict from bytes c is = ends_same c c refl
unless_ends false verdict from bytes c is =
    phase_ends (client_input c.server.host (phase_peer c.phase) from bytes) verdict from.port c.port c.server c.phase is

-- after a datagram, a client's end is new or was so before
pub datagram-ends : (verdict : Verdict) (from : Endpoint) (bytes : List ℕ) (c : Client) → Ends c (client_datagram verdict from bytes c).client
datagram-ends verdict from bytes c = unless_ends (is_over c) verdict from bytes c refl

-- ---- a time-out

-- a time-out of a put that is bound
sender_waits : (port peer : ℕ) (server : Endpoint) (file : List ℕ) (current misses : ℕ) (s : SendState) →
    let c = client_at port server (sending peer (record { file = file; current = current; misses = misses; state = s })) in
    Ends c (client_timeout c).client
sender_waits port peer server file current misses send.Running = ends_running _ _ refl
sender_waits port peer server file current misses send.Finished = ends_same _ _ refl
sender_waits port peer server file current misses send.TimedOut =
    record { sent = λ e. absurd cc; got = λ f e. absurd cc }

-- a time-out of a get that waits for a repeated last block
dallies : (last : Bool) (port peer : ℕ) (server : Endpoint) (count misses : ℕ) (file : Option (List ℕ)) →
    let r : Receiver = record { count = count; file = file; misses = misses; state = recv.Complete } in
    let c = client_at port server (receiving peer r) in
    let a = receiver_dallied last r in
    Ends c (get_waited a.receiver.state peer a c).client
dallies true port peer server count misses file = record { sent = λ e. absurd cc; got = λ f e. inr e }
dallies false port peer server count misses file = record { sent = λ e. absurd cc; got = λ f e. inr e }

-- a time-out of a get that is bound
receiver_waits : (port peer : ℕ) (server : Endpoint) (count misses : ℕ) (file : Option (List ℕ)) (s : RecvState) →
    let c = client_at port server (receiving peer (record { count = count; file = file; misses = misses; state = s })) in
    Ends c (client_timeout c).client
receiver_waits port peer server count misses file recv.Running = ends_running _ _ refl
receiver_waits port peer server count misses file recv.Complete =
    dallies (misses + 1 == DALLY) port peer server count misses file
receiver_waits port peer server count misses file recv.TimedOut =
    record { sent = λ e. absurd cc; got = λ f e. absurd cc }
receiver_waits port peer server count misses file recv.Over = ends_same _ _ refl

phase_waits-ends : (port : ℕ) (server : Endpoint) (phase : Phase) → Ends (client_at port server phase) (client_timeout (client_at port server phase)).client
phase_waits-ends port server (asking operation misses) = ends_running _ _ refl
phase_waits-ends port server (sending peer s) = sender_waits port peer server s.file s.current s.misses s.state
phase_waits-ends port server (receiving peer r) = receiver_waits port peer server r.count r.misses r.file r.state
phase_waits-ends port server (failed why) = ends_same _ _ refl

-- after a time-out, a client's end is new or was so before
pub timeout-ends : (c : Client) → Ends c (client_timeout c).client
timeout-ends c = phase_waits-ends c.port c.server c.phase
