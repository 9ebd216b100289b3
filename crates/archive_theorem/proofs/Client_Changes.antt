-- Steps of a client by its next phase, and those that every phase has: to stay, to fail, to refuse a stray.
use Rattle.std.proofs.Common.{◌≡◌, ◌≢◌, ◌⊎◌, ℕ, Bool, true, false, List, Option, None, Some, IfSome, Ok, refl, ap, sym, ◌∙◌, subst, inl, inr, ⊎_elim}
use Rattle.tftp_packet.specs.declared.endpoint.Endpoint.{Endpoint}
use Rattle.tftp_packet.specs.declared.out.Out.{Out}
use Rattle.tftp_packet.specs.declared.refusal.Refusal.{Refusal}
use Rattle.tftp_packet.specs.declared.refusal.Refusal.TheVariants.{UnknownTransfer}
use Rattle.tftp_packet.specs.Packet.{Packet, encode}
use Rattle.tftp_packet.specs.Refusal.{refusal_packet}
use Rattle.tftp_packet.specs.Decode.{decode_bytes}
use Rattle.tftp_packet.proofs.Sent.{sent_refusal}
use Rattle.tftp_packet.specs.declared.cause.Cause.{Cause}
use Rattle.archive_client.specs.declared.state.State.{State}
use Rattle.archive_client.specs.declared.state.State.TheVariants as state
use Rattle.archive_client.specs.Client.{Phase, failed, Client, in_phase, out_to, client_stays, moves, fails, phase_state, phase_file}
use Rattle.archive_model.specs.World.{World, Got, newly_sent, newly_got, sent_with, got_with, after_client, client_at, IsPrefix, Past, Extends}
use Rattle.archive_model.proofs.Places.{Has, Has-push, IsPrefix-same, IsPrefix-push}
use Rattle.archive_model.proofs.Endpoints.{endpoint_is}
use Rattle.archive_theorem.proofs.Claim_Past.{Says, Binds, IsPursuing, MayBind, IsSent, IsGot}
use Rattle.archive_theorem.proofs.Claim_Invariant.{Holds}
use Rattle.archive_theorem.proofs.Server_Sends.{honest_packet, net-prefix}
use Rattle.archive_theorem.proofs.Client_Moves.{SendsHonestly, BindsTo, acted-holds}

-- ---- states

-- a client that does not count its file as sent does not do so newly
pub never_sent : {P : Type 0} (was : State) (now : State) → now ≢ state.Sent → newly_sent was now ≡ true → P
never_sent state.Running state.Running other e = absurd cc
never_sent state.Running state.Sent other e = absurd (other refl)
never_sent state.Running state.Got other e = absurd cc
never_sent state.Running (state.Failed why) other e = absurd cc
never_sent state.Sent now other e = absurd cc
never_sent state.Got now other e = absurd cc
never_sent (state.Failed why) now other e = absurd cc

-- a client that has no file has not newly fetched one
pub never_got : {P : Type 0} (was : State) (now : State) → now ≢ state.Got → newly_got was now ≡ true → P
never_got state.Running state.Running other e = absurd cc
never_got state.Running state.Sent other e = absurd cc
never_got state.Running state.Got other e = absurd (other refl)
never_got state.Running (state.Failed why) other e = absurd cc
never_got state.Sent now other e = absurd cc
never_got state.Got now other e = absurd cc
never_got (state.Failed why) now other e = absurd cc

-- only a running client newly counts its file as sent
pub newly_sent-from : (was now : State) → newly_sent was now ≡ true → (was ≡ state.Running) × (now ≡ state.Sent)
newly_sent-from state.Running state.Running e = absurd cc
newly_sent-from state.Running state.Sent e = (refl, refl)
newly_sent-from state.Running state.Got e = absurd cc
newly_sent-from state.Running (state.Failed why) e = absurd cc
newly_sent-from state.Sent now e = absurd cc
newly_sent-from state.Got now e = absurd cc
newly_sent-from (state.Failed why) now e = absurd cc

-- only a running client newly has its file
pub newly_got-from : (was now : State) → newly_got was now ≡ true → (was ≡ state.Running) × (now ≡ state.Got)
newly_got-from state.Running state.Running e = absurd cc
newly_got-from state.Running state.Sent e = absurd cc
newly_got-from state.Running state.Got e = (refl, refl)
newly_got-from state.Running (state.Failed why) e = absurd cc
newly_got-from state.Sent now e = absurd cc
newly_got-from state.Got now e = absurd cc
newly_got-from (state.Failed why) now e = absurd cc

-- what does not change is not new
sent_same : {P : Type 0} (s : State) → newly_sent s s ≡ true → P
sent_same s e = let both = newly_sent-from s s e in let apart : state.Running ≡ state.Sent = sym both.0 ∙ both.1 in absurd cc

-- the same for a file that was fetched
got_same : {P : Type 0} (s : State) → newly_got s s ≡ true → P
got_same s e = let both = newly_got-from s s e in let apart : state.Running ≡ state.Got = sym both.0 ∙ both.1 in absurd cc

-- ---- files newly sent and fetched

-- nobody is taken from the list of those whose files are sent
sent_prefix : (newly : Bool) (e : Endpoint) (es : List Endpoint) → IsPrefix es (sent_with newly e es)
sent_prefix true e es = IsPrefix-push es e
sent_prefix false e es = IsPrefix-same es

-- nor is a file that was fetched
got_prefix : (newly : Bool) (e : Endpoint) (file : Option (List ℕ)) (gs : List Got) → IsPrefix gs (got_with newly e file gs)
got_prefix true e (Some file) gs = IsPrefix-push gs _
got_prefix true e None gs = IsPrefix-same gs
got_prefix false e file gs = IsPrefix-same gs

-- who is listed was listed before, or is so rightly now
sent_by : (w : World) (e : Endpoint) (newly : Bool) → (newly ≡ true → IsSent w.past e) → (x : Endpoint) → Has (sent_with newly e w.sent) x →
    Has w.sent x ⊎ IsSent w.past x
sent_by w e true sends x has =
    ⊎_elim (λ old. inl old) (λ is. inr (subst (IsSent w.past) (sym is) (sends refl))) (Has-push w.sent e x has)
sent_by w e false sends x has = inl has

-- what is listed was listed before, or was fetched
got_by : (got : List Got) (later : Past) (e : Endpoint) (newly : Bool) (file : Option (List ℕ)) →
    (newly ≡ true → (f : List ℕ) → file ≡ Some f → IsGot later (record { client = e; file = f })) → (g : Got) →
    Has (got_with newly e file got) g → Has got g ⊎ IsGot later g
got_by got later e true (Some f) gets g has =
    ⊎_elim (λ old. inl old) (λ is. inr (subst (IsGot later) (sym is) (gets refl f refl))) (Has-push got _ g has)
got_by got later e true None gets g has = inl has
got_by got later e false file gets g has = inl has

-- ---- a step by its next phase

-- what must be shown
pub record Changing (w : World) (e : Endpoint) (c : Client) (phase : Phase) (out : Option Out) : Type 0 where
  pub pursuing : IsPursuing w.past e phase
  pub sending : IfSome out (SendsHonestly w e)
  pub binding : IfSome out (BindsTo w c (in_phase phase c))
  pub still : (p : ℕ) → MayBind c.phase p → MayBind phase p
  pub sends : newly_sent (phase_state c.phase) (phase_state phase) ≡ true → IsSent w.past e
  pub gets : newly_got (phase_state c.phase) (phase_state phase) ≡ true → (f : List ℕ) → phase_file phase ≡ Some f →
      IsGot (after_client e c (moves phase out c) w).past (record { client = e; file = f })

-- it adds to what has happened
pub changed-extends : (w : World) (e : Endpoint) (c : Client) (phase : Phase) (out : Option Out) → Extends w.past (after_client e c (moves phase out c) w).past
changed-extends w e c phase out =
    record {
      home = refl;
      net = net-prefix e.host w.net out;
      begun = IsPrefix-same w.begun;
      taken = IsPrefix-same w.taken;
      recovered = IsPrefix-same w.recovered;
      sent = sent_prefix _ e w.sent;
      got = got_prefix _ e (phase_file phase) w.got;
      opened = IsPrefix-same w.opened;
      strays = IsPrefix-same w.strays;
    }

module _ (w : World) (h : Holds w) (e : Endpoint) (c : Client) (is : client_at e w ≡ Some c) where
  -- a step to another phase keeps the invariant
  pub moves-holds : (phase : Phase) (out : Option Out) → Changing w e c phase out → Holds (after_client e c (moves phase out c) w)
  moves-holds phase out k =
      let there = h.clients e c is in
      let newly_s = newly_sent (phase_state c.phase) (phase_state phase) in
      let newly_g = newly_got (phase_state c.phase) (phase_state phase) in
      acted-holds w h e c (in_phase phase c) out (sent_with newly_s e w.sent) (got_with newly_g e (phase_file phase) w.got)
      (record {
        is = is;
        client = record { port = there.port; server = there.server; phase = k.pursuing };
        sending = k.sending;
        binding = k.binding;
        still = k.still;
        more_sent = sent_prefix newly_s e w.sent;
        more_got = got_prefix newly_g e (phase_file phase) w.got;
        sents = sent_by w e newly_s k.sends;
        gots = got_by w.got (after_client e c (moves phase out c) w).past e newly_g (phase_file phase) k.gets;
      })

  -- a step that changes nothing keeps the invariant
  pub stays-holds : Holds (after_client e c (client_stays c) w)
  stays-holds =
      moves-holds c.phase None
      (record {
        pursuing = (h.clients e c is).phase;
        sending = tt;
        binding = tt;
        still = λ p m. m;
        sends = λ new. sent_same (phase_state c.phase) new;
        gets = λ new f file. got_same (phase_state c.phase) new;
      })

  -- a client that failed has not sent its file
  failed_sent : (why : Cause) → state.Failed why ≢ state.Sent
  failed_sent why = λ apart. cc

  -- nor fetched one
  failed_got : (why : Cause) → state.Failed why ≢ state.Got
  failed_got why = λ apart. cc

  -- it fails, and may send an ERROR
  pub fails_with : (why : Cause) (out : Option Out) → IfSome out (SendsHonestly w e) → IfSome out (BindsTo w c (in_phase (failed why) c)) →
      Holds (after_client e c (moves (failed why) out c) w)
  fails_with why out sending binding =
      moves-holds (failed why) out
      (record {
        pursuing = tt;
        sending = sending;
        binding = binding;
        still = λ p m. tt;
        sends = λ new. never_sent (phase_state c.phase) (state.Failed why) (failed_sent why) new;
        gets = λ new f file. never_got (phase_state c.phase) (state.Failed why) (failed_got why) new;
      })

  -- a step that fails the client keeps the invariant
  pub fails-holds : (why : Cause) → Holds (after_client e c (fails why c) w)
  fails-holds why = fails_with why None tt tt

  -- ---- what is sent

  -- the client sends from its own endpoint
  pub own_endpoint : e ≡ record { host = e.host; port = c.port }
  own_endpoint = endpoint_is e e.host c.port refl (sym (h.clients e c is).port)

  -- a packet that reads back and says what has begun is sent honestly
  pub sends_it : (port : ℕ) (p : Packet) → decode_bytes (encode p) ≡ Ok p → Says w.past e (record { host = c.server.host; port = port }) p →
      SendsHonestly w e (out_to port p c)
  sends_it port p back says =
      let there = subst (λ (s : Endpoint). Says w.past s (record { host = c.server.host; port = port }) p) own_endpoint says in
      record { port = (h.clients e c is).port; honest = honest_packet w _ _ p back there }

  -- an ERROR is sent honestly
  pub sends_refusal : (port : ℕ) (why : Refusal) → SendsHonestly w e (out_to port (refusal_packet why) c)
  sends_refusal port why = sends_it port (refusal_packet why) (sent_refusal why) tt

  -- an ERROR binds nobody
  pub refusal_binds : (port : ℕ) (why : Refusal) (next : Client) → BindsTo w c next (out_to port (refusal_packet why) c)
  refusal_binds port why next binds = absurd (subst Binds (sent_refusal why) binds)

  -- answering a stray with an ERROR keeps the invariant
  pub stray-holds : (port : ℕ) → Holds (after_client e c (moves c.phase (Some (out_to port (refusal_packet UnknownTransfer) c)) c) w)
  stray-holds port =
      moves-holds c.phase (Some (out_to port (refusal_packet UnknownTransfer) c))
      (record {
        pursuing = (h.clients e c is).phase;
        sending = sends_refusal port UnknownTransfer;
        binding = refusal_binds port UnknownTransfer c;
        still = λ p m. m;
        sends = λ new. sent_same (phase_state c.phase) new;
        gets = λ new f file. got_same (phase_state c.phase) new;
      })

  -- a packet to the port that the next phase is bound to binds the client there
  pub binds_there : (port : ℕ) (p : Packet) (next : Client) → ((q : ℕ) → q ≡ port → MayBind next.phase q) →
      ((q : ℕ) → MayBind c.phase q → q ≡ port) → BindsTo w c next (out_to port p c)
  binds_there port p next there was binds q to =
      let same : q ≡ port = sym (ap (λ (x : Endpoint). x.port) to) in
      (there q same, λ o m. was o m ∙ sym same)
