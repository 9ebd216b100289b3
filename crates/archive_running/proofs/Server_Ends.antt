-- A refused file closes its transfer, and the time-outs of the other ports are as they would have been before.
use Rattle.std.proofs.Common.{◌≡◌, ◌≢◌, ℕ, Bool, true, false, ◌==◌, not, cond, List, [], ◌∷◌, ◌++◌, fold, Option, None, Some, Result, Ok, Err, refl, ap, sym, ◌∙◌, subst, append-nil}
use Rattle.std.specs.Map.{lookup, set_value, remove_entry}
use Rattle.std.proofs.lemmas.Bool.{eqb-true, eqb-false}
use Rattle.std.proofs.lemmas.Grind.{flat_map-append}
use Rattle.tftp_packet.specs.declared.endpoint.Endpoint.{Endpoint}
use Rattle.tftp_packet.specs.declared.refusal.Refusal.TheVariants.{NotKept}
use Rattle.tftp_ends.specs.declared.send_state.SendState.{SendState}
use Rattle.tftp_ends.specs.declared.send_state.SendState.TheVariants as send
use Rattle.tftp_ends.specs.declared.recv_state.RecvState.{RecvState}
use Rattle.tftp_ends.specs.declared.recv_state.RecvState.TheVariants as recv
use Rattle.tftp_ends.specs.declared.recv_fault.RecvFault.{RecvFault}
use Rattle.tftp_ends.specs.Ends.{granted, answer_of, Receiver, SendAnswer, RecvAnswer, receiver_data, receiver_take, receiver_timeout, sender_ack, sender_timeout}
use Rattle.tftp_ends.specs.Input.{Input, nothing, stray, refusal, acked, block}
use Rattle.archive_table.specs.Table.{Table, Maps, Transfer, Taken, TableAnswer, End, sending, receiving, all, unkept, at_port, transfer_at, with_live, refusal_dgram, goes_on, closes, table_stays, file_asked, block_answered, data_at, sending_goes_on, receiving_goes_on, ack_at, transfer_input, transfer_by_input, datagram_at, waits_at, timeout_at, table_timeout}
use Rattle.archive_server.specs.Turn.{step_calls, Walk, walk_on}
use Rattle.archive_wire.specs.Wire.{Entry, Replies}
use Rattle.archive_model.specs.World.{Datagram}
use Rattle.archive_theorem.proofs.Claim_Invariant.{exact_port}
use Rattle.archive_running.specs.Members.{sent_in_calls, sent_in, others_of}
use Rattle.archive_running.proofs.World_Shows.{outs, sent-calls}

-- ---- two ports

no_first : {X : Type 0} (here : Bool) (x : X) (rest : Option X) → (here ≡ true → ⊥) → rest ≡ cond here (Some x) rest
no_first true x rest never = absurd (never refl)
no_first false x rest never = refl

either_first : {X : Type 0} (here : Bool) (x y : X) (rest : Option X) → (here ≡ true → ⊥) → cond here (Some x) rest ≡ cond here (Some y) rest
either_first true x y rest never = absurd (never refl)
either_first false x y rest never = refl

module _ (p q : ℕ) (other : q ≢ p) where
  never : (k : ℕ) → at_port p k ≡ true → at_port q k ≡ true → ⊥
  never k at_p at_q = other (exact_port q k at_q ∙ sym (exact_port p k at_p))

  -- a look-up at one port after a removal at the other
  found_removed : (es : List (ℕ × Transfer)) → lookup (at_port q) (remove_entry (at_port p) es) ≡ lookup (at_port q) es
  found_removed [] = refl
  found_removed (e ∷ es) = by (at_port p e.0) refl (found_removed es)
    where
      by : (here : Bool) → at_port p e.0 ≡ here → lookup (at_port q) (remove_entry (at_port p) es) ≡ lookup (at_port q) es →
          lookup (at_port q) (cond here es (e ∷ remove_entry (at_port p) es)) ≡ cond (at_port q e.0) (Some e.1) (lookup (at_port q) es)
      by true is rest = no_first (at_port q e.0) e.1 (lookup (at_port q) es) (never e.0 is)
      by false is rest = ap (λ (o : Option Transfer). cond (at_port q e.0) (Some e.1) o) rest

  -- and after a write at the other
  found_written : (es : List (ℕ × Transfer)) (v : Transfer) → lookup (at_port p) (set_value (at_port q) es v) ≡ lookup (at_port p) es
  found_written [] v = refl
  found_written (e ∷ es) v = by (at_port q e.0) refl (found_written es v)
    where
      by : (here : Bool) → at_port q e.0 ≡ here → lookup (at_port p) (set_value (at_port q) es v) ≡ lookup (at_port p) es →
          lookup (at_port p) (cond here ((e.0, v) ∷ es) (e ∷ set_value (at_port q) es v)) ≡ cond (at_port p e.0) (Some e.1) (lookup (at_port p) es)
      by true is rest = either_first (at_port p e.0) v e.1 (lookup (at_port p) es) (λ at_p. never e.0 at_p is)
      by false is rest = ap (λ (o : Option Transfer). cond (at_port p e.0) (Some e.1) o) rest

  -- a write and a removal
  written_removed : (es : List (ℕ × Transfer)) (v : Transfer) →
      remove_entry (at_port p) (set_value (at_port q) es v) ≡ set_value (at_port q) (remove_entry (at_port p) es) v
  written_removed [] v = refl
  written_removed (e ∷ es) v = by (at_port q e.0) (at_port p e.0) refl refl (written_removed es v)
    where
      by : (here there : Bool) → at_port q e.0 ≡ here → at_port p e.0 ≡ there →
          remove_entry (at_port p) (set_value (at_port q) es v) ≡ set_value (at_port q) (remove_entry (at_port p) es) v →
          remove_entry (at_port p) (cond here ((e.0, v) ∷ es) (e ∷ set_value (at_port q) es v))
          ≡ set_value (at_port q) (cond there es (e ∷ remove_entry (at_port p) es)) v
      by true true at_q at_p rest = absurd (never e.0 at_p at_q)
      by true false at_q at_p rest =
          ap (λ (b : Bool). cond b es ((e.0, v) ∷ remove_entry (at_port p) es)) at_p
          ∙ sym (ap (λ (b : Bool). cond b ((e.0, v) ∷ remove_entry (at_port p) es) (e ∷ set_value (at_port q) (remove_entry (at_port p) es) v)) at_q)
      by false true at_q at_p rest =
          ap (λ (b : Bool). cond b (set_value (at_port q) es v) (e ∷ remove_entry (at_port p) (set_value (at_port q) es v))) at_p
      by false false at_q at_p rest =
          ap (λ (b : Bool). cond b (set_value (at_port q) es v) (e ∷ remove_entry (at_port p) (set_value (at_port q) es v))) at_p
          ∙ ap (λ (l : List (ℕ × Transfer)). e ∷ l) rest
          ∙ sym (ap (λ (b : Bool). cond b ((e.0, v) ∷ remove_entry (at_port p) es) (e ∷ set_value (at_port q) (remove_entry (at_port p) es) v)) at_q)

  -- two removals
  removed_removed : (es : List (ℕ × Transfer)) → remove_entry (at_port p) (remove_entry (at_port q) es) ≡ remove_entry (at_port q) (remove_entry (at_port p) es)
  removed_removed [] = refl
  removed_removed (e ∷ es) = by (at_port q e.0) (at_port p e.0) refl refl (removed_removed es)
    where
      by : (here there : Bool) → at_port q e.0 ≡ here → at_port p e.0 ≡ there →
          remove_entry (at_port p) (remove_entry (at_port q) es) ≡ remove_entry (at_port q) (remove_entry (at_port p) es) →
          remove_entry (at_port p) (cond here es (e ∷ remove_entry (at_port q) es)) ≡ remove_entry (at_port q) (cond there es (e ∷ remove_entry (at_port p) es))
      by true true at_q at_p rest = absurd (never e.0 at_p at_q)
      by true false at_q at_p rest =
          sym (ap (λ (b : Bool). cond b (remove_entry (at_port p) es) (e ∷ remove_entry (at_port q) (remove_entry (at_port p) es))) at_q)
      by false true at_q at_p rest =
          ap (λ (b : Bool). cond b (remove_entry (at_port q) es) (e ∷ remove_entry (at_port p) (remove_entry (at_port q) es))) at_p
      by false false at_q at_p rest =
          ap (λ (b : Bool). cond b (remove_entry (at_port q) es) (e ∷ remove_entry (at_port p) (remove_entry (at_port q) es))) at_p
          ∙ ap (λ (l : List (ℕ × Transfer)). e ∷ l) rest
          ∙ sym (ap (λ (b : Bool). cond b (remove_entry (at_port p) es) (e ∷ remove_entry (at_port q) (remove_entry (at_port p) es))) at_q)

-- ---- a time-out at another port

-- the transfer at this port is gone
abbrev pub without : (port : ℕ) → Table → Table
without port s = with_live (remove_entry (at_port port) s.live) s

-- The first answer is the second where the transfer at this port is gone; and neither has to do with that.
record IsApartFrom (p : ℕ) (s : Table) (x y : TableAnswer) : Type 0 where
  server : x.server ≡ without p y.server
  step : x.step ≡ y.step
  gone : transfer_at p x.server ≡ transfer_at p (without p s)
  found : transfer_at p y.server ≡ transfer_at p s
  maps : y.server.maps ≡ s.maps
  request : y.server.request ≡ s.request

module _ (p q : ℕ) (other : q ≢ p) (s : Table) where
  stays_apart : IsApartFrom p s (table_stays (without p s)) (table_stays s)
  stays_apart = record { server = refl; step = refl; gone = refl; found = refl; maps = refl; request = refl }

  goes_apart : (peer : Endpoint) (end : End) (out : Option (List ℕ)) → IsApartFrom p s (goes_on q peer end out (without p s)) (goes_on q peer end out s)
  goes_apart peer end out =
      let t : Transfer = record { peer = peer; end = end } in
      record {
        server = ap (λ (l : List (ℕ × Transfer)). with_live l s) (sym (written_removed p q other s.live t));
        step = refl;
        gone = found_written p q other (remove_entry (at_port p) s.live) t;
        found = found_written p q other s.live t;
        maps = refl;
        request = refl;
      }

  closes_apart : (peer : Endpoint) (out : Option (List ℕ)) → IsApartFrom p s (closes q peer out (without p s)) (closes q peer out s)
  closes_apart peer out =
      let back : p ≢ q = λ e. other (sym e) in
      record {
        server = ap (λ (l : List (ℕ × Transfer)). with_live l s) (sym (removed_removed p q other s.live));
        step = refl;
        gone = found_removed q p back (remove_entry (at_port p) s.live);
        found = found_removed q p back s.live;
        maps = refl;
        request = refl;
      }

  sender_apart : (state : SendState) (peer : Endpoint) (a : SendAnswer) →
      IsApartFrom p s (sending_goes_on state q peer a (without p s)) (sending_goes_on state q peer a s)
  sender_apart send.Running peer a = goes_apart peer _ _
  sender_apart send.Finished peer a = closes_apart peer _
  sender_apart send.TimedOut peer a = closes_apart peer _

  receiver_apart : (state : RecvState) (peer : Endpoint) (a : RecvAnswer) →
      IsApartFrom p s (receiving_goes_on state q peer a (without p s)) (receiving_goes_on state q peer a s)
  receiver_apart recv.Running peer a = goes_apart peer _ _
  receiver_apart recv.Complete peer a = goes_apart peer _ _
  receiver_apart recv.TimedOut peer a = closes_apart peer _
  receiver_apart recv.Over peer a = closes_apart peer _

  waits_apart : (end : End) (peer : Endpoint) → IsApartFrom p s (waits_at end q peer (without p s)) (waits_at end q peer s)
  waits_apart (sending e) peer = sender_apart (sender_timeout e).sender.state peer (sender_timeout e)
  waits_apart (receiving r) peer = receiver_apart (receiver_timeout r).receiver.state peer (receiver_timeout r)

  at_apart : (found : Option Transfer) → IsApartFrom p s (timeout_at found q (without p s)) (timeout_at found q s)
  at_apart (Some t) = waits_apart t.end t.peer
  at_apart None = stays_apart

  timeout_apart : IsApartFrom p s (table_timeout q (without p s)) (table_timeout q s)
  timeout_apart =
      subst (λ (o : Option Transfer). IsApartFrom p s (timeout_at o q (without p s)) (table_timeout q s)) (sym (found_removed p q other s.live))
      (at_apart (transfer_at q s))

-- ---- time-outs, port by port

-- what is sent by calls and by those after one more step
sent_on : (host : ℕ) (calls : List Entry) (a : TableAnswer) (port : ℕ) (replies : Replies) →
    sent_in_calls host (calls ++ step_calls a.step.closed port a.step.out replies) ≡ sent_in_calls host calls ++ outs host a.step.out
sent_on host calls a port replies =
    flat_map-append (sent_in host) calls (step_calls a.step.closed port a.step.out replies)
    ∙ ap (λ (l : List Datagram). sent_in_calls host calls ++ l) (sent-calls host a.step.closed port a.step.out replies)

-- a walk over all of these ports, where the transfer at this one is gone, and one over the others, where it is not
pub record WalksApart (p host : ℕ) (k l : Walk) : Type 0 where
  pub server : k.server ≡ without p l.server
  pub gone : transfer_at p k.server ≡ None
  pub sent : sent_in_calls host k.calls ≡ sent_in_calls host l.calls

-- what a walk leaves as it was
pub record Leaves (p : ℕ) (s v : Table) : Type 0 where
  pub found : transfer_at p v ≡ transfer_at p s
  pub maps : v.maps ≡ s.maps
  pub request : v.request ≡ s.request

module _ (p host due : ℕ) where
  -- one more port, if it is another
  walks_other : (e : ℕ × Replies) (k l : Walk) → e.0 ≢ p → WalksApart p host k l →
      WalksApart p host (walk_on due k e) (walk_on due l e) × Leaves p l.server (walk_on due l e).server
  walks_other e k l other walks =
      let y = table_timeout e.0 l.server in
      let a = timeout_apart p e.0 other l.server in
      let there : IsApartFrom p l.server (table_timeout e.0 k.server) y =
      subst (λ (s : Table). IsApartFrom p l.server (table_timeout e.0 s) y) (sym walks.server) a in
      let gone_before : transfer_at p (without p l.server) ≡ None = ap (transfer_at p) (sym walks.server) ∙ walks.gone in
      let x = table_timeout e.0 k.server in
      let out : outs host x.step.out ≡ outs host y.step.out = ap (λ s. outs host s.out) there.step in (
        record {
          server = there.server;
          gone = there.gone ∙ gone_before;
          sent =
              sent_on host k.calls x e.0 e.1
              ∙ ap (λ (d : List Datagram). d ++ outs host x.step.out) walks.sent
              ∙ ap (λ (d : List Datagram). sent_in_calls host l.calls ++ d) out
              ∙ sym (sent_on host l.calls y e.0 e.1);
        },
        record { found = there.found; maps = there.maps; request = there.request },
      )

  -- a time-out where no transfer is does nothing
  walks_here : (e : ℕ × Replies) (k l : Walk) → e.0 ≡ p → WalksApart p host k l → WalksApart p host (walk_on due k e) l
  walks_here e k l here walks =
      let x = table_timeout e.0 k.server in
      let none : transfer_at e.0 k.server ≡ None = ap (λ (n : ℕ). transfer_at n k.server) here ∙ walks.gone in
      let nothing_done : x ≡ table_stays k.server = ap (λ (o : Option Transfer). timeout_at o e.0 k.server) none in
      record {
        server = ap (λ (a : TableAnswer). a.server) nothing_done ∙ walks.server;
        gone = ap (λ (a : TableAnswer). transfer_at p a.server) nothing_done ∙ walks.gone;
        sent =
            sent_on host k.calls x e.0 e.1
            ∙ ap (λ (a : TableAnswer). sent_in_calls host k.calls ++ outs host a.step.out) nothing_done
            ∙ append-nil (sent_in_calls host k.calls)
            ∙ walks.sent;
      }

  -- so for all ports, one after another
  pub walks-apart : (late : List (ℕ × Replies)) (k l : Walk) → WalksApart p host k l →
      let end = fold (walk_on due) l (others_of p late) in
      WalksApart p host (fold (walk_on due) k late) end × Leaves p l.server end.server
  walks-apart [] k l walks = (walks, record { found = refl; maps = refl; request = refl })
  walks-apart (e ∷ late) k l walks =
      by (e.0 == p) refl
      (λ m walks. walks-apart late (walk_on due k e) m walks)
    where
      by : (here : Bool) → (e.0 == p) ≡ here →
          ((m : Walk) → WalksApart p host (walk_on due k e) m →
          let end = fold (walk_on due) m (others_of p late) in
          WalksApart p host (fold (walk_on due) (walk_on due k e) late) end × Leaves p m.server end.server) →
          let rest = cond (not here) (e ∷ others_of p late) (others_of p late) in
          WalksApart p host (fold (walk_on due) (walk_on due k e) late) (fold (walk_on due) l rest) × Leaves p l.server (fold (walk_on due) l rest).server
      by true is later = later l (walks_here e k l (eqb-true _ _ is) walks)
      by false is later =
          let now = walks_other e k l (eqb-false _ _ is) walks in
          let end = later (walk_on due l e) now.0 in (
            end.0,
            record {
              found = end.1.found ∙ now.1.found;
              maps = end.1.maps ∙ now.1.maps;
              request = end.1.request ∙ now.1.request;
            },
          )

-- ---- a file that is complete

-- the answer that it is not kept
abbrev pub refused_at : (port : ℕ) → Transfer → Table → TableAnswer
refused_at port tr s = closes port tr.peer (Some (refusal_dgram NotKept)) s

-- With this datagram the transfer's file is complete, whatever else the server has: it is taken, or refused if it is not kept.
pub record Completes (tr : Transfer) (port : ℕ) (from : Endpoint) (bytes : List ℕ) (t : Taken) : Type 0 where
  pub takes : (maps : Maps) (s : Table) → (datagram_at (Some tr) all maps port from bytes s).step.taken ≡ Some t
  pub refuses : (maps : Maps) (s : Table) → datagram_at (Some tr) unkept maps port from bytes s ≡ refused_at port tr s

module _ (port : ℕ) (t : Taken) where
  module _ (peer : Endpoint) where
    -- the same for a step of the transfer by its parts
    record Answers (taking refusing : Maps → Table → TableAnswer) : Type 0 where
      takes : (maps : Maps) (s : Table) → (taking maps s).step.taken ≡ Some t
      refuses : (maps : Maps) (s : Table) → refusing maps s ≡ closes port peer (Some (refusal_dgram NotKept)) s

    file_completes : (file : Option (List ℕ)) (r : Receiver) (out : Option (List ℕ)) (maps : Maps) (s : Table) →
        (file_asked file all maps port peer r out s).step.taken ≡ Some t →
        Answers (λ m v. file_asked file all m port peer r out v) (λ m v. file_asked file unkept m port peer r out v)
    file_completes (Some file) r out maps s e = record { takes = λ m v. e; refuses = λ m v. refl }
    file_completes None r out maps s e = absurd cc

    block_completes : (result : Result (Option (List ℕ)) RecvFault) (r : Receiver) (maps : Maps) (s : Table) →
        (block_answered result all maps port peer r s).step.taken ≡ Some t →
        Answers (λ m v. block_answered result all m port peer r v) (λ m v. block_answered result unkept m port peer r v)
    block_completes (Ok out) r maps s e = file_completes (receiver_take r).file (receiver_take r).receiver out maps s e
    block_completes (Err f) r maps s e = absurd cc

    data_completes : (end : End) (n : ℕ) (body : List ℕ) (maps : Maps) (s : Table) → (data_at end all maps port peer n body s).step.taken ≡ Some t →
        Answers (λ m v. data_at end all m port peer n body v) (λ m v. data_at end unkept m port peer n body v)
    data_completes (sending x) n body maps s e = absurd cc
    data_completes (receiving r) n body maps s e =
        block_completes (answer_of (receiver_data granted n body r).result) (receiver_data granted n body r).receiver maps s e

    sender_completes : {P : Type 0} (state : SendState) (a : SendAnswer) (s : Table) → (sending_goes_on state port peer a s).step.taken ≡ Some t → P
    sender_completes send.Running a s e = absurd cc
    sender_completes send.Finished a s e = absurd cc
    sender_completes send.TimedOut a s e = absurd cc

    ack_completes : {P : Type 0} (end : End) (n : ℕ) (s : Table) → (ack_at end port peer n s).step.taken ≡ Some t → P
    ack_completes (sending x) n s e = sender_completes (sender_ack n x).sender.state (sender_ack n x) s e
    ack_completes (receiving r) n s e = absurd cc

  input_completes : (h : Input) (from : Endpoint) (tr : Transfer) (maps : Maps) (s : Table) →
      (transfer_by_input h all maps port from tr s).step.taken ≡ Some t →
      Answers tr.peer (λ m v. transfer_by_input h all m port from tr v) (λ m v. transfer_by_input h unkept m port from tr v)
  input_completes nothing from tr maps s e = absurd cc
  input_completes stray from tr maps s e = absurd cc
  input_completes (refusal code) from tr maps s e = absurd cc
  input_completes (acked n) from tr maps s e = ack_completes tr.peer tr.end n s e
  input_completes (block n body) from tr maps s e = data_completes tr.peer tr.end n body maps s e

  -- what completes a file completes that of the transfer at the port
  pub completes : (found : Option Transfer) (from : Endpoint) (bytes : List ℕ) (maps : Maps) (s : Table) →
      (datagram_at found all maps port from bytes s).step.taken ≡ Some t →
      (tr : Transfer) × (found ≡ Some tr) × Completes tr port from bytes t
  completes (Some tr) from bytes maps s e =
      let a = input_completes (transfer_input tr.peer from bytes) from tr maps s e in
      (tr, refl, record { takes = a.takes; refuses = a.refuses })
  completes None from bytes maps s e = absurd cc
