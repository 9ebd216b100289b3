-- Time-outs free every port of the server, five for each transfer at most.
use Rattle.std.proofs.Common.{◌≡◌, ◌⊎◌, ℕ, zero, suc, ◌+◌, ◌*◌, ◌≤◌, ◌<◌, Bool, true, false, ◌==◌, cond, List, [], ◌∷◌, ◌++◌, length, Option, None, Some, refl, ap, sym, ◌∙◌, subst, inl, inr, arith, length-append}
use Rattle.std.specs.Map.{lookup, set_value, remove_entry}
use Rattle.tftp_packet.specs.declared.endpoint.Endpoint.{Endpoint}
use Rattle.tftp_ends.specs.declared.limits.TheConstants.{MISSES, DALLY}
use Rattle.tftp_ends.specs.declared.send_state.SendState.{SendState}
use Rattle.tftp_ends.specs.declared.send_state.SendState.TheVariants as send
use Rattle.tftp_ends.specs.declared.recv_state.RecvState.{RecvState}
use Rattle.tftp_ends.specs.declared.recv_state.RecvState.TheVariants as recv
use Rattle.tftp_ends.specs.Ends.{Sender, Receiver, sender_missed, sender_stays, sender_timeout_in, receiver_missed, receiver_dallied, receiver_timeout_in}
use Rattle.archive_table.specs.Table.{Table, Maps, Taken, End, Transfer, sending, receiving, TableAnswer, at_port, transfer_at, sending_goes_on, receiving_goes_on, waits_at, timeout_at, table_timeout}
use Rattle.archive_model.specs.World.{WorldStep, World, after_transfer, taken_with, run_from, AllMerged, Origin, RunFrom, last_world}
use Rattle.archive_theorem.specs.Freeing.{time_out, time_outs, IsFreed}
use Rattle.archive_theorem.proofs.Claim_Past.{IsLiveEnd}
use Rattle.archive_theorem.proofs.Claim_Invariant.{same_port, Holds}
use Rattle.archive_theorem.proofs.Server_Acks.{timeout-holds}
use Rattle.archive_theorem.proofs.Headline_Remains.{Remain, timeout_leaves}
use Rattle.archive_theorem.proofs.Headline_Total.{not_more}
use Rattle.archive_theorem.proofs.Event_Happens.{run-append, run_from-holds, last-holds}

-- ---- one time-out

-- how many time-outs in a row an end has missed
abbrev misses_of : End → ℕ
misses_of (sending s) = s.misses
misses_of (receiving r) = r.misses

-- the transfer is closed, or has missed once more
abbrev Waits : (port : ℕ) → Endpoint → End → Table → TableAnswer → Type 0
Waits port peer end s a =
    (a.server.live ≡ remove_entry (at_port port) s.live)
    ⊎ ((next : End) × (a.server.live ≡ set_value (at_port port) s.live (record { peer = peer; end = next })) × (misses_of next ≡ suc (misses_of end)))

one_more_miss : (n : ℕ) → n + 1 ≡ suc n
one_more_miss n = omega arith

module _ (port : ℕ) (peer : Endpoint) (s : Table) where
  -- a sender that is running sends again or is closed
  sender_waits : (last : Bool) (e : Sender) →
      Waits port peer (sending e) s (sending_goes_on (sender_missed last e).sender.state port peer (sender_missed last e) s)
  sender_waits true e = inl refl
  sender_waits false e = inr (sending (sender_missed false e).sender, refl, one_more_miss e.misses)

  sender_in : (state : SendState) (e : Sender) → e.state ≡ state →
      Waits port peer (sending e) s (sending_goes_on (sender_timeout_in state e).sender.state port peer (sender_timeout_in state e) s)
  sender_in send.Running e is = sender_waits (e.misses + 1 == MISSES) e
  sender_in send.Finished e is =
      subst (λ (x : SendState). Waits port peer (sending e) s (sending_goes_on x port peer (sender_stays e) s)) (sym is) (inl refl)
  sender_in send.TimedOut e is =
      subst (λ (x : SendState). Waits port peer (sending e) s (sending_goes_on x port peer (sender_stays e) s)) (sym is) (inl refl)

  -- a receiver whose blocks are missing asks again or is closed
  receiver_waits : (last : Bool) (r : Receiver) →
      Waits port peer (receiving r) s (receiving_goes_on (receiver_missed last r).receiver.state port peer (receiver_missed last r) s)
  receiver_waits true r = inl refl
  receiver_waits false r = inr (receiving (receiver_missed false r).receiver, refl, one_more_miss r.misses)

  -- one that waits for a repeated last block waits on or is closed
  dallies : (last : Bool) (r : Receiver) →
      Waits port peer (receiving r) s (receiving_goes_on (receiver_dallied last r).receiver.state port peer (receiver_dallied last r) s)
  dallies true r = inl refl
  dallies false r = inr (receiving (receiver_dallied false r).receiver, refl, one_more_miss r.misses)

  receiver_in : (state : RecvState) (r : Receiver) → r.state ≡ state →
      Waits port peer (receiving r) s (receiving_goes_on (receiver_timeout_in state r).receiver.state port peer (receiver_timeout_in state r) s)
  receiver_in recv.Running r is = receiver_waits (r.misses + 1 == MISSES) r
  receiver_in recv.Complete r is = dallies (r.misses + 1 == DALLY) r
  receiver_in recv.TimedOut r is =
      subst (λ (x : RecvState). Waits port peer (receiving r) s (receiving_goes_on x port peer (record { receiver = r; out = None }) s)) (sym is) (inl refl)
  receiver_in recv.Over r is =
      subst (λ (x : RecvState). Waits port peer (receiving r) s (receiving_goes_on x port peer (record { receiver = r; out = None }) s)) (sym is) (inl refl)

  -- either end
  end_waits : (end : End) → Waits port peer end s (waits_at end port peer s)
  end_waits (sending e) = sender_in e.state e refl
  end_waits (receiving r) = receiver_in r.state r refl

-- ---- time-outs of a port

-- a time-out changes nothing but the transfer
timeout_remains : (w : World) (port : ℕ) → Remain w (after_transfer (table_timeout port w.server) w)
timeout_remains w port =
    let same = timeout_leaves (transfer_at port w.server) port w.server in
    (ap (λ (x : Option Taken). taken_with x w.taken) same.0, same.1)

-- what stays twice stays
remain_on : (u v w : World) → Remain u v → Remain v w → Remain u w
remain_on u v w first next = (next.0 ∙ first.0, next.1 ∙ first.1)

-- these are the live transfers after some time-outs
record Freed (count : ℕ) (w : World) (left : List (ℕ × Transfer)) : Type 0 where
  ports : List ℕ
  few : length ports ≤ count
  live : (run_from (time_outs ports) w).server.live ≡ left
  remain : Remain w (run_from (time_outs ports) w)

module _ (port : ℕ) (t : Transfer) (rest : List (ℕ × Transfer)) where
  pub found_first : lookup (at_port port) ((port, t) ∷ rest) ≡ Some t
  found_first = ap (λ (b : Bool). cond b (Some t) (lookup (at_port port) rest)) (same_port port)

  -- removing it leaves the others
  removed_first : remove_entry (at_port port) ((port, t) ∷ rest) ≡ rest
  removed_first = ap (λ (b : Bool). cond b rest ((port, t) ∷ remove_entry (at_port port) rest)) (same_port port)

  -- writing it changes only it
  pub set_first : (u : Transfer) → set_value (at_port port) ((port, t) ∷ rest) u ≡ (port, u) ∷ rest
  set_first u = ap (λ (b : Bool). cond b ((port, u) ∷ rest) ((port, t) ∷ set_value (at_port port) rest u)) (same_port port)

-- an end that is within its bounds has missed fewer than MISSES
patient : (w : World) (e : Endpoint) (port : ℕ) (end : End) → IsLiveEnd w.past e port end → misses_of end < MISSES
patient w e port (sending s) there = there.bounds.patient
patient w e port (receiving r) there = there.bounds.patient

five : MISSES ≡ 5
five = refl

-- so each transfer has missed fewer than five
patient_at : (w : World) → Holds w → (port : ℕ) (t : Transfer) → transfer_at port w.server ≡ Some t → misses_of t.end < 5
patient_at w h port t is = subst (λ (n : ℕ). misses_of t.end < n) five (patient w t.peer port t.end (h.live port t is).end)

module _ (w : World) (port : ℕ) (t : Transfer) (rest : List (ℕ × Transfer)) (live : w.server.live ≡ (port, t) ∷ rest) where
  -- the world after that
  abbrev after : World
  after = after_transfer (table_timeout port w.server) w

  found : transfer_at port w.server ≡ Some t
  found = ap (lookup (at_port port)) live ∙ found_first port t rest

  -- it is closed or has missed once more
  waits : Waits port t.peer t.end w.server (table_timeout port w.server)
  waits =
      subst (λ (x : Option Transfer). Waits port t.peer t.end w.server (timeout_at x port w.server)) (sym found) (end_waits port t.peer w.server t.end)

  -- if it is closed the others are left
  closed : after.server.live ≡ remove_entry (at_port port) w.server.live → after.server.live ≡ rest
  closed is = is ∙ ap (remove_entry (at_port port)) live ∙ removed_first port t rest

  -- otherwise it is the first with one more miss
  waiting : (u : Transfer) → after.server.live ≡ set_value (at_port port) w.server.live u → after.server.live ≡ (port, u) ∷ rest
  waiting u is = is ∙ ap (λ (l : List (ℕ × Transfer)). set_value (at_port port) l u) live ∙ set_first port t rest u

-- one more time-out before those that free the port
free_on : (k : ℕ) (w : World) (port : ℕ) (rest : List (ℕ × Transfer)) → Freed k (after_transfer (table_timeout port w.server) w) rest → Freed (suc k) w rest
free_on k w port rest f =
    record {
      ports = port ∷ f.ports;
      few = let few : length f.ports ≤ k = f.few in omega arith;
      live = f.live;
      remain = remain_on w (after_transfer (table_timeout port w.server) w)
          (run_from (time_outs f.ports) (after_transfer (table_timeout port w.server) w)) (timeout_remains w port) f.remain;
    }

-- the time-out itself frees it
free_now : (k : ℕ) (w : World) (port : ℕ) (rest : List (ℕ × Transfer)) →
    (after_transfer (table_timeout port w.server) w).server.live ≡ rest → Freed (suc k) w rest
free_now k w port rest is =
    free_on k w port rest (record { ports = []; few = omega arith; live = is; remain = (refl, refl) })

-- as many time-outs as the first transfer lacks of five free its port
abbrev FreesFirst : (k : ℕ) → Type 0
FreesFirst k =
    (w : World) → Holds w → (port : ℕ) (t : Transfer) (rest : List (ℕ × Transfer)) → w.server.live ≡ (port, t) ∷ rest → 5 ≤ misses_of t.end + k → Freed k w rest

-- by what the time-out does
free_by : (k : ℕ) → FreesFirst k → (w : World) → Holds w → (port : ℕ) (t : Transfer) (rest : List (ℕ × Transfer)) →
    w.server.live ≡ (port, t) ∷ rest → 5 ≤ misses_of t.end + suc k → Waits port t.peer t.end w.server (table_timeout port w.server) →
    Freed (suc k) w rest
free_by k later w h port t rest live missed (inl gone) = free_now k w port rest (closed w port t rest live gone)
free_by k later w h port t rest live missed (inr (next, is, more)) =
    let u : Transfer = record { peer = t.peer; end = next } in
    let enough : 5 ≤ misses_of next + k = omega (arith, more, missed) in
    free_on k w port rest (later (after_transfer (table_timeout port w.server) w) (timeout-holds w h port) port u rest (waiting w port t rest live u is) enough)

-- for any number
free_first : (k : ℕ) → FreesFirst k
free_first zero w h port t rest live missed =
    let still : misses_of t.end < 5 = patient_at w h port t (found w port t rest live) in
    absurd (omega arith)
free_first (suc k) w h port t rest live missed =
    free_by k (free_first k) w h port t rest live missed (waits w port t rest live)

-- ---- all of them

-- no time-out takes a file
time_outs_merged : (ports : List ℕ) (w : World) → AllMerged (time_outs ports) w
time_outs_merged [] w = tt
time_outs_merged (port ∷ ports) w =
    let v = after_transfer (table_timeout port w.server) w in
    (λ t is. not_more w.taken t (sym (timeout_remains w port).0 ∙ is), time_outs_merged ports v)

time_outs_append : (xs ys : List ℕ) → time_outs (xs ++ ys) ≡ time_outs xs ++ time_outs ys
time_outs_append [] ys = refl
time_outs_append (x ∷ xs) ys = ap (λ (l : List WorldStep). time_out x ∷ l) (time_outs_append xs ys)

-- time-outs of some ports, and then of others
join : (m n : ℕ) (w : World) (left : List (ℕ × Transfer)) (rest : List (ℕ × Transfer)) (f : Freed m w left) →
    Freed n (run_from (time_outs f.ports) w) rest → Freed (m + n) w rest
join m n w left rest f g =
    let first = f.ports in
    let next = g.ports in
    let v = run_from (time_outs first) w in
    let end : run_from (time_outs (first ++ next)) w ≡ run_from (time_outs next) v =
    ap (λ (l : List WorldStep). run_from l w) (time_outs_append first next) ∙ run-append (time_outs first) (time_outs next) w in
    let few : length first ≤ m = f.few in
    let more : length next ≤ n = g.few in
    record {
      ports = first ++ next;
      few = omega (arith, length-append first next, few, more);
      live = ap (λ (x : World). x.server.live) end ∙ g.live;
      remain = subst (Remain w) (sym end) (remain_on w v (run_from (time_outs next) v) f.remain g.remain);
    }

-- five time-outs for each transfer free every port
free_all : (live : List (ℕ × Transfer)) (w : World) → Holds w → w.server.live ≡ live → Freed (5 * length live) w []
free_all [] w h is = record { ports = []; few = omega arith; live = is; remain = (refl, refl) }
free_all ((port, t) ∷ rest) w h is =
    let f = free_first 5 w h port t rest is (omega arith) in
    let v = run_from (time_outs f.ports) w in
    let k = run_from-holds (time_outs f.ports) w h (time_outs_merged f.ports w) in
    let g = free_all rest v k f.live in
    let both : 5 + 5 * length rest ≡ 5 * suc (length rest) = omega arith in
    subst (λ (n : ℕ). Freed n w []) both (join 5 (5 * length rest) w rest [] f g)

-- so time-outs can free every port of a world for which the invariant holds
holds-freed : (w : World) → Holds w → IsFreed w
holds-freed w h =
    let f = free_all w.server.live w h refl in
    record { ports = f.ports; few = f.few; idle = f.live; taken = f.remain.0; maps = f.remain.1 }

-- after any run time-outs free every port
pub run_from-freed : (o : Origin) (r : RunFrom o) → IsFreed (last_world r)
run_from-freed o r = holds-freed (last_world r) (last-holds o r)
