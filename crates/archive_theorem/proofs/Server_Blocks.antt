-- What a DATA of a put does to its receiver: it holds more of the file, or all of it, or waits as before.
use Rattle.std.proofs.Common.{◌≡◌, ◌≢◌, ◌⊎◌, ℕ, ◌+◌, Bool, true, false, ◌==◌, List, length, None, Some, refl, ap, sym, ◌∙◌, subst, inl, inr}
use Rattle.tftp_packet.specs.declared.endpoint.Endpoint.{Endpoint}
use Rattle.tftp_packet.specs.declared.sizes.TheConstants.{BLOCK_SIZE}
use Rattle.tftp_packet.specs.Blocks.{block_of}
use Rattle.tftp_ends.specs.declared.recv_state.RecvState.{RecvState}
use Rattle.tftp_ends.specs.declared.recv_state.RecvState.TheVariants as recv
use Rattle.tftp_ends.specs.Ends.{Verdict, granted, refused, Receiver, state_after, receiver_takes, receiver_next, receiver_again, is_last_come, is_past, receiver_running, receiver_data_in, receiver_data, receiver_take_in, receiver_take, IsEnded, HoldsFirst, IsReceiver}
use Rattle.tftp_ends.proofs.Holding.{receiver_data-holds, ended-whole}
use Rattle.archive_model.specs.World.{World}
use Rattle.archive_theorem.proofs.Claim_Past.{HasTaken, HasCome}
use Rattle.archive_theorem.proofs.Server_Acks.{GoesOn}

-- ---- the state after a DATA

-- a repeated block changes nothing
again_same : (last : Bool) (r : Receiver) → (receiver_again last r).receiver ≡ r
again_same true r = refl
again_same false r = refl

-- a receiver that has the whole file is not changed by any DATA
pub complete-same : (verdict : Verdict) (n : ℕ) (body : List ℕ) (r : Receiver) → r.state ≡ recv.Complete → (receiver_data verdict n body r).receiver ≡ r
complete-same verdict n body r is =
    ap (λ (s : RecvState). (receiver_data_in s verdict n body r).receiver) is ∙ again_same (is_last_come n r) r

-- after a block, full or not, a receiver waits on
after_goes_on : (full : Bool) → GoesOn (state_after full)
after_goes_on true = tt
after_goes_on false = tt

takes_goes_on : (verdict : Verdict) (body : List ℕ) (r : Receiver) → GoesOn r.state → GoesOn (receiver_takes verdict body r).receiver.state
takes_goes_on granted body r on = after_goes_on (length body == BLOCK_SIZE)
takes_goes_on refused body r on = on

next_goes_on : (past : Bool) (verdict : Verdict) (body : List ℕ) (r : Receiver) → GoesOn r.state → GoesOn (receiver_next past verdict body r).receiver.state
next_goes_on true verdict body r on = on
next_goes_on false verdict body r on = takes_goes_on verdict body r on

again_goes_on : (last : Bool) (r : Receiver) → GoesOn r.state → GoesOn (receiver_again last r).receiver.state
again_goes_on true r on = on
again_goes_on false r on = on

running_goes_on : (next : Bool) (verdict : Verdict) (n : ℕ) (body : List ℕ) (r : Receiver) → GoesOn r.state →
    GoesOn (receiver_running next verdict n body r).receiver.state
running_goes_on true verdict n body r on = next_goes_on (is_past n body) verdict body r on
running_goes_on false verdict n body r on = again_goes_on (is_last_come n r) r on

in_goes_on : (state : RecvState) (verdict : Verdict) (n : ℕ) (body : List ℕ) (r : Receiver) → GoesOn r.state →
    GoesOn (receiver_data_in state verdict n body r).receiver.state
in_goes_on recv.Running verdict n body r on = running_goes_on (n == r.count + 1) verdict n body r on
in_goes_on recv.Complete verdict n body r on = again_goes_on (is_last_come n r) r on
in_goes_on recv.TimedOut verdict n body r on = on
in_goes_on recv.Over verdict n body r on = on

-- no DATA makes a receiver give up
pub data-goes_on : (verdict : Verdict) (n : ℕ) (body : List ℕ) (r : Receiver) → GoesOn r.state → GoesOn (receiver_data verdict n body r).receiver.state
data-goes_on verdict n body r on = in_goes_on r.state verdict n body r on

-- it was running before, if it is now
in_running : (state : RecvState) (verdict : Verdict) (n : ℕ) (body : List ℕ) (r : Receiver) → r.state ≡ state →
    (receiver_data_in state verdict n body r).receiver.state ≡ recv.Running → r.state ≡ recv.Running
in_running recv.Running verdict n body r is running = is
in_running recv.Complete verdict n body r is running =
    ap (λ (x : Receiver). x.state) (sym (again_same (is_last_come n r) r)) ∙ running
in_running recv.TimedOut verdict n body r is running = running
in_running recv.Over verdict n body r is running = running

-- a receiver that is running after a DATA was running before
pub data-running : (verdict : Verdict) (n : ℕ) (body : List ℕ) (r : Receiver) →
    (receiver_data verdict n body r).receiver.state ≡ recv.Running → r.state ≡ recv.Running
data-running verdict n body r running = in_running r.state verdict n body r refl running

-- ---- the receiver after its file was asked for

take_in_state : (state : RecvState) (x : Receiver) → (receiver_take_in state x).receiver.state ≡ x.state
take_in_state recv.Running x = refl
take_in_state recv.Complete x = refl
take_in_state recv.TimedOut x = refl
take_in_state recv.Over x = refl

-- handing the file out leaves the receiver's state
pub take-state : (x : Receiver) → (receiver_take x).receiver.state ≡ x.state
take-state x = take_in_state x.state x

take_in_count : (state : RecvState) (x : Receiver) → (receiver_take_in state x).receiver.count ≡ x.count
take_in_count recv.Running x = refl
take_in_count recv.Complete x = refl
take_in_count recv.TimedOut x = refl
take_in_count recv.Over x = refl

-- handing the file out leaves the number of blocks
pub take-count : (x : Receiver) → (receiver_take x).receiver.count ≡ x.count
take-count x = take_in_count x.state x

take_in_stops : (state : RecvState) (x : Receiver) (f : List ℕ) → (receiver_take_in state x).file ≡ Some f → state ≢ recv.Running
take_in_stops recv.Running x f given = absurd cc
take_in_stops recv.Complete x f given = λ e. cc
take_in_stops recv.TimedOut x f given = λ e. cc
take_in_stops recv.Over x f given = λ e. cc

-- only a receiver that waits for no more blocks hands out a file
pub take-stops : (x : Receiver) (f : List ℕ) → (receiver_take x).file ≡ Some f → (receiver_take x).receiver.state ≢ recv.Running
take-stops x f given = λ e. take_in_stops x.state x f given (sym (take-state x) ∙ e)

-- ---- a put's receiver

-- after a DATA and before the file is asked for: it was running and holds the first blocks, or its file was taken before
abbrev pub HoldsOrTaken : World → Endpoint → (file : List ℕ) → (r x : Receiver) → Type 0
HoldsOrTaken w e file r x =
    ((r.state ≡ recv.Running) × HoldsFirst file x × GoesOn x.state) ⊎ (HasTaken w.past e file × (x.file ≡ None) × (x.state ≡ recv.Complete))

data_in_come : (w : World) (e : Endpoint) (file : List ℕ) (r : Receiver) (verdict : Verdict) (n : ℕ) (body : List ℕ) →
    body ≡ block_of file n → (state : RecvState) → r.state ≡ state → HasCome w.past e file r state →
    HoldsOrTaken w e file r (receiver_data verdict n body r).receiver
data_in_come w e file r verdict n body is_block recv.Running is come =
    inl (is, receiver_data-holds file r come verdict n body is_block, data-goes_on verdict n body r (subst GoesOn (sym is) tt))
data_in_come w e file r verdict n body is_block recv.Complete is come =
    let same = complete-same verdict n body r is in
    inr (come.0, ap (λ (x : Receiver). x.file) same ∙ come.1, ap (λ (x : Receiver). x.state) same ∙ is)
data_in_come w e file r verdict n body is_block recv.TimedOut is come = absurd come
data_in_come w e file r verdict n body is_block recv.Over is come = absurd come

-- what has come of a put after a DATA of its file, before the file is asked for
pub data-come : (w : World) (e : Endpoint) (file : List ℕ) (r : Receiver) (verdict : Verdict) (n : ℕ) (body : List ℕ) →
    body ≡ block_of file n → HasCome w.past e file r r.state → HoldsOrTaken w e file r (receiver_data verdict n body r).receiver
data-come w e file r verdict n body is_block come = data_in_come w e file r verdict n body is_block r.state refl come

module _ (w : World) (e : Endpoint) (file : List ℕ) (r x : Receiver) where
  -- if no file is handed out
  none_in : (state : RecvState) → x.state ≡ state → HoldsOrTaken w e file r x → (receiver_take_in state x).file ≡ None →
      HasCome w.past e file (receiver_take_in state x).receiver state
  none_in recv.Running is (inl holds) none = holds.1
  none_in recv.Running is (inr gone) none = let both : recv.Complete ≡ recv.Running = sym gone.2 ∙ is in absurd cc
  none_in recv.Complete is (inl holds) none = let both : x.file ≡ Some _ = holds.1 in absurd cc
  none_in recv.Complete is (inr gone) none = (gone.0, refl)
  none_in recv.TimedOut is (inl holds) none = absurd (subst GoesOn is holds.2)
  none_in recv.TimedOut is (inr gone) none = let both : recv.Complete ≡ recv.TimedOut = sym gone.2 ∙ is in absurd cc
  none_in recv.Over is (inl holds) none = absurd (subst GoesOn is holds.2)
  none_in recv.Over is (inr gone) none = let both : recv.Complete ≡ recv.Over = sym gone.2 ∙ is in absurd cc

  -- if no file is handed out, what has come of the put is as the claims say
  pub none-come : HoldsOrTaken w e file r x → (receiver_take x).file ≡ None → HasCome w.past e file (receiver_take x).receiver (receiver_take x).receiver.state
  none-come held none =
      subst (HasCome w.past e file (receiver_take x).receiver) (sym (take-state x)) (none_in x.state refl held none)

  -- if one is handed out, it is the put's; the receiver was running, and is complete
  abbrev pub IsWholeFile : (f : List ℕ) → Type 0
  IsWholeFile f = (f ≡ file) × (r.state ≡ recv.Running) × (x.state ≡ recv.Complete)

  -- the receiver has one file
  same_file : (f : List ℕ) → x.file ≡ Some f → x.file ≡ Some file → f ≡ file
  same_file f is also = cc

  some_in : (state : RecvState) (f : List ℕ) → x.state ≡ state → IsReceiver x → HoldsOrTaken w e file r x →
      (receiver_take_in state x).file ≡ Some f → IsWholeFile f
  some_in recv.Running f is bounds held given = absurd cc
  some_in recv.Complete f is bounds (inl holds) given =
      (same_file f given (ended-whole file x holds.1 bounds (subst IsEnded (sym is) tt)).1, holds.0, is)
  some_in recv.Complete f is bounds (inr gone) given = let both : x.file ≡ None = gone.1 in absurd cc
  some_in recv.TimedOut f is bounds held given = absurd cc
  some_in recv.Over f is bounds (inl holds) given = absurd (subst GoesOn is holds.2)
  some_in recv.Over f is bounds (inr gone) given = let both : recv.Complete ≡ recv.Over = sym gone.2 ∙ is in absurd cc

  -- if a file is handed out, it is the whole file of the put
  pub some-come : (f : List ℕ) → IsReceiver x → HoldsOrTaken w e file r x → (receiver_take x).file ≡ Some f → IsWholeFile f
  some-come f bounds held given = some_in x.state f refl bounds held given

-- a file that was handed out is gone
take_in_gone : (state : RecvState) (x : Receiver) (f : List ℕ) → (receiver_take_in state x).file ≡ Some f → (receiver_take_in state x).receiver.file ≡ None
take_in_gone recv.Running x f given = absurd cc
take_in_gone recv.Complete x f given = refl
take_in_gone recv.TimedOut x f given = absurd cc
take_in_gone recv.Over x f given = refl

-- a file that is handed out is gone
pub take-gone : (x : Receiver) (f : List ℕ) → (receiver_take x).file ≡ Some f → (receiver_take x).receiver.file ≡ None
take-gone x f given = take_in_gone x.state x f given
