-- What a receiver knows of the file that is sent to it, as long as each DATA that arrives is a block of that file, and
-- what its steps leave.
use Rattle.std.proofs.Common.{◌≡◌, ◌⊎◌, ℕ, ◌+◌, ◌*◌, ◌<◌, ◌≤◌, Bool, true, false, ◌==◌, List, ◌++◌, length, None, Some, IfSome, refl, ap, sym, ◌∙◌, subst, arith, inl, inr, length-take}
use Rattle.std.proofs.lemmas.Bool.{eqb-true}
use Rattle.std.proofs.lemmas.List.{take_all}
use Rattle.tftp_packet.specs.declared.sizes.TheConstants.{BLOCK_SIZE}
use Rattle.tftp_packet.specs.Blocks.{block_count, block_of, first_blocks}
use Rattle.tftp_packet.proofs.Cutting.{first_blocks-more}
use Rattle.tftp_ends.specs.declared.limits.TheConstants.{MISSES, DALLY}
use Rattle.tftp_ends.specs.declared.recv_state.RecvState.{RecvState}
use Rattle.tftp_ends.specs.declared.recv_state.RecvState.TheVariants as receiving
use Rattle.tftp_ends.specs.Ends.{Verdict, granted, refused, Receiver, receiver_appends, receiver_takes, receiver_next, receiver_again, is_last_come, is_past, receiver_running, receiver_data_in, receiver_data, receiver_missed, receiver_dallied, receiver_timeout_in, receiver_timeout, TakeAnswer, receiver_take_in, receiver_take, IsEnded, HoldsFirst, HasReceivedSize, IsReceiver}

-- ---- what a receiver knows of the file

-- the steps of a receiver that holds the first blocks of this file
module _ (file : List ℕ) (r : Receiver) (holds : HoldsFirst file r) where
  -- after a block that it already has
  again_holds : (last : Bool) → HoldsFirst file (receiver_again last r).receiver
  again_holds true = holds
  again_holds false = holds

  -- after the next block, whether or not memory was granted
  takes_holds : (body : List ℕ) → body ≡ block_of file (r.count + 1) → (verdict : Verdict) → HoldsFirst file (receiver_takes verdict body r).receiver
  takes_holds body is_block granted =
      ap (λ o. receiver_appends o body) holds ∙ ap (λ (xs : List ℕ). Some (first_blocks file r.count ++ xs)) is_block
      ∙ ap Some (first_blocks-more file r.count)
  takes_holds body is_block refused = holds

  -- the same, where the block may be one too many
  next_holds : (past : Bool) (body : List ℕ) → body ≡ block_of file (r.count + 1) → (verdict : Verdict) → HoldsFirst file (receiver_next past verdict body r).receiver
  next_holds true body is_block verdict = holds
  next_holds false body is_block verdict = takes_holds body is_block verdict

  -- while it is running, after any block of the file
  running_holds : (n : ℕ) (body : List ℕ) → body ≡ block_of file n → (verdict : Verdict) (next : Bool) → (n == r.count + 1) ≡ next → HoldsFirst file (receiver_running next verdict n body r).receiver
  running_holds n body is_block verdict true is_next =
      next_holds (is_past n body) body (is_block ∙ ap (block_of file) (eqb-true _ _ is_next)) verdict
  running_holds n body is_block verdict false is_next = again_holds (is_last_come n r)

  data_in_holds : (state : RecvState) (n : ℕ) (body : List ℕ) → body ≡ block_of file n → (verdict : Verdict) → HoldsFirst file (receiver_data_in state verdict n body r).receiver
  data_in_holds receiving.Running n body is_block verdict = running_holds n body is_block verdict (n == r.count + 1) refl
  data_in_holds receiving.Complete n body is_block verdict = again_holds (is_last_come n r)
  data_in_holds receiving.TimedOut n body is_block verdict = holds
  data_in_holds receiving.Over n body is_block verdict = holds

  -- a receiver that holds the first r blocks holds the first r + 1 after the next block, and goes on to hold them
  -- after any other
  pub receiver_data-holds : (verdict : Verdict) (n : ℕ) (body : List ℕ) → body ≡ block_of file n → HoldsFirst file (receiver_data verdict n body r).receiver
  receiver_data-holds verdict n body is_block = data_in_holds r.state n body is_block verdict

  -- after a time-out while blocks are missing
  missed_holds : (last : Bool) → HoldsFirst file (receiver_missed last r).receiver
  missed_holds true = holds
  missed_holds false = holds

  -- after a time-out while it dallies
  dallied_holds : (last : Bool) → HoldsFirst file (receiver_dallied last r).receiver
  dallied_holds true = holds
  dallied_holds false = holds

  timeout_in_holds : (state : RecvState) → HoldsFirst file (receiver_timeout_in state r).receiver
  timeout_in_holds receiving.Running = missed_holds (r.misses + 1 == MISSES)
  timeout_in_holds receiving.Complete = dallied_holds (r.misses + 1 == DALLY)
  timeout_in_holds receiving.TimedOut = holds
  timeout_in_holds receiving.Over = holds

  -- after any time-out it still holds the first blocks
  pub receiver_timeout-holds : HoldsFirst file (receiver_timeout r).receiver
  receiver_timeout-holds = timeout_in_holds r.state

  -- ---- complete means having the whole file

  -- a receiver within its bounds has as many bytes as its state says
  held_size : IsReceiver r → HasReceivedSize r.state r.count (first_blocks file r.count)
  held_size fits = subst (λ o. IfSome o (HasReceivedSize r.state r.count)) holds fits.size

  -- whether it has the whole file, by its state
  abbrev IsWhole : RecvState → Type 0
  IsWhole receiving.Running = r.count < block_count file
  IsWhole receiving.Complete = (r.count ≡ block_count file) × (r.file ≡ Some file)
  IsWhole receiving.TimedOut = r.count < block_count file
  IsWhole receiving.Over = (r.count ≡ block_count file) × (r.file ≡ Some file)

  -- full blocks alone are not the whole file
  part : length (first_blocks file r.count) ≡ BLOCK_SIZE * r.count → r.count < block_count file
  part size = omega (arith, length-take (BLOCK_SIZE * r.count) file)

  -- if these are all blocks of its bytes, it has the whole file
  ended : r.count ≡ block_count (first_blocks file r.count) → (r.count ≡ block_count file) × (r.file ≡ Some file)
  ended size =
      let all : length file ≤ BLOCK_SIZE * r.count = omega (arith, length-take (BLOCK_SIZE * r.count) file) in
      let whole : first_blocks file r.count ≡ file = take_all (BLOCK_SIZE * r.count) file all in
      (size ∙ ap block_count whole, holds ∙ ap Some whole)

  -- a receiver that is running has a part, and one that is complete or over has the whole file
  whole_in : (state : RecvState) → HasReceivedSize state r.count (first_blocks file r.count) → IsWhole state
  whole_in receiving.Running size = part size
  whole_in receiving.Complete size = ended size
  whole_in receiving.TimedOut size = part size
  whole_in receiving.Over size = ended size

  -- a complete receiver has the last block and the whole file
  ended_in : (state : RecvState) → IsWhole state → IsEnded state → (r.count ≡ block_count file) × (r.file ≡ Some file)
  ended_in receiving.Running whole e = absurd e
  ended_in receiving.Complete whole e = whole
  ended_in receiving.TimedOut whole e = absurd e
  ended_in receiving.Over whole e = whole

  -- one that counts the last block is complete
  last_in : (state : RecvState) → IsWhole state → r.count ≡ block_count file → IsEnded state
  last_in receiving.Running whole e = absurd (omega (arith, whole))
  last_in receiving.Complete whole e = tt
  last_in receiving.TimedOut whole e = absurd (omega (arith, whole))
  last_in receiving.Over whole e = tt

  -- it is complete or over only with the last block and the whole file
  pub ended-whole : IsReceiver r → IsEnded r.state → (r.count ≡ block_count file) × (r.file ≡ Some file)
  ended-whole fits = ended_in r.state (whole_in r.state (held_size fits))

  -- and it is so once it counts the last block; so it acknowledges that block only then
  pub last-ended : IsReceiver r → r.count ≡ block_count file → IsEnded r.state
  last-ended fits = last_in r.state (whole_in r.state (held_size fits))

-- ---- what a receiver's step leaves

-- a DATA leaves the receiver unchanged, or was the next block
abbrev pub IsSameOrNext : (n : ℕ) → (r next : Receiver) → Type 0
IsSameOrNext n r next = (next ≡ r) ⊎ ((n ≡ r.count + 1) × (next.count ≡ r.count + 1))

-- a repeated block leaves it unchanged
again_same : (n : ℕ) (r : Receiver) (last : Bool) → IsSameOrNext n r (receiver_again last r).receiver
again_same n r true = inl refl
again_same n r false = inl refl

-- the next block is taken, or memory was refused
takes_next : (n : ℕ) (body : List ℕ) (r : Receiver) → n ≡ r.count + 1 → (verdict : Verdict) → IsSameOrNext n r (receiver_takes verdict body r).receiver
takes_next n body r is_next granted = inr (is_next, refl)
takes_next n body r is_next refused = inl refl

-- the same, where the block may be one too many
next_next : (n : ℕ) (body : List ℕ) (r : Receiver) → n ≡ r.count + 1 → (past : Bool) (verdict : Verdict) → IsSameOrNext n r (receiver_next past verdict body r).receiver
next_next n body r is_next true verdict = inl refl
next_next n body r is_next false verdict = takes_next n body r is_next verdict

-- while it is running: only the next block changes it
running_next : (n : ℕ) (body : List ℕ) (r : Receiver) (verdict : Verdict) (next : Bool) → (n == r.count + 1) ≡ next → IsSameOrNext n r (receiver_running next verdict n body r).receiver
running_next n body r verdict true is = next_next n body r (eqb-true _ _ is) (is_past n body) verdict
running_next n body r verdict false is = again_same n r (is_last_come n r)

data_in_next : (state : RecvState) (verdict : Verdict) (n : ℕ) (body : List ℕ) (r : Receiver) → IsSameOrNext n r (receiver_data_in state verdict n body r).receiver
data_in_next receiving.Running verdict n body r = running_next n body r verdict (n == r.count + 1) refl
data_in_next receiving.Complete verdict n body r = again_same n r (is_last_come n r)
data_in_next receiving.TimedOut verdict n body r = inl refl
data_in_next receiving.Over verdict n body r = inl refl

-- a DATA changes a receiver only if it is the next block
pub receiver_data-next : (verdict : Verdict) (n : ℕ) (body : List ℕ) (r : Receiver) → IsSameOrNext n r (receiver_data verdict n body r).receiver
receiver_data-next verdict n body r = data_in_next r.state verdict n body r

-- a time-out changes neither the count nor the file
abbrev pub HasSameBlocks : (r next : Receiver) → Type 0
HasSameBlocks r next = (next.count ≡ r.count) × (next.file ≡ r.file)

-- a time-out while blocks are missing
missed_same : (last : Bool) (r : Receiver) → HasSameBlocks r (receiver_missed last r).receiver
missed_same true r = (refl, refl)
missed_same false r = (refl, refl)

-- a time-out while it dallies
dallied_same : (last : Bool) (r : Receiver) → HasSameBlocks r (receiver_dallied last r).receiver
dallied_same true r = (refl, refl)
dallied_same false r = (refl, refl)

timeout_in_same : (state : RecvState) (r : Receiver) → HasSameBlocks r (receiver_timeout_in state r).receiver
timeout_in_same receiving.Running r = missed_same (r.misses + 1 == MISSES) r
timeout_in_same receiving.Complete r = dallied_same (r.misses + 1 == DALLY) r
timeout_in_same receiving.TimedOut r = (refl, refl)
timeout_in_same receiving.Over r = (refl, refl)

-- no time-out changes what a receiver has
pub receiver_timeout-same : (r : Receiver) → HasSameBlocks r (receiver_timeout r).receiver
receiver_timeout-same r = timeout_in_same r.state r

-- nothing is handed out, or the file of a receiver that has ended, which then has none
abbrev pub GivesOnce : Receiver → TakeAnswer → Type 0
GivesOnce r a =
    ((a.receiver ≡ r) × (a.file ≡ None))
    ⊎ (IsEnded r.state × (a.receiver.count ≡ r.count) × (a.receiver.file ≡ None) × (a.file ≡ r.file))

take_in_gives : (state : RecvState) (r : Receiver) → r.state ≡ state → GivesOnce r (receiver_take_in state r)
take_in_gives receiving.Running r is = inl (refl, refl)
take_in_gives receiving.Complete r is = inr (subst IsEnded (sym is) tt, refl, refl, refl)
take_in_gives receiving.TimedOut r is = inl (refl, refl)
take_in_gives receiving.Over r is = inr (subst IsEnded (sym is) tt, refl, refl, refl)

-- a request for the file hands it out once, and only when it is whole
pub receiver_take-gives : (r : Receiver) → GivesOnce r (receiver_take r)
receiver_take-gives r = take_in_gives r.state r refl
