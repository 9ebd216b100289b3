-- A datagram that completes a file: what the server answers if it does not keep it, what its event says, and which
-- collections the file makes.
use Rattle.std.specs.Prelude.{◌≡◌, ◌⊎◌, ◌==◌, ℕ, Bool, true, false, not, List, [], ◌∷◌, ◌++◌, Contains, Option, None, Some, Result, Ok, Err}
use Rattle.std.proofs.Common.{refl, sym, ap, ◌∙◌, subst, inl, inr}
use Rattle.std.proofs.lemmas.Bool.{eqb-true, true≢false}
use Rattle.tftp_packet.specs.declared.endpoint.Endpoint.{Endpoint}
use Rattle.tftp_packet.specs.declared.out.Out.{Out}
use Rattle.tftp_packet.specs.Refusal.{refusal_packet}
use Rattle.tftp_packet.specs.declared.refusal.Refusal.TheVariants.{NotKept}
use Rattle.tftp_ends.specs.declared.recv_fault.RecvFault.{RecvFault}
use Rattle.tftp_ends.specs.Ends.{granted, answer_of, Receiver, receiver_data, receiver_take}
use Rattle.tftp_ends.specs.Input.{Input, nothing, stray, refusal, acked, block}
use Rattle.tws_file.specs.declared.«ruleset».Ruleset.{Ruleset}
use Rattle.tws_file.specs.declared.«ruleset».Ruleset.TheVariants.{Lynx, Ms}
use Rattle.tws_file.specs.Text.{File, IsReadable}
use Rattle.tws_best.specs.Best.{Collected, solutions_of}
use Rattle.tws_best.proofs.Bests.{one_map}
use Rattle.tws_best.proofs.Merges.{same_collected}
use Rattle.archive_table.specs.declared.step_event.StepEvent.{StepEvent}
use Rattle.archive_table.specs.Table.{Table, Maps, Transfer, Taken, Step, TableAnswer, End, sending, receiving, Grant, all, unkept, transfer_input, out_from, file_asked, block_answered, data_at, transfer_by_input, datagram_at, IsFileMerge, MergesIntoOwn, IsMerged}
use Rattle.archive_table.specs.Events.{IsDataEvent, IsInputEvent, IsDatagramEvent, TakesAs}
use Rattle.tws_reader.proofs.Readability.{readable_or_not}
use Rattle.archive_theorem.proofs.Keeper_Runs.{maps-are}
use Rattle.archive_theorem.proofs.Headline_Remains.{ack_leaves}
use Rattle.archive_world.specs.Ending.{improves}
use Rattle.archive_world.proofs.Delivering.{none_some}

-- ---- the answer without a keep

-- If the answer that grants everything takes a file, this one tells its peer that it was not kept.
abbrev Refuses : (port : ℕ) → (taking refusing : TableAnswer) → Type 0
Refuses port taking refusing =
    (t : Taken) → taking.step.taken ≡ Some t → refusing.step.out ≡ Some (out_from port t.peer (refusal_packet NotKept))

none_refuses : (port : ℕ) (taken : Option Taken) (out : Option Out) → taken ≡ None → (t : Taken) → taken ≡ Some t →
    out ≡ Some (out_from port t.peer (refusal_packet NotKept))
none_refuses port taken out none t is = absurd (none_some t (sym none ∙ is))

file_refuses : (file : Option (List ℕ)) (maps other : Maps) (port : ℕ) (peer : Endpoint) (r : Receiver) (out : Option (List ℕ)) (s : Table) →
    Refuses port (file_asked file all maps port peer r out s) (file_asked file unkept other port peer r out s)
file_refuses (Some file) maps other port peer r out s = λ t is.
    let whole : Taken = record { peer = peer; file = file } in
    let same : whole ≡ t = cc in
    ap (λ (x : Taken). Some (out_from port x.peer (refusal_packet NotKept))) same
file_refuses None maps other port peer r out s = none_refuses port _ _ refl

block_refuses : (result : Result (Option (List ℕ)) RecvFault) (maps other : Maps) (port : ℕ) (peer : Endpoint) (r : Receiver) (s : Table) →
    Refuses port (block_answered result all maps port peer r s) (block_answered result unkept other port peer r s)
block_refuses (Ok out) maps other port peer r s =
    file_refuses (receiver_take r).file maps other port peer (receiver_take r).receiver out s
block_refuses (Err e) maps other port peer r s = none_refuses port _ _ refl

data_refuses : (end : End) (maps other : Maps) (port : ℕ) (peer : Endpoint) (n : ℕ) (body : List ℕ) (s : Table) →
    Refuses port (data_at end all maps port peer n body s) (data_at end unkept other port peer n body s)
data_refuses (sending e) maps other port peer n body s = none_refuses port _ _ refl
data_refuses (receiving r) maps other port peer n body s =
    let a = receiver_data granted n body r in
    block_refuses (answer_of a.result) maps other port peer a.receiver s

input_refuses : (input : Input) (maps other : Maps) (port : ℕ) (from : Endpoint) (t : Transfer) (s : Table) →
    Refuses port (transfer_by_input input all maps port from t s) (transfer_by_input input unkept other port from t s)
input_refuses nothing maps other port from t s = none_refuses port _ _ refl
input_refuses stray maps other port from t s = none_refuses port _ _ refl
input_refuses (refusal code) maps other port from t s = none_refuses port _ _ refl
input_refuses (acked n) maps other port from t s = none_refuses port _ _ (ack_leaves t.end port t.peer n s).0
input_refuses (block n body) maps other port from t s = data_refuses t.end maps other port t.peer n body s

-- where a file is taken if everything is granted, its peer is told if it is not kept
pub found_refuses : (found : Option Transfer) (maps other : Maps) (port : ℕ) (from : Endpoint) (bytes : List ℕ) (s : Table) →
    Refuses port (datagram_at found all maps port from bytes s) (datagram_at found unkept other port from bytes s)
found_refuses (Some t) maps other port from bytes s = input_refuses (transfer_input t.peer from bytes) maps other port from t s
found_refuses None maps other port from bytes s = none_refuses port _ _ refl

-- ---- what a step that takes a file did

module _ (grant : Grant) (maps : Maps) (port : ℕ) (from : Endpoint) (s : Table) (old new : Maps) (step : Step) (event : StepEvent)
    (t : Taken) (is : step.taken ≡ Some t) where
  -- it takes a file, so not by this answer
  other : (a : TableAnswer) → step ≡ a.step → a.step.taken ≡ None → TakesAs t.file old new event
  other a step_is none = absurd (none_some t (sym (ap (λ (x : Step). x.taken) step_is ∙ none) ∙ is))

  input_takes : (input : Input) (at : Transfer) → step ≡ (transfer_by_input input grant maps port from at s).step →
      IsInputEvent input at.end old new step event → TakesAs t.file old new event
  input_takes nothing at step_is did = other (transfer_by_input nothing grant maps port from at s) step_is refl
  input_takes stray at step_is did = other (transfer_by_input stray grant maps port from at s) step_is refl
  input_takes (refusal code) at step_is did = other (transfer_by_input (refusal code) grant maps port from at s) step_is refl
  input_takes (acked n) at step_is did =
      other (transfer_by_input (acked n) grant maps port from at s) step_is (ack_leaves at.end port at.peer n s).0
  input_takes (block n body) at step_is did =
      subst (λ (o : Option Taken). IsDataEvent o step.closed at.end old new step.out event) is did

  -- its event says whether a collection changed
  pub event_takes : (bytes : List ℕ) (found : Option Transfer) → step ≡ (datagram_at found grant maps port from bytes s).step →
      IsDatagramEvent found from bytes old new step event → TakesAs t.file old new event
  event_takes bytes (Some at) step_is did = input_takes (transfer_input at.peer from bytes) at step_is did
  event_takes bytes None step_is did = other (datagram_at None grant maps port from bytes s) step_is refl

not_false : (b : Bool) → not b ≡ false → b ≡ true
not_false true is = refl
not_false false is = absurd cc

module _ (file : List ℕ) (old new : Maps) (event : StepEvent) (took : TakesAs file old new event) where
  -- it did
  pub improved : improves event ≡ true → new ≡ old → ⊥
  improved better same =
      true≢false (sym better ∙ ap improves took.is ∙ ap (λ (n : ℕ). not (n == 0)) (took.better.1 same))

  -- it did not
  pub unimproved : improves event ≡ false → new ≡ old
  unimproved none = took.better.0 (eqb-true took.merged.better 0 (not_false (took.merged.better == 0) (sym (ap improves took.is) ∙ none)))

-- ---- the collections that a file makes

one_collected : (file : File) (old a b : Collected) → IsFileMerge file old a → IsFileMerge file old b → a ≡ b
one_collected file old a b first second =
    same_collected a b (first.rules ∙ sym second.rules)
    (one_map (Contains (old.entries ++ solutions_of old.«ruleset» (file ∷ []))) a.entries b.entries first.best second.best)

pub both_maps : (a b : Maps) → a.lynx ≡ b.lynx → a.ms ≡ b.ms → a ≡ b
both_maps a b lynx ms = maps-are b.lynx b.ms a (sym lynx) (sym ms)

one_own : (rules : Ruleset) (file : File) (old a b : Maps) → MergesIntoOwn rules file old a → MergesIntoOwn rules file old b → a ≡ b
one_own Lynx file old a b first second = both_maps a b (one_collected file old.lynx a.lynx b.lynx first.0 second.0) (first.1 ∙ sym second.1)
one_own Ms file old a b first second = both_maps a b (first.1 ∙ sym second.1) (one_collected file old.ms a.ms b.ms first.0 second.0)

one_by : (bytes : List ℕ) (old a b : Maps) → IsMerged bytes old a → IsMerged bytes old b → IsReadable bytes ⊎ (IsReadable bytes → ⊥) → a ≡ b
one_by bytes old a b first second (inl readable) =
    one_own readable.0.«ruleset» readable.0 old a b (first.readable readable.0 readable.1) (second.readable readable.0 readable.1)
one_by bytes old a b first second (inr never) =
    first.unreadable (λ file is. never (file, is)) ∙ sym (second.unreadable (λ file is. never (file, is)))

-- they are unique
pub one_merged : (bytes : List ℕ) (old a b : Maps) → IsMerged bytes old a → IsMerged bytes old b → a ≡ b
one_merged bytes old a b first second = one_by bytes old a b first second (readable_or_not bytes)
