-- What a file that was read does to the collections, and what a keeper was given.
use Rattle.std.specs.Prelude.{◌≡◌, ◌≢◌, ℕ, Bool, true, false, List, [], Option, None, Some}
use Rattle.std.proofs.Common.{refl, sym, ap, ◌∙◌, inl, inr, subst}
use Rattle.std.proofs.lemmas.List.{append-nil}
use Rattle.tws_best.specs.Best.{Collected}
use Rattle.tftp_packet.specs.declared.endpoint.Endpoint.{Endpoint}
use Rattle.tftp_packet.specs.declared.refusal.Refusal.{Refusal}
use Rattle.tftp_packet.specs.declared.refusal.Refusal.TheVariants.{NotKept, UnknownTransfer}
use Rattle.tftp_packet.specs.Packet.{encode}
use Rattle.archive_table.specs.Table.{Maps, Taken, Grant, all, no_memory, unkept, dgram_grant, refusal_dgram}
use Rattle.tftp_ends.specs.Ends.{refusal_of}
use Rattle.archive_table.specs.Keeper.{Keeping, KeeperGrows, RefusesFile, StepKeeps}
use Rattle.archive_table.proofs.Replies.{memory_grant, past_grant}
use Rattle.std.proofs.lemmas.Bool.{true≢false}
use Rattle.tftp_ends.specs.declared.recv_fault.RecvFault.{RecvFault}
use Rattle.tftp_ends.specs.declared.recv_fault.RecvFault.TheVariants as recv

-- the collections of both rulesets
abbrev pub both : Collected → Collected → Maps
both lynx ms = record { lynx = lynx; ms = ms }

-- ---- the step

-- the ERROR for a failed keep is read back as that
pub unkept_grant : dgram_grant (refusal_dgram NotKept) ≡ unkept
unfolding encode
unkept_grant = refl

-- a refusal that is not read back as that of a keep is another one
pub other_refusal : (why : Refusal) (grant : Grant) → grant ≡ dgram_grant (refusal_dgram why) → grant ≢ unkept → why ≢ NotKept
other_refusal why grant is other not = other (is ∙ (ap (λ w. dgram_grant (refusal_dgram w)) not ∙ unkept_grant))

-- a refused file: what the keeper was given goes with the ERROR that is sent
pub refused_keeps : (why : Refusal) (peer : Endpoint) (bytes : List ℕ) (old new : Maps) (before after : Option (List Keeping)) →
    RefusesFile why bytes old before after →
    StepKeeps (dgram_grant (refusal_dgram why)) (Some (record { peer = peer; file = bytes })) old new before after
refused_keeps why peer bytes old new before after (inl (is, grows)) =
    subst (λ (g : Grant). StepKeeps g (Some (record { peer = peer; file = bytes })) old new before after) (sym (ap (λ w. dgram_grant (refusal_dgram w)) is ∙ memory_grant)) grows
refused_keeps why peer bytes old new before after (inr (is, h)) =
    subst (λ (g : Grant). StepKeeps g (Some (record { peer = peer; file = bytes })) old new before after) (sym (ap (λ w. dgram_grant (refusal_dgram w)) is ∙ unkept_grant)) h

-- a list that stays grew by nothing
grows_not : (log : Option (List Keeping)) → KeeperGrows log log []
grows_not None = refl
grows_not (Some ks) = sym (append-nil ks)

-- a step that changes no collection gives the keeper nothing
pub keeps_nothing : (grant : Grant) (wanted : Option Taken) (maps : Maps) (log : Option (List Keeping)) → grant ≢ unkept → StepKeeps grant wanted maps maps log log
keeps_nothing all wanted maps log other = inl (refl, inl (refl, grows_not log))
keeps_nothing no_memory wanted maps log other = grows_not log
keeps_nothing unkept wanted maps log other = absurd (other refl)

-- ---- the invariant

-- ---- when nothing is to be kept

-- everything was granted
abbrev is_all : Grant → Bool
is_all all = true
is_all no_memory = false
is_all unkept = false

-- memory was refused
abbrev is_memory : Grant → Bool
is_memory all = false
is_memory no_memory = true
is_memory unkept = false

-- if everything is granted, no keep has failed
all_is : all ≢ unkept
all_is e = true≢false (ap is_all e)

-- a step that changes neither the collections nor the log, unless a keep failed
pub keeps_same : (grant : Grant) (wanted : Option Taken) (old new : Maps) (before after : Option (List Keeping)) →
    grant ≢ unkept → new ≡ old → after ≡ before → StepKeeps grant wanted old new before after
keeps_same grant wanted old new before after other maps log =
    subst (λ m. StepKeeps grant wanted old m before after) (sym maps) (subst (λ l. StepKeeps grant wanted old old before l) (sym log) (keeps_nothing grant wanted old before other))

-- a step that changes neither the collections nor the log, if everything was granted
pub keeps_all : (grant : Grant) (wanted : Option Taken) (old new : Maps) (before after : Option (List Keeping)) → grant ≡ all → new ≡ old → after ≡ before → StepKeeps grant wanted old new before after
keeps_all grant wanted old new before after is = keeps_same grant wanted old new before after (λ e. all_is (sym is ∙ e))

-- the reply to a refused block is not the refusal of a keep
pub fault_grant : (fault : RecvFault) → dgram_grant (refusal_dgram (refusal_of fault)) ≢ unkept
fault_grant recv.Memory e = true≢false (ap is_memory (sym memory_grant ∙ e))
fault_grant recv.TooLong e = all_is (sym past_grant ∙ e)

-- the ERROR for an unknown transfer is no refusal of memory or of a keep
pub stray_grant : dgram_grant (refusal_dgram UnknownTransfer) ≡ all
unfolding encode
stray_grant = refl
