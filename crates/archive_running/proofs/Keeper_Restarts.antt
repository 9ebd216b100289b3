-- After each move of the server the keeper has what is loaded as the server's collections, so a restart loads these.
use Rattle.std.proofs.Common.{◌≡◌, ◌⊎◌, ℕ, Bool, true, false, List, [], ◌∷◌, fold, Option, None, Some, refl, ap, sym, ◌∙◌, subst, inl, inr, ⊎_elim}
use Rattle.tftp_packet.specs.declared.endpoint.Endpoint.{Endpoint}
use Rattle.tftp_packet.specs.Decode.{decode_bytes}
use Rattle.tftp_ends.specs.Ends.{Verdict}
use Rattle.tws_file.specs.declared.«ruleset».Ruleset.TheVariants.{Lynx, Ms}
use Rattle.tws_best.specs.Best.{Collected, IsCollected}
use Rattle.archive_table.specs.Table.{Table, Maps, Taken, IsMerged, TableAnswer, Grant, all, no_memory, unkept, transfer_at, table_datagram}
use Rattle.archive_table.specs.Keeper.{Keeping, IsLoaded, KeepsOne, KeepsMaps, FailsKeepOf, StepKeeps}
use Rattle.archive_server.specs.Turn.{Answers, Asks, is_usable, request_used, request_spared, request_admitted, request_received, received_asks, transfer_received, KeepsAsked, Walk, walk_on, next_visit, next_asks, IsTurnIn}
use Rattle.archive_wire.specs.Wire.{Replies, Receipt, datagram, nothing, fault, Entry}
use Rattle.archive_server.specs.Timers.{timers_after, restart}
use Rattle.archive_server.specs.declared.mode.Mode.{Mode}
use Rattle.archive_server.specs.declared.next.Next.{Next}
use Rattle.archive_server.specs.declared.next.Next.TheVariants as next
use Rattle.archive_server.specs.declared.timer.Timer.{Timer}
use Rattle.archive_model.specs.Restarts.{AreAlike, LoadsAs, HaveOwnRuleset}
use Rattle.archive_theorem.proofs.Keeper_Loads.{step-loads_as, loads-as}
use Rattle.archive_theorem.proofs.Headline_Remains.{decoded_leaves, timeout_leaves, found_takes}
use Rattle.archive_running.specs.Archive.{LoadsKept, LoadsWith}

-- what a keeper with a log has is loaded as these collections
abbrev pub KeptIn : Option (List Keeping) → Maps → Type 0
KeptIn None maps = Unit {0}
KeptIn (Some log) maps = LoadsAs log maps

-- collections that can be written as texts, each of its own ruleset
pub record HaveTexts (maps : Maps) : Type 0 where
  pub rules : HaveOwnRuleset maps
  pub lynx : IsCollected maps.lynx
  pub ms : IsCollected maps.ms

-- ---- a keeper without a log before has none afterwards

-- a keeper without a log has none after a step that keeps a collection
one_unreported : (old new : Collected) (now : List Keeping) → KeepsOne old new None (Some now) → ⊥
one_unreported old new now (inl same) = same.1
one_unreported old new now (inr other) = other.1

-- nor after one that keeps either collection
maps_unreported : (old new : Maps) (now : List Keeping) → KeepsMaps old new None (Some now) → ⊥
maps_unreported old new now (inl lynx) = one_unreported old.lynx new.lynx now lynx.1
maps_unreported old new now (inr ms) = one_unreported old.ms new.ms now ms.1

neither : ⊥ ⊎ ⊥ → ⊥
neither (inl first) = first
neither (inr second) = second

-- a keeper without a log has none after a keep that failed
fails_unreported : (old new : Maps) (now : List Keeping) → FailsKeepOf old new None (Some now) → ⊥
fails_unreported old new now (inl lynx) = neither lynx.2
fails_unreported old new now (inr ms) = neither ms.2

-- so a keeper without a log has none after any step
step_unreported : (grant : Grant) (wanted : Option Taken) (old new : Maps) (now : List Keeping) →
    StepKeeps grant wanted old new None (Some now) → ⊥
step_unreported all wanted old new now keeps = maps_unreported old new now keeps
step_unreported no_memory wanted old new now keeps = keeps
step_unreported unkept wanted old new now keeps = fails_unreported old keeps.0 now keeps.2

-- ---- a step

-- everything was granted, or the collections did not change
abbrev pub IsFine : Option Asks → (old new : Maps) → Type 0
IsFine (Some a) old new = (a.grant ≡ all) ⊎ (new ≡ old)
IsFine None old new = new ≡ old

-- after such a step the keeper has what the server has
pub asked-kept : (asks : Option Asks) (old new : Maps) (kept now : Option (List Keeping)) → KeepsAsked asks old new kept now →
    IsFine asks old new → HaveTexts new → KeptIn kept old → KeptIn now new
asked-kept None old new kept now keeps same texts has =
    subst (λ (o : Option (List Keeping)). KeptIn o new) (sym keeps) (subst (KeptIn kept) (sym same) has)
asked-kept (Some a) old new kept None keeps fine texts has = tt
asked-kept (Some a) old new (Some before) (Some after) keeps fine texts has =
    step-loads_as a.grant a.wanted old new before after keeps fine texts.rules texts.lynx texts.ms has
asked-kept (Some a) old new None (Some after) keeps fine texts has =
    absurd (step_unreported a.grant a.wanted old new after keeps)

-- ---- a visit

module _ (s : Table) where
  -- a datagram at a port: everything was granted, or the collections stay
  datagram_fine : (grant : Grant) (maps : Maps) (port : ℕ) (from : Endpoint) (bytes : List ℕ) →
      (grant ≡ all) ⊎ ((table_datagram grant maps port from bytes s).server.maps ≡ s.maps)
  datagram_fine grant maps port from bytes =
      ⊎_elim
      (λ leaves. inr (ap (λ (a : TableAnswer). a.server.maps) (leaves.2 maps) ∙ leaves.1.1))
      (λ takes. inl takes.2)
      (found_takes (transfer_at port s) grant port from bytes s)

  -- the same for a visit to a transfer's port
  received_fine : (receipt : Receipt) (answers : Answers) (port : ℕ) →
      IsFine (received_asks receipt answers.grant port s) s.maps (transfer_received receipt answers port s).server.maps
  received_fine (datagram from bytes) answers port = datagram_fine answers.grant answers.maps port from bytes
  received_fine nothing answers port = refl
  received_fine fault answers port = refl

  -- a request changes no collection
  used_maps : (usable : Bool) (spare : ℕ) (verdict : Verdict) (replies : Replies) (from : Endpoint) (bytes : List ℕ) →
      (request_used usable spare verdict replies from bytes s).server.maps ≡ s.maps
  used_maps true spare verdict replies from bytes = (decoded_leaves verdict spare from (decode_bytes bytes) s).1
  used_maps false spare verdict replies from bytes = refl

  spared_maps : (spare : Option ℕ) (verdict : Verdict) (replies : Replies) (from : Endpoint) (bytes : List ℕ) →
      (request_spared spare verdict replies from bytes s).server.maps ≡ s.maps
  spared_maps (Some spare) verdict replies from bytes = used_maps (is_usable spare s) spare verdict replies from bytes
  spared_maps None verdict replies from bytes = refl

  admitted_maps : (admitted : Bool) (answers : Answers) (from : Endpoint) (bytes : List ℕ) →
      (request_admitted admitted answers from bytes s).server.maps ≡ s.maps
  admitted_maps true answers from bytes = spared_maps answers.spare answers.verdict answers.replies from bytes
  admitted_maps false answers from bytes = refl

  -- a visit to the request port changes no collection
  request_maps : (receipt : Receipt) (answers : Answers) → (request_received receipt answers s).server.maps ≡ s.maps
  request_maps (datagram from bytes) answers = admitted_maps answers.admitted answers from bytes
  request_maps nothing answers = refl
  request_maps fault answers = refl

  -- any visit
  visit_fine : (n : Next) (answers : Answers) → IsFine (next_asks n answers s) s.maps (next_visit n answers s).server.maps
  visit_fine next.Request answers = request_maps answers.receipt answers
  visit_fine (next.Transfer port) answers = received_fine answers.receipt answers port
  visit_fine next.Nowhere answers = refl

-- ---- time-outs

-- no time-out changes a collection
walk_maps : (late : List (ℕ × Replies)) (due : ℕ) (k : Walk) → (fold (walk_on due) k late).server.maps ≡ k.server.maps
walk_maps [] due k = refl
walk_maps (e ∷ late) due k =
    walk_maps late due (walk_on due k e) ∙ (timeout_leaves (transfer_at e.0 k.server) e.0 k.server).1

-- ---- a turn or a round

-- by what the visit and the time-outs do to the collections
ends_kept : (asks : Option Asks) (old mid new : Maps) (kept now : Option (List Keeping)) → KeepsAsked asks old mid kept now →
    IsFine asks old mid → new ≡ mid → HaveTexts new → KeptIn kept old → KeptIn now new
ends_kept asks old mid new kept now keeps fine is texts has =
    subst (KeptIn now) (sym is) (asked-kept asks old mid kept now keeps fine (subst HaveTexts is texts) has)

-- after a turn or a round the keeper has what the server has
pub turn-kept : (mode : Mode) (n : Next) (old new : Table) (timers left : List Timer) (took : Bool) (calls : List Entry)
    (kept now : Option (List Keeping)) → IsTurnIn mode n old new timers left took calls kept now → HaveTexts new.maps → KeptIn kept old.maps →
    KeptIn now new.maps
turn-kept mode n old new timers left took calls kept now p texts has =
    let v = next_visit n p.answers old in
    ends_kept (next_asks n p.answers old) old.maps v.server.maps new.maps kept now p.keeps
    (visit_fine old n p.answers)
    (ap (λ (s : Table). s.maps) p.table ∙ walk_maps p.late (restart mode)
    (record { server = v.server; timers = timers_after mode v.change timers; calls = [] }))
    texts has

-- ---- a restart

both_are : (a b : Maps) → a.lynx ≡ b.lynx → a.ms ≡ b.ms → a ≡ b
both_are a b lynx ms =
    let make : Collected → Collected → Maps = λ x y. record { lynx = x; ms = y } in
    let whole : make a.lynx a.ms ≡ make b.lynx b.ms = cc in
    whole

-- a keeper that has the same is loaded as the same
pub alike-kept : (before now : List Keeping) (maps : Maps) → AreAlike before now → LoadsAs before maps → LoadsAs now maps
alike-kept before now maps alike loads =
    record {
      lynx = subst (λ (text : Option (List ℕ)). IsLoaded Lynx text maps.lynx) (sym (alike Lynx)) loads.lynx;
      ms = subst (λ (text : Option (List ℕ)). IsLoaded Ms text maps.ms) (sym (alike Ms)) loads.ms;
    }

-- what is loaded is what the server had, and the keeper has it
pub restart-same : (before now : Option (List Keeping)) (old new : Maps) → LoadsKept before now old new → KeptIn before old →
    (new ≡ old) × KeptIn now old
restart-same None now old new loads has =
    (loads.1, subst (λ (o : Option (List Keeping)). KeptIn o old) (sym loads.0) tt)
restart-same (Some log) None old new loads has = absurd loads
restart-same (Some log) (Some reported) old new loads has =
    let kept = alike-kept log reported old loads.0 has in
    let same = loads-as reported old kept new.lynx new.ms loads.1 loads.2 in
    (both_are new old same.0 same.1, kept)

-- where a keep had its effect though the server could not know it, what is loaded has the file
pub restart-with : (file : List ℕ) (before now : Option (List Keeping)) (old new : Maps) → LoadsWith file before now old new → KeptIn before old →
    ((maps : Maps) → IsMerged file old maps → HaveTexts maps) → IsMerged file old new × KeptIn now new
restart-with file None now old new loads has texts = (loads.1, subst (λ (o : Option (List Keeping)). KeptIn o new) (sym loads.0) tt)
restart-with file (Some log) None old new loads has texts = absurd loads
restart-with file (Some log) (Some reported) old new (maps, mid, merged, keeps, alike, from_lynx, from_ms) has texts =
    let t = texts maps merged in
    let mid_has = step-loads_as all None old maps log mid keeps (inl refl) t.rules t.lynx t.ms has in
    let kept = alike-kept mid reported maps alike mid_has in
    let same = loads-as reported maps kept new.lynx new.ms from_lynx from_ms in
    let is : new ≡ maps = both_are new maps same.0 same.1 in
    (subst (IsMerged file old) (sym is) merged, subst (LoadsAs reported) (sym is) kept)
