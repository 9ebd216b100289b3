-- What a sync does at the archives is fetches and puts of archive_mirrors.
use Rattle.std.proofs.Common.{◌≡◌, ℕ, List, [], ◌∷◌, ◌++◌, Option, None, Some, Ok, refl, ap, sym, ◌∙◌, subst, inl, inr}
use Rattle.std.specs.List.{Contains}
use Rattle.std.specs.Map.{lookup}
use Rattle.std.proofs.lemmas.List.{append_cancel_left}
use Rattle.std.proofs.lemmas.List.Elements.{Contains-append_right}
use Rattle.tws_file.specs.declared.«ruleset».Ruleset.{Ruleset}
use Rattle.tws_best.proofs.Members.{Contains-none, Contains-cases}
use Rattle.tftp_packet.specs.declared.endpoint.Endpoint.{Endpoint}
use Rattle.archive_wire.specs.Wire.{Entry}
use Rattle.archive_table.specs.Table.{Taken, is_same, IsMerged}
use Rattle.archive_client.specs.Client.{Client, put}
use Rattle.archive_runs.specs.Run.{Run}
use Rattle.archive_runs.specs.Rounds.{PutsInRounds}
use Rattle.archive_sync.specs.News.{IsPart, Told}
use Rattle.archive_sync.specs.Fetching.{Asked, FetchesText, FetchesNews}
use Rattle.tws_compare.specs.Part.{IsBetterPart}
use Rattle.archive_model.specs.World.{Begun, World, WorldStep, Origin, first_world, RunFrom, last_world, happens, run_from, HasMerged}
use Rattle.archive_model.proofs.Places.{Has-contains, Has-prefix, Has-from_contains}
use Rattle.archive_model.proofs.Growing.{end-extends}
use Rattle.archive_theorem.specs.Headline.{IsOwn, IsFinishedGet, SentOnce}
use Rattle.archive_theorem.specs.Effects.{HasBegunWith, PutsAt, TakesEffect}
use Rattle.archive_theorem.specs.Traces.{trace_steps}
use Rattle.archive_theorem.proofs.Claim_Owns.{one_operation, same_put}
use Rattle.archive_theorem.proofs.Effect_Steps.{puts-at}
use Rattle.archive_theorem.proofs.Trace_Runs.{trace-makes}
use Rattle.archive_running.specs.Archive.{own_endpoint, ArchiveRun}
use Rattle.archive_running.specs.Calls.{Moment, IsReached, world_at}
use Rattle.archive_running.proofs.Run_Moves.{run-mirrors, run-happens, run-merged}
use Rattle.archive_running.proofs.Call_Moves.{put_in_rounds-happens, get_in_rounds-happens}
use Rattle.archive_mirrors.specs.Archives.{Archives, Event, puts_better, MayHappen, AllMayHappen}
use Rattle.archive_mirrors.specs.Archives as archives
use Rattle.archive_mirrors.proofs.Having.{one_better}
use Rattle.mirror_worlds.specs.Worlds.{Fetched, better, JointStep, MayJoin, HasFetched, TakesText, Matches}
use Rattle.mirror_worlds.specs.Syncs.{FetchHappens, PutHappens, HasFinished, WasFetched, TookEffect, HasBoth, PutsExactly, IsCarriedOut, WasPut}
use Rattle.mirror_worlds.proofs.Making.{step-joins, skip-matches}

-- ---- a get

finished_text : (w : World) (rules : Ruleset) (e : Endpoint) (text file : List ℕ) → text ≡ file → Contains w.got (record { client = e; file = file }) →
    (f : IsFinishedGet w.past (record { client = e; file = file })) → f.rules ≡ rules → HasFinished w rules (record { client = e; file = text })
finished_text w rules e text file same among f is =
    subst (λ (x : List ℕ). HasFinished w rules (record { client = e; file = x })) (sym same)
    (record { among = among; finished = f; rules_are = is })

pub was-fetched : (o : Origin) (asked : Asked) (text : List ℕ) (before after : Option (List Entry)) (call : FetchesText o.home asked text before after)
    (h : FetchHappens o asked text call) → WasFetched o h.host asked.rules text call.got.begun h.last
was-fetched o asked text before after call h =
    let happened = get_in_rounds-happens o h.host h.away before call.got.mid call.mid h.first h.last h.reached asked.rules asked.rounds
    (Ok (call.len, call.run)) (Some []) (Some text) call.got.begun call.got.begins call.got.ends h.happens in
    let got = (happened.1 call.len call.run refl).0 in
    let run : ArchiveRun o = record { archive = h.last.archive; members = h.last.members; reaches = happened.0 } in
    let mirrors = run-mirrors o run in
    let e = own_endpoint h.host got.run in
    let there : lookup (is_same e) h.last.archive.clients ≡ Some got.client =
    ap (λ (cs : List (Endpoint × Client)). lookup (is_same e) cs) (sym mirrors.clients) ∙ got.there in
    record {
      reached = happened.0;
      run = got.run;
      has_begun = got.has_begun;
      got = λ own.
          let f = got.finished own in
          finished_text (world_at o h.last) asked.rules e text f.0.file f.0.appends (mirrors.got e got.client f.0.file there f.0.is_got)
          f.0.finished f.1;
    }

-- ---- a put

module _ (o : Origin) (host : ℕ) (part : List ℕ) (r : Run) (last : Moment) (reached : IsReached o last) where
  abbrev whole : ArchiveRun o
  whole = record { archive = last.archive; members = last.members; reaches = reached }

  abbrev e : Endpoint
  e = own_endpoint host r

  abbrev steps : List WorldStep
  steps = trace_steps last.members (first_world o)

  abbrev made : RunFrom o
  made = record { steps = steps; merged = run-merged o whole }

  same_world : last_world made ≡ world_at o last
  same_world = trace-makes last.members (first_world o) (run-happens o whole)

  module _ (own : IsOwn (world_at o last) e) (sent : Contains (world_at o last).sent e) (once : SentOnce (world_at o last).past e) (is : once.file ≡ part) where
    effect : TakesEffect (first_world o) steps e
    effect = puts-at o made e (subst (λ (w : World). IsOwn w e) (sym same_world) own) (subst (λ (w : World). Contains w.sent e) (sym same_world) sent)

    -- it is the file of the one put that began there
    effect_file : (began : HasBegunWith (run_from effect.before (first_world o)) e (put effect.file)) → effect.file ≡ part
    effect_file began =
        let end : run_from (effect.before ++ effect.step ∷ effect.after) (first_world o) ≡ world_at o last =
        ap (λ (xs : List WorldStep). run_from xs (first_world o)) (sym effect.split) ∙ same_world in
        let grows = (end-extends effect.before (effect.step ∷ effect.after) (first_world o)).begun in
        let there = subst (λ (w : World). Contains w.begun began.0) end
        (Has-contains _ _ (Has-prefix _ _ began.0 grows (Has-from_contains _ began.0 began.1))) in
        let one : began.0 ≡ once.began.0 =
        one_operation (world_at o last).past e own began.0 once.began.0 (Has-from_contains (world_at o last).begun began.0 there)
        (Has-from_contains (world_at o last).begun once.began.0 once.began.1) began.2 once.began.2 in
        same_put effect.file once.file (sym began.3 ∙ ap (λ (b : Begun). b.operation) one ∙ once.began.3) ∙ is

    pub took-effect : TookEffect o host part r last
    took-effect =
        record {
          before = effect.before;
          step = effect.step;
          after = effect.after;
          split = effect.split;
          at = subst (λ (x : List ℕ). PutsAt (run_from effect.before (first_world o)) effect.step e x)
              (effect_file effect.at.began) effect.at;
          once = once;
          file_is = is;
        }

-- ---- the events

-- what has happened might happen then
might : (events : List Event) (m : Archives) (event : Event) → AllMayHappen events m → Contains events event → (n : Archives) × MayHappen event n
might [] m event may has = absurd (Contains-none event has)
might (x ∷ events) m event may has =
    let rest = might events (archives.happens x m) event may.1 in
    elim (Contains-cases x events event has) [
      | inl same ↦ (m, subst (λ (y : Event). MayHappen y m) same may.0)
      | inr later ↦ rest later
    ]

module _ (ws : ℕ → World) (events : List Event) (m : Matches ws events) (here : ℕ) (f own : Fetched) (has : HasFetched ws f) (has_own : HasFetched ws own)
    (own_is : own.archive ≡ here) where
  -- the part is one only, so the event puts just this text
  pub puts-exactly : (part : List ℕ) → IsBetterPart f.got.file own.got.file part → (s : WorldStep) → HasMerged s (ws here) → TakesText s (ws here) part →
      PutsExactly here s ws events f own part
  puts-exactly part b s merged takes =
      let j : JointStep = record { archive = here; step = s; kind = better f own } in
      let joins : MayJoin j ws = record {
        merged = merged;
        kind = record { fetched = has; own_fetched = has_own; own_is = own_is; text = part; part = b; takes_it = takes };
      } in
      let done = step-joins ws events j m joins in
      let p = done.puts_it in
      let event = puts_better here p.copy p.own_copy p.text in
      let may = might (events ++ done.more) archives.start event done.matches.may (Contains-append_right events done.more event p.put) in
      let of_files : IsBetterPart f.got.file own.got.file p.text =
      subst (λ (x : List ℕ). IsBetterPart x own.got.file p.text) p.is_copy.text_is
      (subst (λ (y : List ℕ). IsBetterPart p.copy.text y p.text) p.is_own.text_is may.1.better) in
      record {
        more = done.more;
        matches = done.matches;
        copy = p.copy;
        own_copy = p.own_copy;
        is_copy = p.is_copy;
        is_own = p.is_own;
        put = subst (λ (x : List ℕ). Contains done.more (puts_better here p.copy p.own_copy x))
            (one_better f.got.file own.got.file p.text part of_files b) p.put;
      }

  carried : (part : Option (List ℕ)) → IsPart f.got.file own.got.file part → IsCarriedOut here ws events f own part
  carried None none = skip-matches ws events here f own m has has_own own_is none
  carried (Some part) b = λ s merged takes. puts-exactly part b s merged takes

pub carried-out : (ws : ℕ → World) (events : List Event) (here : ℕ) (f own : Fetched) (first second : List ℕ) (part : Option (List ℕ)) → Matches ws events →
    HasBoth ws here f own first second → IsPart first second part → IsCarriedOut here ws events f own part
carried-out ws events here f own first second part m h is =
    carried ws events m here f own h.fetched h.own_fetched h.own_is part
    (subst (λ (x : List ℕ). IsPart x own.got.file part) (sym h.text_is) (subst (λ (y : List ℕ). IsPart first y part) (sym h.own_text_is) is))

last_same : (xs : List Taken) (t u : Taken) → xs ++ t ∷ [] ≡ xs ++ u ∷ [] → t ≡ u
last_same xs t u is = let same : t ∷ [] ≡ u ∷ [] = append_cancel_left xs (t ∷ []) (u ∷ []) is in cc

-- the step that takes it makes the collections after it
merged_with : (w : World) (s : WorldStep) (peer : Endpoint) (part : List ℕ) → PutsAt w s peer part → HasMerged s w
merged_with w s peer part at t is =
    subst (λ (u : Taken). IsMerged u.file w.server.maps (happens s w).server.maps)
    (last_same w.taken (record { peer = peer; file = part }) t (sym at.takes ∙ is)) at.merges

pub was-put : (o : Origin) (from : Endpoint) (asked : Asked) (told : Told) (before mid after : Option (List Entry))
    (news : FetchesNews from o.home asked told before mid) (part : List ℕ) → told.forth ≡ Some part → (len : ℕ)
    (call : PutsInRounds o.home part asked.rounds (Ok len) mid after) (h : PutHappens o part asked.rounds len call) →
    WasPut o h.host part news.first news.second call.begun h.last
was-put o from asked told before mid after news part planned len call h =
    let happened = put_in_rounds-happens o h.host h.away mid call.mid after h.first h.last h.reached part asked.rounds (Ok len) call.begun call.begins
    call.ends h.happens in
    let sent = happened.1 len refl in
    let took : IsOwn (world_at o h.last) (own_endpoint h.host sent.run) → TookEffect o h.host part sent.run h.last =
    λ own. took-effect o h.host part sent.run h.last happened.0 own sent.sent (sent.taken own).0 (sent.taken own).1 in
    let part_is : IsPart news.first news.second (Some part) = subst (IsPart news.first news.second) planned news.is_told.forth_is in
    record {
      reached = happened.0;
      run = sent.run;
      has_begun = sent.has_begun;
      effect = took;
      puts = λ own ws events here f mine m there both.
          let t = took own in
          let w = run_from t.before (first_world o) in
          let at = subst (λ (v : World). PutsAt v t.step (own_endpoint h.host sent.run) part) (sym there) t.at in
          carried-out ws events here f mine news.first news.second (Some part) m both part_is t.step
          (merged_with (ws here) t.step (own_endpoint h.host sent.run) part at) (record { file = record { peer = own_endpoint h.host sent.run; file = part }; is_taken = at.takes; text_is = refl });
    }
