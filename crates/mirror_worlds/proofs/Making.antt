-- The worlds of several archives make events of archives.
use Rattle.std.proofs.Common.{◌≡◌, ◌↔◌, ℕ, ◌==◌, length, Bool, true, false, List, [], ◌∷◌, ◌++◌, map, take, if◌then◌else◌, refl, ap, sym, ◌∙◌, subst, inl, inr, arith, append-nil, append_assoc}
use Rattle.std.specs.List.{Contains}
use Rattle.std.proofs.lemmas.Bool.{eqb-true}
use Rattle.std.proofs.lemmas.List.{map-append, take_all}
use Rattle.std.proofs.lemmas.List.Elements.{Contains-append_left, Contains-append_right, Contains-push, Contains-push_cases}
use Rattle.tws_file.specs.declared.«ruleset».Ruleset.{Ruleset}
use Rattle.tws_file.specs.declared.«ruleset».Ruleset.TheVariants.{Lynx, Ms}
use Rattle.tws_best.specs.Best.{IsCollectionOf, collection_text, solutions_of, IsBestOver}
use Rattle.tws_best.proofs.Members.{Contains-none, Contains-here, Contains-there, Contains-cases}
use Rattle.archive_table.specs.Table.{Taken, map_of}
use Rattle.tftp_packet.specs.declared.endpoint.Endpoint.{Endpoint}
use Rattle.archive_client.specs.Client.{put}
use Rattle.archive_theorem.specs.Effects.{HasBegunWith}
use Rattle.archive_mirrors.specs.Reaching.{Reaches, HoldsText, AllReach, OnlyAt}
use Rattle.archive_mirrors.proofs.Covering.{holds_then}
use Rattle.archive_model.specs.World.{Opening, World, WorldStep, Origin, first_world, empty_origin, RunFrom, last_world, IsPrefix, happens, HasMerged}
use Rattle.archive_model.proofs.Growing.{step-adds}
use Rattle.archive_model.proofs.Places.{Has-contains, IsPrefix-push, IsPrefix-same, take-prefix, length-prefix}
use Rattle.archive_theorem.specs.Headline.{IsOwn, ClientsHeadline, IsFinishedGet, files_of}
use Rattle.archive_theorem.proofs.Claim_Invariant.{AreBest, given_files}
use Rattle.archive_theorem.proofs.Headline_Collections.{last-best}
use Rattle.archive_theorem.proofs.Headline_Clients.{run-clients}
use Rattle.archive_theorem.proofs.Event_Happens.{run-append}
use Rattle.archive_theorem.proofs.Trace_Runs.{merged_append}
use Rattle.tws_compare.specs.Part.{IsBetterPart, HasNothingBetter}
use Rattle.archive_mirrors.specs.Archives.{Archives, Copy, Event, takes, fetches, puts, puts_better, skips, of_ruleset, at_archive, copy_of, with_text, MayHappen, AllMayHappen, run, outside_of}
use Rattle.archive_mirrors.specs.Archives as archives
use Rattle.archive_mirrors.proofs.Moving as moving
use Rattle.archive_mirrors.proofs.Concluding.{sources-best, alike, one_text, holds-solution, collection-lasts, all-best}
use Rattle.mirror_worlds.specs.Worlds.{Fetched, Kind, plain, whole, better, JointStep, after_step, HasFetched, MayJoin, IsOfKind, IsRun, HasCopy, OpenedCopy, Matches, IsCopyOf, PutsKind, Joins, Skips, with_origin, takes_all}

-- ---- archives

may-append : (first second : List Event) (m : Archives) → AllMayHappen first m → AllMayHappen second (archives.run_from first m) →
    AllMayHappen (first ++ second) m
may-append [] second m may more = more
may-append (e ∷ first) second m may more = (may.0, may-append first second (archives.happens e m) may.1 more)

step-keeps_copies : (e : Event) (m : Archives) (copy : Copy) → Contains m.copies copy → Contains (archives.happens e m).copies copy
step-keeps_copies (takes archive text) m copy has = has
step-keeps_copies (fetches archive rules text) m copy has = Contains-append_left m.copies (copy_of m archive rules text ∷ []) copy has
step-keeps_copies (puts archive one) m copy has = has
step-keeps_copies (puts_better archive one own text) m copy has = has
step-keeps_copies (archives.skips archive one own) m copy has = has
step-keeps_copies (archives.restarts archive) m copy has = has

run-keeps_copies : (events : List Event) (m : Archives) (copy : Copy) → Contains m.copies copy →
    Contains (archives.run_from events m).copies copy
run-keeps_copies [] m copy has = has
run-keeps_copies (e ∷ events) m copy has = run-keeps_copies events (archives.happens e m) copy (step-keeps_copies e m copy has)

copy_on : (old new : Archives) (archive : ℕ) (rules : Ruleset) (texts : List (List ℕ)) →
    ((copy : Copy) → Contains old.copies copy → Contains new.copies copy) →
    HasCopy old archive rules texts → HasCopy new archive rules texts
copy_on old new archive rules texts keeps c = record { copy = c.copy; fetched = keeps c.copy c.fetched; archive_is = c.archive_is; rules_are = c.rules_are; best = c.best }

opened_on : (old new : Archives) (archive : ℕ) (w : World) (o : Opening) →
    ((copy : Copy) → Contains old.copies copy → Contains new.copies copy) →
    OpenedCopy old archive w o → OpenedCopy new archive w o
opened_on old new archive w o keeps c = record { counted = c.counted; copies = λ rules. copy_on old new archive rules (files_of (take o.taken w.taken)) keeps (c.copies rules) }

-- ---- one world

-- at the start there is nothing
pub start-matches : (homes : ℕ → Endpoint) → Matches (λ archive. first_world (empty_origin (homes archive))) []
start-matches homes = record {
  may = tt;
  runs = λ here. record { origin = empty_origin (homes here); run = record { steps = []; merged = tt }; is = refl };
  taken = λ here. refl;
  opened = λ here o has. absurd (Contains-none o has);
}

-- a run has one more step
run-step : (w : World) (s : WorldStep) → IsRun w → HasMerged s w → IsRun (happens s w)
run-step w s r merged =
    let first = first_world r.origin in
    let steps = r.run.steps in
    record {
      origin = r.origin;
      run = record {
        steps = steps ++ s ∷ [];
        merged = merged_append steps (s ∷ []) first r.run.merged (subst (λ (v : World). HasMerged s v) r.is merged, tt);
      };
      is = ap (happens s) r.is ∙ sym (run-append steps (s ∷ []) first);
    }

-- its collections are the best over the files taken
run-best : (w : World) → IsRun w → AreBest w.taken w.server.maps
run-best w r = subst (λ (v : World). AreBest v.taken v.server.maps) (sym r.is) (last-best r.origin r.run)

best_of_map : (rules : Ruleset) (w : World) → IsRun w → IsCollectionOf rules (files_of w.taken) (map_of rules w.server.maps)
best_of_map Lynx w r = (run-best w r).lynx
best_of_map Ms w r = (run-best w r).ms

-- and its clients have the headline
run-headline : (w : World) (r : IsRun w) → ClientsHeadline r.origin w
run-headline w r = subst (ClientsHeadline r.origin) (sym r.is) (run-clients r.origin r.run)

-- ---- what was fetched is a copy

module _ (ws : ℕ → World) (events : List Event) (m : Matches ws events) where
  finished : (f : Fetched) → HasFetched ws f → IsFinishedGet (ws f.archive).past f.got
  finished f has =
      let h = run-headline (ws f.archive) (m.runs f.archive) in
      (h.client f.got.client (h.got f.got has.among) has.own).got f.got has.among refl

  pub copied : (f : Fetched) → HasFetched ws f → (copy : Copy) × IsCopyOf (run events) f copy
  copied f has =
      let g = finished f has in
      let c = (m.opened f.archive g.opening g.was_opened).copies g.rules in (
        c.copy,
        record {
          fetched = c.fetched;
          archive_is = c.archive_is;
          text_is = one_text g.rules (files_of (take g.opening.taken (ws f.archive).taken)) c.copy.text f.got.file c.best g.best;
        },
      )

  -- ---- the servers

  collection_is : (rules : Ruleset) (here : ℕ) → IsCollectionOf rules ((run events).taken here) (map_of rules (ws here).server.maps)
  collection_is rules here = subst (λ (xs : List (List ℕ)). IsCollectionOf rules xs (map_of rules (ws here).server.maps)) (sym (m.taken here)) (best_of_map rules (ws here) (m.runs here))

  pub server : (rules : Ruleset) (here : ℕ) → IsCollectionOf rules ((run events).sources rules here) (map_of rules (ws here).server.maps)
  server rules here = (sources-best events m.may rules here (map_of rules (ws here).server.maps)).0 (collection_is rules here)

  pub same_texts : (rules : Ruleset) (here there : ℕ) →
      ((t : List ℕ) → Contains ((run events).sources rules here) t ↔ Contains ((run events).sources rules there) t) →
      collection_text (map_of rules (ws here).server.maps) ≡ collection_text (map_of rules (ws there).server.maps)
  same_texts rules here there same =
      alike events events m.may m.may rules here there same _ _ (map_of rules (ws here).server.maps, collection_is rules here, refl)
      (map_of rules (ws there).server.maps, collection_is rules there, refl)

  -- ---- nothing to put

  pub skipped : (archive : ℕ) (f own : Fetched) → HasFetched ws f → HasFetched ws own → own.archive ≡ archive →
      HasNothingBetter f.got.file own.got.file → Skips archive ws events f own
  skipped archive f own has has_own own_is none =
      let c = copied f has in
      let o = copied own has_own in
      let e = skips archive c.0 o.0 in
      let may : MayHappen e (run events) = record {
        fetched = c.1.fetched;
        own_fetched = o.1.fetched;
        own_is = o.1.archive_is ∙ own_is;
        nothing = subst (λ (x : List ℕ). HasNothingBetter x o.0.text) (sym c.1.text_is)
            (subst (λ (y : List ℕ). HasNothingBetter f.got.file y) (sym o.1.text_is) none);
      } in
      let whole = moving.run-append events (e ∷ []) archives.start in
      record {
        copy = c.0;
        own_copy = o.0;
        is_copy = c.1;
        is_own = o.1;
        matches = record {
          may = may-append events (e ∷ []) archives.start m.may (may, tt);
          runs = m.runs;
          taken = λ here. ap (λ (v : Archives). v.taken here) whole ∙ m.taken here;
          opened = λ here p among. subst (λ (v : Archives). OpenedCopy v here (ws here) p) (sym whole)
              (opened_on (run events) (archives.happens e (run events)) here (ws here) p (λ copy was. was) (m.opened here p among));
        };
      }

  -- ---- a step

  module _ (s : JointStep) (joins : MayJoin s ws) where
    abbrev w : World
    w = ws s.archive

    abbrev next : World
    next = happens s.step w

    -- first both collections are fetched
    abbrev two : List Event
    two = fetches s.archive Lynx (collection_text w.server.maps.lynx) ∷ fetches s.archive Ms (collection_text w.server.maps.ms) ∷ []

    abbrev m2 : Archives
    m2 = archives.run_from two (run events)

    two_may : AllMayHappen two (run events)
    two_may = ((w.server.maps.lynx, collection_is Lynx s.archive, refl), ((w.server.maps.ms, collection_is Ms s.archive, refl), tt))

    -- the copies
    copy_now : (rules : Ruleset) → HasCopy m2 s.archive rules (files_of w.taken)
    copy_now Lynx = record {
      copy = copy_of (run events) s.archive Lynx (collection_text w.server.maps.lynx);
      fetched = Contains-append_left _ _ _ (Contains-push (run events).copies (copy_of (run events) s.archive Lynx (collection_text w.server.maps.lynx)));
      archive_is = refl;
      rules_are = refl;
      best = (w.server.maps.lynx, (run-best w (m.runs s.archive)).lynx, refl);
    }
    copy_now Ms = record {
      copy = copy_of (run events) s.archive Ms (collection_text w.server.maps.ms);
      fetched = Contains-push _ (copy_of (run events) s.archive Ms (collection_text w.server.maps.ms));
      archive_is = refl;
      rules_are = refl;
      best = (w.server.maps.ms, (run-best w (m.runs s.archive)).ms, refl);
    }

    taken_grows : IsPrefix w.taken next.taken
    taken_grows = elim (step-adds w s.step).taken [
      | inl same ↦ subst (λ (ts : List Taken). IsPrefix w.taken ts) (sym same) (IsPrefix-same w.taken)
      | inr one ↦ subst (λ (ts : List Taken). IsPrefix w.taken ts) (sym one.1) (IsPrefix-push w.taken one.0)
    ]

    -- with the events of what is taken
    module _ (last : List Event) (last_may : AllMayHappen last m2) where
      abbrev done : Archives
      done = archives.run_from last m2

      then_is : run (events ++ (two ++ last)) ≡ done
      then_is = moving.run-append events (two ++ last) archives.start

      keeps_two : (copy : Copy) → Contains m2.copies copy → Contains done.copies copy
      keeps_two = run-keeps_copies last m2

      keeps_all : (copy : Copy) → Contains (run events).copies copy → Contains done.copies copy
      keeps_all copy has = keeps_two copy (run-keeps_copies two (run events) copy has)

      -- what was opened before
      opened_before : (here : ℕ) (v : World) → IsPrefix (ws here).taken v.taken → (o : Opening) → Contains (ws here).opened o →
          OpenedCopy done here v o
      opened_before here v grows o has =
          let old = m.opened here o has in
          let same = take-prefix (ws here).taken v.taken o.taken grows old.counted in
          record {
            counted = omega (arith, old.counted, length-prefix (ws here).taken v.taken grows);
            copies = λ rules. subst (λ (ts : List Taken). HasCopy done here rules (files_of ts)) (sym same)
                (copy_on (run events) done here rules (files_of (take o.taken (ws here).taken)) keeps_all (old.copies rules));
          }

      -- what the step opens
      opened_now : (o : Opening) → o.taken ≡ length w.taken → OpenedCopy done s.archive next o
      opened_now o is =
          let whole_taken : take o.taken next.taken ≡ w.taken =
          ap (λ (n : ℕ). take n next.taken) is ∙ take-prefix w.taken next.taken (length w.taken) taken_grows (omega arith) ∙ take_all (length w.taken) w.taken
          (omega arith) in
          record {
            counted = omega (arith, is, length-prefix w.taken next.taken taken_grows);
            copies = λ rules. subst (λ (ts : List Taken). HasCopy done s.archive rules (files_of ts)) (sym whole_taken)
                (copy_on m2 done s.archive rules (files_of w.taken) keeps_two (copy_now rules));
          }

      opened_next : (o : Opening) → Contains next.opened o → OpenedCopy done s.archive next o
      opened_next o has = elim (step-adds w s.step).opened [
        | inl same ↦ opened_before s.archive next taken_grows o (subst (λ (os : List Opening). Contains os o) same has)
        | inr one ↦ (elim (Contains-push_cases w.opened one.0 o (subst (λ (os : List Opening). Contains os o) one.1 has)) [
          | inl old ↦ opened_before s.archive next taken_grows o old
          | inr new ↦ opened_now o (subst (λ (p : Opening). p.taken ≡ length w.taken) new one.2.0)
        ])
      ]

      -- each archive
      abbrev At : ℕ → World → Type 0
      At here v = IsRun v × (done.taken here ≡ files_of v.taken) × ((o : Opening) → Contains v.opened o → OpenedCopy done here v o)

      at_step : (taken : (b : Bool) (here : ℕ) → (s.archive == here) ≡ b →
          done.taken here ≡ files_of (if b then happens s.step (ws here) else ws here).taken) →
          (b : Bool) (here : ℕ) → (s.archive == here) ≡ b → At here (if b then happens s.step (ws here) else ws here)
      at_step taken true here is =
          let one : s.archive ≡ here = eqb-true s.archive here is in (
            subst (λ (n : ℕ). IsRun (happens s.step (ws n))) one (run-step w s.step (m.runs s.archive) joins.merged),
            taken true here is,
            subst (λ (n : ℕ). (o : Opening) → Contains (happens s.step (ws n)).opened o → OpenedCopy done n (happens s.step (ws n)) o) one opened_next,
          )
      at_step taken false here is = (m.runs here, taken false here is, opened_before here (ws here) (IsPrefix-same (ws here).taken))

      pub joined : ((b : Bool) (here : ℕ) → (s.archive == here) ≡ b →
          done.taken here ≡ files_of (if b then happens s.step (ws here) else ws here).taken) →
          Matches (after_step s ws) (events ++ (two ++ last))
      joined taken =
          let at : (here : ℕ) → At here (after_step s ws here) = λ here. at_step taken (s.archive == here) here refl in
          record {
            may = may-append events (two ++ last) archives.start m.may (may-append two last (run events) two_may last_may);
            runs = λ here. (at here).0;
            taken = λ here. ap (λ (v : Archives). v.taken here) then_is ∙ (at here).1;
            opened = λ here o has. subst (λ (v : Archives). OpenedCopy v here (after_step s ws here) o) (sym then_is) ((at here).2 o has);
          }

    -- ---- what is taken

    -- nothing
    none_taken : next.taken ≡ w.taken → (b : Bool) (here : ℕ) → (s.archive == here) ≡ b →
        m2.taken here ≡ files_of (if b then happens s.step (ws here) else ws here).taken
    none_taken same true here is =
        m.taken here ∙ subst (λ (n : ℕ). files_of (ws n).taken ≡ files_of (happens s.step (ws n)).taken) (eqb-true s.archive here is) (ap files_of (sym same))
    none_taken same false here is = m.taken here

    -- one text
    one_at : (t : Taken) (text : List ℕ) → next.taken ≡ w.taken ++ t ∷ [] → t.file ≡ text → (b : Bool) (here : ℕ) →
        (s.archive == here) ≡ b →
        m2.taken here ++ (if b then text ∷ [] else []) ≡ files_of (if b then happens s.step (ws here) else ws here).taken
    one_at t text is file true here at =
        let files : files_of next.taken ≡ files_of w.taken ++ text ∷ [] =
        ap files_of is ∙ map-append (λ (u : Taken). u.file) w.taken (t ∷ []) ∙ ap (λ (x : List ℕ). files_of w.taken ++ x ∷ []) file in
        subst (λ (n : ℕ). m2.taken n ++ text ∷ [] ≡ files_of (happens s.step (ws n)).taken) (eqb-true s.archive here at)
        (ap (λ (xs : List (List ℕ)). xs ++ text ∷ []) (m.taken s.archive) ∙ sym files)
    one_at t text is file false here at = append-nil (m2.taken here) ∙ m.taken here

    one_taken : (t : Taken) (text : List ℕ) (more : Ruleset → List (List ℕ)) → next.taken ≡ w.taken ++ t ∷ [] → t.file ≡ text →
        (b : Bool) (here : ℕ) → (s.archive == here) ≡ b →
        (with_text s.archive text more m2).taken here ≡ files_of (if b then happens s.step (ws here) else ws here).taken
    one_taken t text more is file b here at = ap (λ (c : Bool). m2.taken here ++ (if c then text ∷ [] else [])) at ∙ one_at t text is file b here at

    -- by what the file is
    abbrev Made : Kind → Type 0
    Made kind = (more : List Event) × Matches (after_step s ws) (events ++ more) × PutsKind kind s.archive (run events) more

    copy_may : (f : Fetched) (copy : Copy) → IsCopyOf (run events) f copy → Contains m2.copies copy
    copy_may f copy c = run-keeps_copies two (run events) copy c.fetched

    made : (kind : Kind) → IsOfKind kind s.archive s.step ws → Made kind
    made plain of = elim (step-adds w s.step).taken [
      | inl same ↦ (two ++ [], joined [] tt (none_taken same), tt)
      | inr one ↦
          let e = takes s.archive one.0.file in
          (two ++ e ∷ [], joined (e ∷ []) (tt, tt) (one_taken one.0 one.0.file (λ rules. one.0.file ∷ []) one.1 refl), tt)
    ]
    made (whole f) of =
        let c = copied f of.fetched in
        let e = puts s.archive c.0 in
        let t = of.takes_it in (
          two ++ e ∷ [],
          joined (e ∷ []) (copy_may f c.0 c.1, tt)
              (one_taken t.file c.0.text (λ rules. of_ruleset c.0.rules rules c.0.sources) t.is_taken (t.text_is ∙ sym c.1.text_is)),
          record { copy = c.0; is_copy = c.1; put = Contains-append_right two (e ∷ []) e (Contains-here e []) },
        )
    made (better f own) of =
        let c = copied f of.fetched in
        let o = copied own of.own_fetched in
        let e = puts_better s.archive c.0 o.0 of.text in
        let t = of.takes_it in
        let part : IsBetterPart c.0.text o.0.text of.text =
        subst (λ (x : List ℕ). IsBetterPart x o.0.text of.text) (sym c.1.text_is)
        (subst (λ (y : List ℕ). IsBetterPart f.got.file y of.text) (sym o.1.text_is) of.part) in (
          two ++ e ∷ [],
          joined (e ∷ [])
              (record { fetched = copy_may f c.0 c.1; own_fetched = copy_may own o.0 o.1; own_is = o.1.archive_is ∙ of.own_is; better = part }, tt)
              (one_taken t.file of.text (λ rules. of_ruleset c.0.rules rules c.0.sources) t.is_taken t.text_is),
          record { copy = c.0; own_copy = o.0; is_copy = c.1; is_own = o.1; text = of.text; put = Contains-append_right two (e ∷ []) e (Contains-here e []) },
        )

    pub step_made : Joins s ws events
    step_made =
        let j = made s.kind joins.kind in
        record { more = j.0; matches = j.1; puts_it = j.2 }

-- ---- an origin

takes-happen : (archive : ℕ) (texts : List (List ℕ)) (m : Archives) → AllMayHappen (takes_all archive texts) m
takes-happen archive [] m = tt
takes-happen archive (x ∷ texts) m = (tt, takes-happen archive texts (archives.happens (takes archive x) m))

-- an archive has taken all of them, and the others nothing
all_taken : (archive here : ℕ) (b : Bool) (texts : List (List ℕ)) (m : Archives) → (archive == here) ≡ b →
    (archives.run_from (takes_all archive texts) m).taken here ≡ m.taken here ++ (if b then texts else [])
all_taken archive here true [] m is = sym (append-nil (m.taken here))
all_taken archive here true (x ∷ texts) m is =
    all_taken archive here true texts (archives.happens (takes archive x) m) is ∙
    ap (λ (c : Bool). (m.taken here ++ (if c then x ∷ [] else [])) ++ texts) is ∙ append_assoc (m.taken here) (x ∷ []) texts
all_taken archive here false [] m is = sym (append-nil (m.taken here))
all_taken archive here false (x ∷ texts) m is =
    all_taken archive here false texts (archives.happens (takes archive x) m) is ∙
    ap (λ (c : Bool). (m.taken here ++ (if c then x ∷ [] else [])) ++ []) is ∙ append-nil (m.taken here ++ [])

module _ (ws : ℕ → World) (events : List Event) (archive : ℕ) (home : Endpoint) (o : Origin) (m : Matches ws events)
    (none : ws archive ≡ first_world (empty_origin home)) where
  abbrev filled : Archives
  filled = archives.run_from (takes_all archive o.texts) (run events)

  abbrev Filled : ℕ → World → Type 0
  Filled here v = IsRun v × (filled.taken here ≡ files_of v.taken) × ((p : Opening) → Contains v.opened p → OpenedCopy filled here v p)

  filled_at : (b : Bool) (here : ℕ) → (archive == here) ≡ b → Filled here (if b then first_world o else ws here)
  filled_at true here is =
      let nothing : (run events).taken here ≡ [] =
      m.taken here ∙ subst (λ (n : ℕ). files_of (ws n).taken ≡ []) (eqb-true archive here is) (ap (λ (v : World). files_of v.taken) none) in (
        record { origin = o; run = record { steps = []; merged = tt }; is = refl },
        all_taken archive here true o.texts (run events) is ∙ ap (λ (xs : List (List ℕ)). xs ++ o.texts) nothing ∙ sym (given_files o.home o.texts),
        (λ p has. absurd (Contains-none p has)),
      )
  filled_at false here is = (
    m.runs here,
    all_taken archive here false o.texts (run events) is ∙ append-nil ((run events).taken here) ∙ m.taken here,
    (λ p has. opened_on (run events) filled here (ws here) p (run-keeps_copies (takes_all archive o.texts) (run events)) (m.opened here p has)),
  )

  pub origin_matches : Matches (with_origin archive o ws) (events ++ takes_all archive o.texts)
  origin_matches =
      let at : (here : ℕ) → Filled here (with_origin archive o ws here) = λ here. filled_at (archive == here) here refl in
      let whole = moving.run-append events (takes_all archive o.texts) archives.start in
      record {
        may = may-append events (takes_all archive o.texts) archives.start m.may (takes-happen archive o.texts (run events));
        runs = λ here. (at here).0;
        taken = λ here. ap (λ (v : Archives). v.taken here) whole ∙ (at here).1;
        opened = λ here p has. subst (λ (v : Archives). OpenedCopy v here (with_origin archive o ws here) p) (sym whole) ((at here).2 p has);
      }

pub origin-matches : (ws : ℕ → World) (events : List Event) (archive : ℕ) (home : Endpoint) (o : Origin) → Matches ws events →
    ws archive ≡ first_world (empty_origin home) → Matches (with_origin archive o ws) (events ++ takes_all archive o.texts)
origin-matches ws events archive home o m none = origin_matches ws events archive home o m none

-- ---- what was sent

-- a file of a list of those taken
among_files : (taken : List Taken) (t : Taken) → Contains taken t → Contains (files_of taken) t.file
among_files [] t has = absurd (Contains-none t has)
among_files (u ∷ taken) t has =
    let rest = among_files taken t in
    elim (Contains-cases u taken t has) [
      | inl same ↦ subst (λ (x : Taken). Contains (files_of (u ∷ taken)) x.file) same (Contains-here u.file (files_of taken))
      | inr later ↦ Contains-there u.file (files_of taken) t.file (rest later)
    ]

pub sent-lasts : (ws later : ℕ → World) (before middle after : List Event) → Matches ws before →
    Matches later (before ++ (middle ++ after)) →
    (rules : Ruleset) (there here : ℕ) → Reaches rules (run before) middle there here → (e : Endpoint) → Contains (ws there).sent e →
    IsOwn (ws there) e →
    (file : List ℕ) × HasBegunWith (ws there) e (put file) × HoldsText (map_of rules (later here).server.maps) file
sent-lasts ws later before middle after m n rules there here reached e sent own =
    let w = ws there in
    let h = run-headline w (m.runs there) in
    let s = (h.client e (h.sent e sent) own).sent sent in
    let old = map_of rules w.server.maps in
    let new = map_of rules (later here).server.maps in
    let of_old = best_of_map rules w (m.runs there) in
    let of_new = collection_is later (before ++ (middle ++ after)) n rules here in
    let among : Contains (files_of w.taken) s.file = among_files w.taken _ (Has-contains w.taken _ (record { position = s.position; is = s.is_taken })) in
    let held = holds-solution rules (files_of w.taken) old of_old s.file among in
    let no_worse = collection-lasts before middle after n.may rules there here reached old new (collection_is ws before m rules there) of_new in (
      s.file,
      s.began,
      λ f is d has.
          holds_then (Contains new.entries) (Contains old.entries) (Contains (solutions_of old.ruleset (f ∷ []))) no_worse (held f is) d
          (subst (λ (k : Ruleset). Contains (solutions_of k (f ∷ [])) d) (of_new.ruleset_is ∙ sym of_old.ruleset_is) has),
    )

pub all-converge : (ws : ℕ → World) (before after : List Event) → Matches ws (before ++ after) → outside_of after ≡ [] →
    (rules : Ruleset) (archives : List ℕ) →
    OnlyAt archives before → (here : ℕ) → AllReach rules (run before) after archives here →
    IsBestOver rules (outside_of (before ++ after)) (collection_text (map_of rules (ws here).server.maps))
all-converge ws before after m none rules archives only here reached =
    all-best before after m.may none rules archives only here reached (collection_text (map_of rules (ws here).server.maps))
    (map_of rules (ws here).server.maps, collection_is ws (before ++ after) m rules here, refl)

pub step-joins : (ws : ℕ → World) (events : List Event) (s : JointStep) → Matches ws events → MayJoin s ws → Joins s ws events
step-joins ws events s m joins = step_made ws events m s joins

pub skip-matches : (ws : ℕ → World) (events : List Event) (archive : ℕ) (f own : Fetched) → Matches ws events → HasFetched ws f →
    HasFetched ws own → own.archive ≡ archive →
    HasNothingBetter f.got.file own.got.file → Skips archive ws events f own
skip-matches ws events archive f own m has has_own own_is none = skipped ws events m archive f own has has_own own_is none

pub fetched-copy : (ws : ℕ → World) (events : List Event) (f : Fetched) → Matches ws events → HasFetched ws f →
    (copy : Copy) × IsCopyOf (run events) f copy
fetched-copy ws events f m has = copied ws events m f has

pub server-best : (ws : ℕ → World) (events : List Event) → Matches ws events → (rules : Ruleset) (here : ℕ) →
    IsCollectionOf rules ((run events).sources rules here) (map_of rules (ws here).server.maps)
server-best ws events m rules here = server ws events m rules here

pub servers-alike : (ws : ℕ → World) (events : List Event) → Matches ws events → (rules : Ruleset) (here there : ℕ) →
    ((t : List ℕ) → Contains ((run events).sources rules here) t ↔ Contains ((run events).sources rules there) t) →
    collection_text (map_of rules (ws here).server.maps) ≡ collection_text (map_of rules (ws there).server.maps)
servers-alike ws events m rules here there same = same_texts ws events m rules here there same
