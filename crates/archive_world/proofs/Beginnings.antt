-- How a replay begins: with the collections that are loaded from its keeper's texts.
use Rattle.std.specs.Prelude.{◌≡◌, ℕ, List, [], ◌++◌, map, Option, None, Some}
use Rattle.std.proofs.Common.{refl, sym, ap, ◌∙◌, subst, inl, inr}
use Rattle.tws_file.specs.declared.«ruleset».Ruleset.{Ruleset}
use Rattle.tws_file.specs.declared.«ruleset».Ruleset.TheVariants.{Lynx, Ms}
use Rattle.tws_best.specs.Best.{Collected}
use Rattle.archive_table.specs.Table.{Table, Maps, Taken, Transfer, empty_maps}
use Rattle.archive_table.specs.Keeper.{Keeping, given, last_kept, Loads, IsLoaded, LoadedFrom, HasLoaded, FailsToLoad, TableFails}
use Rattle.archive_table.specs.declared.load_fault.LoadFault.{LoadFault}
use Rattle.archive_table.specs.declared.load_fault.LoadFault.TheVariants.{Keep, Unreadable, WrongRuleset}
use Rattle.archive_table.specs.declared.load_fault.LoadFault.TheVariants as load
use Rattle.archive_model.specs.World.{World, Event, Origin, AreOver, AllMerged, first_world, empty_origin, server_endpoint, start, taken_with}
use Rattle.archive_model.specs.World as model
use Rattle.archive_model.specs.Restarts.{text_list, LoadsAs, FailsOutside}
use Rattle.archive_theorem.specs.Headline.{HasOwnPorts, Headline}
use Rattle.archive_theorem.proofs.Headline_Clients.{run-headline}
use Rattle.archive_theorem.proofs.Keeper_Folders.{loaded-over}
use Rattle.archive_theorem.proofs.Keeper_Loads.{fails-outside}
use Rattle.archive_world.specs.Inside.{first_taken}
use Rattle.archive_world.specs.Outcomes.{Outcome}
use Rattle.archive_world.specs.Replays.{BeginsFrom, HasRunFrom}
use Rattle.archive_world.specs.Exits.{BeginsAt}

-- ---- a keeper that was made with two texts

-- it has these
pub first_lynx : (lynx ms : Option (List ℕ)) → last_kept Lynx (given Lynx lynx ++ given Ms ms) ≡ lynx
first_lynx None None = refl
first_lynx None (Some m) = refl
first_lynx (Some l) None = refl
first_lynx (Some l) (Some m) = refl

pub first_ms : (lynx ms : Option (List ℕ)) → last_kept Ms (given Lynx lynx ++ given Ms ms) ≡ ms
first_ms None None = refl
first_ms None (Some m) = refl
first_ms (Some l) None = refl
first_ms (Some l) (Some m) = refl

-- as files taken
first_files : (lynx ms : Option (List ℕ)) →
    taken_with (first_taken ms) (taken_with (first_taken lynx) []) ≡ map (model.given server_endpoint) (text_list lynx ++ text_list ms)
first_files None None = refl
first_files None (Some m) = refl
first_files (Some l) None = refl
first_files (Some l) (Some m) = refl

-- ---- a load from these texts

module _ (reported : Option (List Keeping)) (lynx ms : Option (List ℕ)) (has_lynx : Loads Lynx reported lynx) (has_ms : Loads Ms reported ms) where
  -- the list of that keeper
  abbrev log : List Keeping
  log = given Lynx lynx ++ given Ms ms

  loaded_is : (rules : Ruleset) (text : Option (List ℕ)) (c : Collected) → last_kept rules log ≡ text → LoadedFrom rules (Some log) c → IsLoaded rules text c
  loaded_is rules text c is from = subst (λ (o : Option (List ℕ)). IsLoaded rules o c) (from.1 ∙ is) from.2

  -- the collections are the best over both texts
  over_both : (maps : Maps) → IsLoaded Lynx lynx maps.lynx → IsLoaded Ms ms maps.ms → AreOver (text_list lynx ++ text_list ms) maps
  over_both maps lynx_is ms_is =
      let loads : LoadsAs log maps = record {
        lynx = subst (λ (o : Option (List ℕ)). IsLoaded Lynx o maps.lynx) (sym (first_lynx lynx ms)) lynx_is;
        ms = subst (λ (o : Option (List ℕ)). IsLoaded Ms o maps.ms) (sym (first_ms lynx ms)) ms_is;
      } in
      subst (λ (o : Option (List ℕ)). AreOver (text_list o ++ text_list ms) maps) (first_lynx lynx ms)
      (subst (λ (o : Option (List ℕ)). AreOver (text_list (last_kept Lynx log) ++ text_list o) maps) (first_ms lynx ms) (loaded-over log maps loads))

  -- so a replay begins with them
  begins-at : (u v w : World) → u ≡ start → HasLoaded u.server.request (Some log) v.server → v ≡ record u { server = v.server } →
      w ≡ record v { past = record v.past { taken = taken_with (first_taken ms) (taken_with (first_taken lynx) v.taken) } } → BeginsAt reported w
  begins-at u v w u_is loaded v_is w_is =
      let maps = v.server.maps in
      let lynx_is = loaded_is Lynx lynx maps.lynx (first_lynx lynx ms) loaded.lynx in
      let ms_is = loaded_is Ms ms maps.ms (first_ms lynx ms) loaded.ms in
      let o : Origin = record { home = server_endpoint; texts = text_list lynx ++ text_list ms; maps = maps; over = over_both maps lynx_is ms_is } in
      let make : ℕ → List (ℕ × Transfer) → Table = λ p live. record { request = p; maps = maps; live = live } in
      let server : make v.server.request v.server.live ≡ make server_endpoint.port [] = (let port = loaded.port ∙ ap (λ (x : World). x.server.request) u_is in let idle = loaded.idle in cc) in
      let first : (s : Table) → List Taken → World = λ s taken. record start { server = s; past = record start.past { taken = taken } } in
      let begins : BeginsFrom reported o = record {
        lynx = lynx;
        ms = ms;
        has_lynx = has_lynx;
        has_ms = has_ms;
        home = refl;
        texts = refl;
        lynx_is = lynx_is;
        ms_is = ms_is;
      } in (
        o,
        begins,
        w_is
            ∙ ap (λ (x : World). record x { past = record x.past { taken = taken_with (first_taken ms) (taken_with (first_taken lynx) x.taken) } })
            (v_is ∙ ap (λ (x : World). record x { server = v.server }) u_is)
            ∙ ap (λ (s : Table). first s (taken_with (first_taken ms) (taken_with (first_taken lynx) []))) server
            ∙ ap (first (make server_endpoint.port [])) (first_files lynx ms),
      )

  -- The same with the texts after the load, which has left their list as it was.
  pub begins-with : (first second : Option (List ℕ)) → Some (given Lynx first ++ given Ms second) ≡ Some log → (u v w : World) → u ≡ start →
      HasLoaded u.server.request (Some log) v.server → v ≡ record u { server = v.server } →
      w ≡ record v { past = record v.past { taken = taken_with (first_taken second) (taken_with (first_taken first) v.taken) } } → BeginsAt reported w
  begins-with first second some u v w u_is loaded v_is w_is =
      let same : given Lynx first ++ given Ms second ≡ log = cc in
      let as_lynx : first ≡ lynx = sym (first_lynx first second) ∙ ap (last_kept Lynx) same ∙ first_lynx lynx ms in
      let as_ms : second ≡ ms = sym (first_ms first second) ∙ ap (last_kept Ms) same ∙ first_ms lynx ms in
      let after : Option (List ℕ) → Option (List ℕ) → World = λ a b.
      record v { past = record v.past { taken = taken_with (first_taken b) (taken_with (first_taken a) v.taken) } } in
      begins-at u v w u_is loaded v_is (w_is ∙ ap (λ (a : Option (List ℕ)). after a second) as_lynx ∙ ap (after lynx) as_ms)

  -- a load from them fails as one from the keeper does
  fails_by : (rules : Ruleset) (text : Option (List ℕ)) → last_kept rules log ≡ text → Loads rules reported text → (fault : LoadFault) →
      FailsToLoad rules (Some log) fault → FailsToLoad rules reported fault
  fails_by rules text is has (Keep e) fails = tt
  fails_by rules text is has (Unreadable e) fails = (fails.0, subst (Loads rules reported) (sym (fails.1 ∙ is)) has, fails.2)
  fails_by rules text is has WrongRuleset fails = (fails.0, subst (Loads rules reported) (sym (fails.1 ∙ is)) has, fails.2)
  fails_by rules text is has load.Memory fails = tt

  pub table-fails : (fault : LoadFault) → TableFails (Some log) fault → TableFails reported fault
  table-fails fault (inl first) = inl (fails_by Lynx lynx (first_lynx lynx ms) has_lynx fault first)
  table-fails fault (inr second) =
      inr (
        second.0,
        (lynx, has_lynx, loaded_is Lynx lynx second.0 (first_lynx lynx ms) second.1),
        fails_by Ms ms (first_ms lynx ms) has_ms fault second.2,
      )

-- ---- a keeper that has nothing

module _ (o : Origin) (begins : BeginsFrom (Some []) o) where
  -- it loads nothing
  lynx_nothing : o.maps.lynx ≡ empty_maps.lynx
  lynx_nothing = subst (λ (text : Option (List ℕ)). IsLoaded Lynx text o.maps.lynx) begins.has_lynx begins.lynx_is

  ms_nothing : o.maps.ms ≡ empty_maps.ms
  ms_nothing = subst (λ (text : Option (List ℕ)). IsLoaded Ms text o.maps.ms) begins.has_ms begins.ms_is

  no_texts : o.texts ≡ []
  no_texts =
      begins.texts
      ∙ ap (λ (text : Option (List ℕ)). text_list text ++ text_list begins.ms) begins.has_lynx
      ∙ ap text_list begins.has_ms

  -- so nothing is there at first
  pub from-nothing : first_world o ≡ start
  from-nothing =
      let make : (home : _) → Collected → Collected → List (List ℕ) → World = λ home lynx ms texts. record start {
        server = record { request = home.port; maps = record { lynx = lynx; ms = ms }; live = [] };
        past = record start.past { home = home; taken = map (model.given home) texts };
      } in
      ap (λ home. make home o.maps.lynx o.maps.ms o.texts) begins.home
      ∙ ap (λ c. make server_endpoint c o.maps.ms o.texts) lynx_nothing
      ∙ ap (λ c. make server_endpoint empty_maps.lynx c o.texts) ms_nothing
      ∙ ap (make server_endpoint empty_maps.lynx empty_maps.ms) no_texts

  -- and the headline holds for what has happened
  pub nothing-headline : (events : List Event) (now : Option (List Keeping)) (outcome : Outcome)
      (r : HasRunFrom o events (Some []) now outcome) → Headline r.world
  nothing-headline events now outcome r =
      let h = r.happened in
      let is : r.world ≡ model.run h.steps = h.is ∙ ap (model.run_from h.steps) from-nothing in
      subst Headline (sym is)
      (run-headline server_endpoint (record { steps = h.steps; merged = subst (AllMerged h.steps) from-nothing h.merged }) (subst HasOwnPorts is h.own))

-- its load fails only by a fault of its own or out of memory
pub nothing-fails : FailsOutside []
nothing-fails = fails-outside [] empty_maps (record { lynx = refl; ms = refl })
