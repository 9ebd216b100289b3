-- Two texts that are loaded as collections which hold what was promised.
use Rattle.std.proofs.Common.{◌≡◌, ◌≢◌, ◌⊎◌, ℕ, List, Option, None, Some, refl, sym, subst, inl, inr}
use Rattle.tws_file.specs.declared.«ruleset».Ruleset.{Ruleset}
use Rattle.tws_file.specs.declared.«ruleset».Ruleset.TheVariants.{Lynx, Ms}
use Rattle.tws_best.specs.Best.{collection_text}
use Rattle.archive_table.specs.Table.{Maps, Taken, map_of}
use Rattle.archive_table.specs.Keeper.{IsLoaded, last_kept}
use Rattle.archive_model.specs.World.{World, IsPrefix}
use Rattle.archive_model.specs.Restarts.{LoadsAs}
use Rattle.archive_theorem.proofs.Claim_Invariant.{Holds, AreBest}
use Rattle.archive_theorem.proofs.Keeper_Loads.{loads_itself, loads-as, fails-outside}
use Rattle.archive_theorem.proofs.Keeper_Runs.{maps-are, fit-best, own-ruleset}
use Rattle.archive_theorem.proofs.Keeper_Holds.{holds-promised}
use Rattle.archive_durable.specs.Crashes.{OnlyChanges, list_of, LoadsAllPromised}

-- ---- rulesets

pub ms_other : Ms ≢ Lynx
ms_other e = cc

pub lynx_other : Lynx ≢ Ms
lynx_other e = cc

-- what holds of one ruleset, and of any other
pub by_ruleset : (Q : Ruleset → Type 0) (rules : Ruleset) → Q rules → ((other : Ruleset) → other ≢ rules → Q other) → (any : Ruleset) → Q any
by_ruleset Q Lynx own others Lynx = own
by_ruleset Q Lynx own others Ms = others Ms ms_other
by_ruleset Q Ms own others Lynx = others Lynx lynx_other
by_ruleset Q Ms own others Ms = own

-- what holds of both
pub of_both : (Q : Ruleset → Type 0) → Q Lynx → Q Ms → (any : Ruleset) → Q any
of_both Q lynx ms Lynx = lynx
of_both Q lynx ms Ms = ms

-- ---- two texts

abbrev pub pick : (lynx ms : Option (List ℕ)) → Ruleset → Option (List ℕ)
pick lynx ms Lynx = lynx
pick lynx ms Ms = ms

-- they are loaded as these collections
abbrev pub LoadsPair : (texts : Ruleset → Option (List ℕ)) → Maps → Type 0
LoadsPair texts maps = (rules : Ruleset) → IsLoaded rules (texts rules) (map_of rules maps)

lynx_last : (lynx ms : Option (List ℕ)) → last_kept Lynx (list_of lynx ms) ≡ lynx
lynx_last None None = refl
lynx_last None (Some b) = refl
lynx_last (Some a) None = refl
lynx_last (Some a) (Some b) = refl

ms_last : (lynx ms : Option (List ℕ)) → last_kept Ms (list_of lynx ms) ≡ ms
ms_last None None = refl
ms_last None (Some b) = refl
ms_last (Some a) None = refl
ms_last (Some a) (Some b) = refl

-- if these are the best over files that begin with those of a world, they hold what it has promised
pub loads-promised : (w : World) → Holds w → (taken : List Taken) (maps : Maps) → IsPrefix w.taken taken → AreBest taken maps →
    (lynx ms : Option (List ℕ)) → LoadsPair (pick lynx ms) maps → LoadsAllPromised w lynx ms
loads-promised w h taken maps more best lynx ms pair =
    let log = list_of lynx ms in
    let loads : LoadsAs log maps = record {
      lynx = subst (λ (o : Option (List ℕ)). IsLoaded Lynx o maps.lynx) (sym (lynx_last lynx ms)) (pair Lynx);
      ms = subst (λ (o : Option (List ℕ)). IsLoaded Ms o maps.ms) (sym (ms_last lynx ms)) (pair Ms);
    } in
    record {
      maps = maps;
      lynx = pair Lynx;
      ms = pair Ms;
      promised = holds-promised w h taken maps more best;
      only = λ loaded is_lynx is_ms.
          let same = loads-as log maps loads loaded.lynx loaded.ms (lynx, sym (lynx_last lynx ms), is_lynx) (ms, sym (ms_last lynx ms), is_ms) in
          sym (maps-are loaded.lynx loaded.ms maps same.0 same.1);
      fails = fails-outside log maps loads;
    }

-- a collection that is the best over files is loaded from its own text
pub loads-own : (taken : List Taken) (maps : Maps) → AreBest taken maps → (rules : Ruleset) →
    IsLoaded rules (Some (collection_text (map_of rules maps))) (map_of rules maps)
loads-own taken maps best Lynx = loads_itself Lynx maps.lynx (fit-best taken maps best).lynx (own-ruleset taken maps best).lynx
loads-own taken maps best Ms = loads_itself Ms maps.ms (fit-best taken maps best).ms (own-ruleset taken maps best).ms

-- ---- one of two collections

-- this text is loaded as that of the first collections, or of the second
abbrev pub LoadsEither : Ruleset → Option (List ℕ) → (old new : Maps) → Type 0
LoadsEither rules text old new = IsLoaded rules text (map_of rules old) ⊎ IsLoaded rules text (map_of rules new)

-- If they differ in one collection alone, two texts are loaded as the first or as the second.
pub pair-either : (texts : Ruleset → Option (List ℕ)) (old new : Maps) (rules : Ruleset) → OnlyChanges rules old new →
    LoadsEither rules (texts rules) old new →
    ((other : Ruleset) → other ≢ rules → IsLoaded other (texts other) (map_of other old)) → LoadsPair texts old ⊎ LoadsPair texts new
pair-either texts old new rules only (inl own) others = inl (by_ruleset (λ r. IsLoaded r (texts r) (map_of r old)) rules own others)
pair-either texts old new rules only (inr own) others =
    inr (by_ruleset (λ r. IsLoaded r (texts r) (map_of r new)) rules own
    (λ other differs. subst (IsLoaded other (texts other)) (sym (only other differs)) (others other differs)))
