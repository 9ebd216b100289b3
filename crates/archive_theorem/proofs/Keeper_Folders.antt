-- The collections that are loaded from a folder are the best over its two texts.
use Rattle.std.proofs.Common.{◌≡◌, ℕ, List, [], ◌∷◌, Contains, refl, ◌∙◌, subst, inl, inr, Option, ◌++◌, map, true, sym, ap, append-nil, Some, None}
use Rattle.tws_file.specs.declared.«ruleset».Ruleset.{Ruleset}
use Rattle.tws_file.specs.declared.«ruleset».Ruleset.TheVariants.{Lynx, Ms}
use Rattle.tws_best.specs.Best.{Collected, IsCollected, IsCollectionOf, collection_text, solutions_of, IsBestOf}
use Rattle.tws_best.proofs.Members.{Contains-none, Contains-here, Contains-there, Contains-cases}
use Rattle.tws_best.proofs.Sets.{own_collection, same_texts, no_texts, one_more_text}
use Rattle.tws_best.proofs.Texts.{file_from, is_text, file_rules}
use Rattle.archive_model.specs.World.{AreOver}
use Rattle.archive_theorem.proofs.Server_Merges.{stays, other_lynx, other_ms}
use Rattle.archive_table.specs.Keeper.{Keeping, keeping, IsLoaded, last_kept}
use Rattle.tws_file.specs.Text.{File}
use Rattle.archive_model.specs.Restarts.{text_list, LoadsAs, kept_texts}
use Rattle.archive_table.specs.Table.{Maps, empty_collection}
use Rattle.archive_theorem.proofs.Keeper_Loads.{loads_itself}
use Rattle.std.proofs.lemmas.List.Elements.{Contains-append_left, Contains-append_right, Contains-append_cases}

-- ---- one text for each ruleset, or none

-- a collection that is loaded from this text is the best over it
loaded_over : (rules : Ruleset) (text : Option (List ℕ)) (c : Collected) → IsLoaded rules text c → IsCollectionOf rules (text_list text) c
loaded_over rules None c is = no_texts rules c (ap (λ (x : Collected). x.ruleset) is) (ap (λ (x : Collected). x.entries) is)
loaded_over rules (Some text) c is =
    let none = empty_collection rules in
    let best = subst (λ (r : Ruleset). IsBestOf (Contains (solutions_of r (is.0 ∷ []))) c.entries) is.2 is.4 in
    one_more_text rules [] text is.0 none c (no_texts rules none refl refl) is.1 is.3 best

-- a text that is loaded for the other ruleset adds nothing
and_other : (rules other : Ruleset) (text : Option (List ℕ)) (c d : Collected) (texts : List (List ℕ)) → IsCollectionOf rules texts c →
    ((f : File) → f.ruleset ≡ other → solutions_of c.ruleset (f ∷ []) ≡ []) → IsLoaded other text d → IsCollectionOf rules (texts ++ text_list text) c
and_other rules other None c d texts over apart is = subst (λ (l : List (List ℕ)). IsCollectionOf rules l c) (sym (append-nil texts)) over
and_other rules other (Some text) c d texts over apart is = stays rules texts text is.0 c c over is.1 (apart is.0 is.2) refl

swap : (xs ys : List (List ℕ)) (t : List ℕ) → Contains (xs ++ ys) t → Contains (ys ++ xs) t
swap xs ys t has =
    elim (Contains-append_cases xs ys t has) [
      | inl first ↦ Contains-append_right ys xs t first
      | inr second ↦ Contains-append_left ys xs t second
    ]

-- so both are the best over both texts
pub loaded-over : (log : List Keeping) (maps : Maps) → LoadsAs log maps → AreOver (kept_texts log) maps
loaded-over log maps loads =
    let lynx = last_kept Lynx log in
    let ms = last_kept Ms log in
    let own_lynx = loaded_over Lynx lynx maps.lynx loads.lynx in
    let own_ms = loaded_over Ms ms maps.ms loads.ms in
    let turned = and_other Ms Lynx lynx maps.ms maps.lynx (text_list ms) own_ms (λ f is. other_ms f maps.ms own_ms.ruleset_is is) loads.lynx in
    record {
      lynx = and_other Lynx Ms ms maps.lynx maps.ms (text_list lynx) own_lynx (λ f is. other_lynx f maps.lynx own_lynx.ruleset_is is) loads.ms;
      ms = same_texts Ms (text_list ms ++ text_list lynx) (text_list lynx ++ text_list ms) maps.ms
          (swap (text_list ms) (text_list lynx)) (swap (text_list lynx) (text_list ms)) turned;
    }

-- collections are loaded from a list of their own texts
pub own-texts : (lynx ms : Collected) → IsCollected lynx → IsCollected ms → lynx.ruleset ≡ Lynx → ms.ruleset ≡ Ms →
    AreOver (collection_text lynx ∷ collection_text ms ∷ []) (record { lynx = lynx; ms = ms })
own-texts lynx ms fits_lynx fits_ms is_lynx is_ms =
    loaded-over (keeping Lynx (collection_text lynx) true ∷ keeping Ms (collection_text ms) true ∷ []) (record { lynx = lynx; ms = ms })
    (record { lynx = loads_itself Lynx lynx fits_lynx is_lynx; ms = loads_itself Ms ms fits_ms is_ms })
