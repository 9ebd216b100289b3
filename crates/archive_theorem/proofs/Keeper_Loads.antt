-- A keeper has what the server has, and that is what is loaded from it.
use Rattle.std.proofs.Common.{◌≡◌, ◌⊎◌, ℕ, Bool, true, false, List, [], ◌∷◌, ◌++◌, Option, None, Some, refl, ap, sym, ◌∙◌, subst, inl, inr, append-nil, Contains}
use Rattle.tws_file.specs.declared.«ruleset».Ruleset.{Ruleset}
use Rattle.tws_file.specs.declared.«ruleset».Ruleset.TheVariants.{Lynx, Ms}
use Rattle.tws_file.specs.Text.{File, IsText}
use Rattle.tws_reader.proofs.Faults.{text_without_fault}
use Rattle.tws_file.proofs.FileText.{one_file}
use Rattle.tws_best.specs.Best.{Collected, IsCollected, collection_text, solutions_of, IsBestOf, KeyedBody}
use Rattle.tws_best.proofs.Texts.{file_from, is_text, file_rules, read_back, file_solves}
use Rattle.archive_table.specs.Table.{Maps, Taken, Grant, all, no_memory, unkept, empty_maps}
use Rattle.archive_table.specs.Keeper.{Keeping, keeping, same_ruleset, later_or, last_kept, IsLoaded, LoadedFrom, KeepsOne, KeepsMaps, RefusesKeep, FailsKeep, FailsKeepOf, IsMisread, FailsToLoad, StepKeeps}
use Rattle.archive_table.specs.declared.load_fault.LoadFault.{LoadFault}
use Rattle.archive_table.specs.declared.load_fault.LoadFault.TheVariants.{Keep, Unreadable, WrongRuleset}
use Rattle.archive_table.specs.declared.load_fault.LoadFault.TheVariants as load
use Rattle.archive_model.specs.Restarts.{IsTextAt, HasKept, HaveOwnRuleset, StepStaysKept, LoadsTheSame, IsOutside, FailsOutside, AreAlike, LoadsAs}
use Rattle.tws_best.proofs.Bests.{own_best, one_map}

-- ---- one more in the list

-- of this ruleset, and kept
last_own : (rules : Ruleset) (log : List Keeping) (k : Keeping) → same_ruleset rules k.«ruleset» ≡ true → k.ok ≡ true →
    last_kept rules (log ++ k ∷ []) ≡ Some k.text
last_own rules [] k own ok =
    ap (λ (b : Bool). later_or None b k.ok k.text) own ∙ ap (λ (b : Bool). later_or None true b k.text) ok
last_own rules (x ∷ log) k own ok =
    ap (λ (o : Option (List ℕ)). later_or o (same_ruleset rules x.«ruleset») x.ok x.text) (last_own rules log k own ok)

-- of the other ruleset
last_other : (rules : Ruleset) (log : List Keeping) (k : Keeping) → same_ruleset rules k.«ruleset» ≡ false →
    last_kept rules (log ++ k ∷ []) ≡ last_kept rules log
last_other rules [] k other = ap (λ (b : Bool). later_or None b k.ok k.text) other
last_other rules (x ∷ log) k other =
    ap (λ (o : Option (List ℕ)). later_or o (same_ruleset rules x.«ruleset») x.ok x.text) (last_other rules log k other)

same : (rules : Ruleset) → same_ruleset rules rules ≡ true
same Lynx = refl
same Ms = refl

-- one that was not kept
none_later : (own : Bool) (text : List ℕ) → later_or None own false text ≡ None
none_later true text = refl
none_later false text = refl

-- a failed keep leaves what is loaded
last_failed : (rules : Ruleset) (log : List Keeping) (k : Keeping) → k.ok ≡ false → last_kept rules (log ++ k ∷ []) ≡ last_kept rules log
last_failed rules [] k failed =
    ap (λ (b : Bool). later_or None (same_ruleset rules k.«ruleset») b k.text) failed ∙ none_later (same_ruleset rules k.«ruleset») k.text
last_failed rules (x ∷ log) k failed =
    ap (λ (o : Option (List ℕ)). later_or o (same_ruleset rules x.«ruleset») x.ok x.text) (last_failed rules log k failed)

-- ---- a step

-- What is known of the text of each collection: `Is` for each ruleset, and for the collection's own text it holds.
module _ (Is : Ruleset → Option (List ℕ) → Collected → Type 0) (Fits : Collected → Type 0)
    (own_text : (rules : Ruleset) (c : Collected) → Fits c → c.ruleset ≡ rules → Is rules (Some (collection_text c)) c) where
  -- the list after it, if nothing was added
  unchanged : (rules : Ruleset) (before after : List Keeping) (c : Collected) → after ≡ before ++ [] →
      Is rules (last_kept rules before) c → Is rules (last_kept rules after) c
  unchanged rules before after c grows kept =
      subst (λ (l : List Keeping). Is rules (last_kept rules l) c) (sym (grows ∙ append-nil before)) kept

  -- a collection of this ruleset was kept, or had not changed
  kept_own : (rules : Ruleset) (before after : List Keeping) (old new : Collected) → new.ruleset ≡ rules → Fits new →
      KeepsOne old new (Some before) (Some after) → Is rules (last_kept rules before) old → Is rules (last_kept rules after) new
  kept_own rules before after old new rules-is fits (inl stayed) kept =
      unchanged rules before after new stayed.1 (subst (Is rules (last_kept rules before)) (sym stayed.0) kept)
  kept_own rules before after old new rules-is fits (inr changed) kept =
      let k = keeping new.ruleset (collection_text new) true in
      let own : same_ruleset rules new.ruleset ≡ true = ap (same_ruleset rules) rules-is ∙ same rules in
      let last : last_kept rules after ≡ Some (collection_text new) = ap (last_kept rules) changed.1 ∙ last_own rules before k own refl in
      subst (λ (o : Option (List ℕ)). Is rules o new) (sym last) (own_text rules new fits rules-is)

  -- the collection of the other ruleset still has its text
  kept_other : (rules : Ruleset) (before after : List Keeping) (old new c : Collected) → same_ruleset rules new.ruleset ≡ false →
      KeepsOne old new (Some before) (Some after) → Is rules (last_kept rules before) c → Is rules (last_kept rules after) c
  kept_other rules before after old new c other (inl stayed) kept = unchanged rules before after c stayed.1 kept
  kept_other rules before after old new c other (inr changed) kept =
      let k = keeping new.ruleset (collection_text new) true in
      let last : last_kept rules after ≡ last_kept rules before = ap (last_kept rules) changed.1 ∙ last_other rules before k other in
      subst (λ (o : Option (List ℕ)). Is rules o c) (sym last) kept

  -- for both collections
  pub record HasBoth (log : List Keeping) (maps : Maps) : Type 0 where
    pub lynx : Is Lynx (last_kept Lynx log) maps.lynx
    pub ms : Is Ms (last_kept Ms log) maps.ms

  pub record FitBoth (maps : Maps) : Type 0 where
    pub lynx : Fits maps.lynx
    pub ms : Fits maps.ms

  -- a step that keeps what changed: the keeper then has both collections
  pub maps_kept : (old new : Maps) (before after : List Keeping) → HaveOwnRuleset new → FitBoth new → KeepsMaps old new (Some before) (Some after) →
      HasBoth before old → HasBoth after new
  maps_kept old new before after rules fits (inl lynx) kept =
      record {
        lynx = kept_own Lynx before after old.lynx new.lynx rules.lynx fits.lynx lynx.1 kept.lynx;
        ms = subst (Is Ms (last_kept Ms after)) (sym lynx.0)
            (kept_other Ms before after old.lynx new.lynx old.ms (ap (same_ruleset Ms) rules.lynx) lynx.1 kept.ms);
      }
  maps_kept old new before after rules fits (inr ms) kept =
      record {
        lynx = subst (Is Lynx (last_kept Lynx after)) (sym ms.0)
            (kept_other Lynx before after old.ms new.ms old.lynx (ap (same_ruleset Lynx) rules.ms) ms.1 kept.lynx);
        ms = kept_own Ms before after old.ms new.ms rules.ms fits.ms ms.1 kept.ms;
      }

  -- ---- a collection that was not kept

  none_added : (maps : Maps) (before after : List Keeping) → after ≡ before ++ [] → HasBoth before maps → HasBoth after maps
  none_added maps before after grows kept =
      record { lynx = unchanged Lynx before after maps.lynx grows kept.lynx; ms = unchanged Ms before after maps.ms grows kept.ms }

  -- a list in which the same was kept last
  pub alike-both : (maps : Maps) (before after : List Keeping) → AreAlike before after → HasBoth before maps → HasBoth after maps
  alike-both maps before after alike kept =
      record {
        lynx = subst (λ (o : Option (List ℕ)). Is Lynx o maps.lynx) (sym (alike Lynx)) kept.lynx;
        ms = subst (λ (o : Option (List ℕ)). Is Ms o maps.ms) (sym (alike Ms)) kept.ms;
      }

  -- a keep of one collection that failed
  failed_one : (maps : Maps) (before after : List Keeping) (rules : Ruleset) (new : Collected) →
      FailsKeep rules new (Some before) (Some after) → HasBoth before maps → HasBoth after maps
  failed_one maps before after named new (inl none) kept = none_added maps before after none kept
  failed_one maps before after named new (inr failed) kept =
      alike-both maps before after (λ rules. ap (last_kept rules) failed ∙ last_failed rules before (keeping named (collection_text new) false) refl) kept

  -- or of either
  failed_maps : (now old new : Maps) (before after : List Keeping) → FailsKeepOf old new (Some before) (Some after) → HasBoth before now → HasBoth after now
  failed_maps now old new before after (inl lynx) kept = failed_one now before after new.lynx.ruleset new.lynx lynx.2 kept
  failed_maps now old new before after (inr ms) kept = failed_one now before after new.ms.ruleset new.ms ms.2 kept

  -- so a refused keep leaves the keeper with what the server has
  refused_keep : (wanted : Option Taken) (old : Maps) (before after : List Keeping) → RefusesKeep wanted old (Some before) (Some after) →
      HasBoth before old → HasBoth after old
  refused_keep wanted old before after failed kept = failed_maps old old failed.0 before after failed.2 kept

  -- the collections did not change if not everything was granted
  stayed_at : (grant : Grant) (old new : Maps) (after : List Keeping) → (grant ≡ all → ⊥) → (grant ≡ all) ⊎ (new ≡ old) → HasBoth after old → HasBoth after new
  stayed_at grant old new after other (inl is) kept = absurd (other is)
  stayed_at grant old new after other (inr same_maps) kept = subst (HasBoth after) (sym same_maps) kept

  -- after any step of the server the keeper still has what the server has
  pub step-both : (grant : Grant) (wanted : Option Taken) (old new : Maps) (before after : List Keeping) →
      StepKeeps grant wanted old new (Some before) (Some after) → (grant ≡ all) ⊎ (new ≡ old) → HaveOwnRuleset new → FitBoth new →
      HasBoth before old → HasBoth after new
  step-both all wanted old new before after keeps either_way rules fits kept = maps_kept old new before after rules fits keeps kept
  step-both no_memory wanted old new before after keeps either_way rules fits kept =
      stayed_at no_memory old new after (λ e. cc) either_way (none_added old before after keeps kept)
  step-both unkept wanted old new before after keeps either_way rules fits kept =
      stayed_at unkept old new after (λ e. cc) either_way (refused_keep wanted old before after keeps kept)

-- ---- the collection's own text, or any text that is loaded as it

-- each collection fits the first
abbrev pub Any : Collected → Type 0
Any c = Unit {0}

pub text_itself : (rules : Ruleset) (c : Collected) → Any c → c.ruleset ≡ rules → IsTextAt rules (Some (collection_text c)) c
text_itself rules c any same = refl

-- a collection is loaded from its own text
pub loads_itself : (rules : Ruleset) (c : Collected) → IsCollected c → c.ruleset ≡ rules → IsLoaded rules (Some (collection_text c)) c
loads_itself rules c fits same =
    let file = file_from c fits in
    let solves : solutions_of file.ruleset (file ∷ []) ≡ c.entries =
    ap (λ (r : Ruleset). solutions_of r (file ∷ [])) (file_rules c fits) ∙ file_solves c fits in
    let best : IsBestOf (Contains (solutions_of file.ruleset (file ∷ []))) c.entries =
    subst (λ (es : List KeyedBody). IsBestOf (Contains es) c.entries) (sym solves) (own_best c.entries fits.rising) in
    (file, is_text c fits, file_rules c fits ∙ same, same, best)

-- so a step that keeps the collections' own texts keeps them
pub step-stays_kept : (grant : Grant) (wanted : Option Taken) (old new : Maps) (before after : List Keeping) → StepStaysKept grant wanted old new before after
step-stays_kept grant wanted old new before after keeps either_way rules kept =
    let both = step-both IsTextAt Any text_itself grant wanted old new before after keeps either_way rules (record { lynx = tt; ms = tt })
    (record { lynx = kept.lynx; ms = kept.ms }) in
    record { lynx = both.lynx; ms = both.ms }

-- and if they are loaded as what the server has, they still are
pub step-loads_as : (grant : Grant) (wanted : Option Taken) (old new : Maps) (before after : List Keeping) →
    StepKeeps grant wanted old new (Some before) (Some after) → (grant ≡ all) ⊎ (new ≡ old) → HaveOwnRuleset new → IsCollected new.lynx → IsCollected new.ms →
    LoadsAs before old → LoadsAs after new
step-loads_as grant wanted old new before after keeps either_way rules fits_lynx fits_ms loads =
    let both = step-both IsLoaded IsCollected loads_itself grant wanted old new before after keeps either_way rules (record { lynx = fits_lynx; ms = fits_ms })
    (record { lynx = loads.lynx; ms = loads.ms }) in
    record { lynx = both.lynx; ms = both.ms }

-- what has the collections' own texts is loaded as these
loads_by : (rules : Ruleset) (text : Option (List ℕ)) (c : Collected) → IsTextAt rules text c → IsCollected c → c.ruleset ≡ rules → IsLoaded rules text c
loads_by rules None c has fits same = has
loads_by rules (Some text) c has fits same = subst (λ (x : List ℕ). IsLoaded rules (Some x) c) (sym has) (loads_itself rules c fits same)

pub own-loads : (log : List Keeping) (maps : Maps) → HasKept log maps → IsCollected maps.lynx → IsCollected maps.ms → HaveOwnRuleset maps → LoadsAs log maps
own-loads log maps kept fits_lynx fits_ms rules =
    record {
      lynx = loads_by Lynx (last_kept Lynx log) maps.lynx kept.lynx fits_lynx rules.lynx;
      ms = loads_by Ms (last_kept Ms log) maps.ms kept.ms fits_ms rules.ms;
    }

-- ---- a load

-- a collection is its ruleset and its entries
collected_is : (c d : Collected) → c.ruleset ≡ d.ruleset → c.entries ≡ d.entries → c ≡ d
collected_is c d rules entries =
    let make : Ruleset → List KeyedBody → Collected = λ r es. record { «ruleset» = r; entries = es } in
    let whole : make c.ruleset c.entries ≡ make d.ruleset d.entries = cc in
    whole

-- a file is loaded as one collection
one_loaded : (rules : Ruleset) (text : Option (List ℕ)) (c d : Collected) → IsLoaded rules text c → IsLoaded rules text d → d ≡ c
one_loaded rules None c d first second = second ∙ sym first
one_loaded rules (Some bytes) c d first second =
    let same : second.0 ≡ first.0 = one_file bytes second.0 first.0 second.1 first.1 in
    let best = subst (λ (f : File). IsBestOf (Contains (solutions_of f.ruleset (f ∷ []))) d.entries) same second.4 in
    collected_is d c (second.3 ∙ sym first.3) (one_map (Contains (solutions_of first.0.ruleset (first.0 ∷ []))) d.entries c.entries best first.4)

-- so for what was kept last
loaded_from : (rules : Ruleset) (log : List Keeping) (now loaded : Collected) → IsLoaded rules (last_kept rules log) now →
    LoadedFrom rules (Some log) loaded → loaded ≡ now
loaded_from rules log now loaded has from =
    one_loaded rules from.0 now loaded (subst (λ (o : Option (List ℕ)). IsLoaded rules o now) (sym from.1) has) from.2

-- what is loaded are the collections that the keeper has
pub loads-as : (log : List Keeping) (maps : Maps) → LoadsAs log maps → (lynx ms : Collected) → LoadedFrom Lynx (Some log) lynx →
    LoadedFrom Ms (Some log) ms → (lynx ≡ maps.lynx) × (ms ≡ maps.ms)
loads-as log maps loads lynx ms from_lynx from_ms =
    (loaded_from Lynx log maps.lynx lynx loads.lynx from_lynx, loaded_from Ms log maps.ms ms loads.ms from_ms)

-- what is loaded from a collection's own text is the collection
loaded_by : (rules : Ruleset) (text : Option (List ℕ)) (now loaded : Collected) → IsTextAt rules text now → IsCollected now →
    IsLoaded rules text loaded → loaded ≡ now
loaded_by rules None now loaded has fits is = is ∙ sym has
loaded_by rules (Some text) now loaded has fits is =
    read_back now loaded is.0 fits (subst (λ (bytes : List ℕ). IsText bytes is.0) has is.1) (is.3 ∙ sym is.2) is.4

kept_loaded : (rules : Ruleset) (log : List Keeping) (now loaded : Collected) → IsTextAt rules (last_kept rules log) now → IsCollected now →
    LoadedFrom rules (Some log) loaded → loaded ≡ now
kept_loaded rules log now loaded has fits from =
    loaded_by rules from.0 now loaded (subst (λ (o : Option (List ℕ)). IsTextAt rules o now) (sym from.1) has) fits from.2

pub loads-the_same : (log : List Keeping) (maps : Maps) → LoadsTheSame log maps
loads-the_same log maps kept fits_lynx fits_ms lynx ms from_lynx from_ms =
    (kept_loaded Lynx log maps.lynx lynx kept.lynx fits_lynx from_lynx, kept_loaded Ms log maps.ms ms kept.ms fits_ms from_ms)

-- ---- a load that fails

-- the text of a file of its ruleset is not misread
read_fails : (rules : Ruleset) (bytes : List ℕ) (c : Collected) (fault : LoadFault) → IsLoaded rules (Some bytes) c → IsMisread rules bytes fault →
    IsOutside fault
read_fails rules bytes c (Keep e) is misread = tt
read_fails rules bytes c (Unreadable e) is misread = text_without_fault bytes is.0 e is.1 misread
read_fails rules bytes c WrongRuleset is misread = misread.2 (ap (λ (f : File). f.ruleset) (one_file bytes misread.0 is.0 misread.1 is.1) ∙ is.2)
read_fails rules bytes c load.Memory is misread = tt

-- so does a load of one collection
fails_from : (rules : Ruleset) (log : List Keeping) (c : Collected) (fault : LoadFault) → IsLoaded rules (last_kept rules log) c →
    FailsToLoad rules (Some log) fault → IsOutside fault
fails_from rules log c (Keep e) has fails = tt
fails_from rules log c (Unreadable e) has fails =
    read_fails rules fails.0 c (Unreadable e) (subst (λ (o : Option (List ℕ)). IsLoaded rules o c) (sym fails.1) has) fails.2
fails_from rules log c WrongRuleset has fails =
    read_fails rules fails.0 c WrongRuleset (subst (λ (o : Option (List ℕ)). IsLoaded rules o c) (sym fails.1) has) fails.2
fails_from rules log c load.Memory has fails = tt

-- a load of what is loaded as the collections fails only by a fault of the keeper or out of memory
pub fails-outside : (log : List Keeping) (maps : Maps) → LoadsAs log maps → FailsOutside log
fails-outside log maps loads fault (inl lynx) = fails_from Lynx log maps.lynx fault loads.lynx lynx
fails-outside log maps loads fault (inr ms) = fails_from Ms log maps.ms fault loads.ms ms.2

-- a keeper with an empty list has the empty collections
pub start-kept : HasKept [] empty_maps
start-kept = record { lynx = refl; ms = refl }
