-- In every run what an archive has taken is as good as its sources.
use Rattle.std.proofs.Common.{◌≡◌, ◌≢◌, ℕ, ◌==◌, Bool, true, false, List, [], ◌∷◌, ◌++◌, if◌then◌else◌, refl, sym, ◌∙◌, subst, inl, inr, append-nil}
use Rattle.std.specs.List.{Contains}
use Rattle.std.proofs.lemmas.Bool.{eqb-true}
use Rattle.std.proofs.lemmas.List.Elements.{Contains-append_left, Contains-push_cases}
use Rattle.tws_file.specs.declared.«ruleset».Ruleset.{Ruleset}
use Rattle.tws_file.specs.declared.«ruleset».Ruleset.TheVariants.{Lynx, Ms}
use Rattle.tws_best.proofs.Members.{Contains-none}
use Rattle.tws_compare.specs.Part.{IsBetterPart}
use Rattle.archive_mirrors.specs.Archives.{Archives, Copy, Event, takes, fetches, puts, puts_better, skips, restarts, start, at_archive, of_ruleset, copy_of, with_text, with_sources, happens, run_from, run, MayHappen, AllMayHappen}
use Rattle.archive_mirrors.proofs.Covering.{Covers, AsGood, good_itself, good_then, good_joined, good_back, covers_then, more_cover}
use Rattle.archive_mirrors.proofs.Copies.{IsCollectionText, from_best, best_good, other_good, file_of, part_text, part_good, better_named, empty_text, empty_good, nothing_part}

-- a copy is as good as its sources, and its archive has all of it
record CopyStands (taken : ℕ → List (List ℕ)) (copy : Copy) : Type 0 where
  is_text : IsCollectionText copy.rules copy.text
  good : AsGood copy.rules (copy.text ∷ []) copy.sources
  own : Covers copy.rules (taken copy.archive) (copy.text ∷ [])

record Stands (w : Archives) : Type 0 where
  archives : (rules : Ruleset) (here : ℕ) → AsGood rules (w.taken here) (w.sources rules here)
  copies : (copy : Copy) → Contains w.copies copy → CopyStands w.taken copy

-- ---- a text is taken

lynx-apart : Lynx ≢ Ms
lynx-apart is = cc

ms-apart : Ms ≢ Lynx
ms-apart is = cc

-- at each archive
good_at : (rules : Ruleset) (archive here : ℕ) (b : Bool) (xs ys zs ws : ℕ → List (List ℕ)) → (archive == here) ≡ b →
    AsGood rules (xs here) (ys here) →
    AsGood rules (xs archive ++ zs archive) (ys archive ++ ws archive) →
    AsGood rules (xs here ++ (if b then zs archive else [])) (ys here ++ (if b then ws archive else []))
good_at rules archive here true xs ys zs ws is stands more =
    subst (λ (n : ℕ). AsGood rules (xs n ++ zs archive) (ys n ++ ws archive)) (eqb-true archive here is) more
good_at rules archive here false xs ys zs ws is stands more = good_joined rules (xs here) (ys here) [] [] stands (good_itself rules [])

sources_at : (rules : Ruleset) (archive here : ℕ) (b : Bool) (xs ys : ℕ → List (List ℕ)) (more : List (List ℕ)) → (archive == here) ≡ b →
    AsGood rules (xs here) (ys here) →
    AsGood rules (xs archive) (ys archive ++ more) → AsGood rules (xs here) (ys here ++ (if b then more else []))
sources_at rules archive here true xs ys more is stands good = subst (λ (n : ℕ). AsGood rules (xs n) (ys n ++ more)) (eqb-true archive here is) good
sources_at rules archive here false xs ys more is stands good = subst (AsGood rules (xs here)) (sym (append-nil (ys here))) stands

-- a copy stands also later
later : (taken more : ℕ → List (List ℕ)) → ((here : ℕ) (t : List ℕ) → Contains (taken here) t → Contains (more here) t) → (copy : Copy) →
    CopyStands taken copy → CopyStands more copy
later taken more there copy c = record {
  is_text = c.is_text;
  good = c.good;
  own = covers_then copy.rules (more copy.archive) (taken copy.archive) (copy.text ∷ [])
      (more_cover copy.rules (taken copy.archive) (more copy.archive) (there copy.archive)) c.own;
}

text-stands : (archive : ℕ) (text : List ℕ) (more : Ruleset → List (List ℕ)) (w : Archives) → Stands w →
    ((rules : Ruleset) → AsGood rules (w.taken archive ++ text ∷ []) (w.sources rules archive ++ more rules)) →
    Stands (with_text archive text more w)
text-stands archive text more w stands good = record {
  archives = λ rules here.
      good_at rules archive here (archive == here) w.taken (w.sources rules) (λ n. text ∷ []) (λ n. more rules) refl (stands.archives rules here) (good rules);
  copies = λ copy has. later w.taken (with_text archive text more w).taken
      (λ here t among. Contains-append_left (w.taken here) (at_archive archive here (text ∷ [])) t among) copy (stands.copies copy has);
}

-- the whole of a copy
copy_good : (its rules : Ruleset) (text : List ℕ) (sources : List (List ℕ)) → IsCollectionText its text → AsGood its (text ∷ []) sources →
    AsGood rules (text ∷ []) (of_ruleset its rules sources)
copy_good Lynx Lynx text sources t good = good
copy_good Lynx Ms text sources t good = other_good Lynx Ms text lynx-apart t
copy_good Ms Lynx text sources t good = other_good Ms Lynx text ms-apart t
copy_good Ms Ms text sources t good = good

-- what of a copy is better, for the copy's own ruleset
same_better : (rules : Ruleset) (taken sources more : List (List ℕ)) (mine theirs text : List ℕ) → IsCollectionText rules mine →
    IsBetterPart mine theirs text →
    AsGood rules (mine ∷ []) more → Covers rules taken (theirs ∷ []) → AsGood rules taken sources → AsGood rules (taken ++ text ∷ []) (sources ++ more)
same_better rules taken sources more mine theirs text t b good covered stands =
    good_then rules (taken ++ text ∷ []) (taken ++ mine ∷ []) (sources ++ more)
    (part_good rules mine theirs text b (better_named rules mine theirs text t b) taken covered)
    (good_joined rules taken sources (mine ∷ []) more stands good)

-- and for the other one
other_better : (its rules : Ruleset) (taken sources : List (List ℕ)) (mine theirs text : List ℕ) → its ≢ rules →
    IsCollectionText its mine → IsBetterPart mine theirs text →
    AsGood rules taken sources → AsGood rules (taken ++ text ∷ []) (sources ++ [])
other_better its rules taken sources mine theirs text apart t b stands =
    good_joined rules taken sources (text ∷ []) [] stands
    (other_good its rules text apart (part_text its mine theirs text b (better_named its mine theirs text t b)))

better_good : (its rules : Ruleset) (taken sources more : List (List ℕ)) (mine theirs text : List ℕ) → IsCollectionText its mine →
    IsBetterPart mine theirs text →
    AsGood its (mine ∷ []) more → Covers its taken (theirs ∷ []) → AsGood rules taken sources →
    AsGood rules (taken ++ text ∷ []) (sources ++ of_ruleset its rules more)
better_good Lynx Lynx taken sources more mine theirs text t b good covered stands = same_better Lynx taken sources more mine theirs text t b good covered stands
better_good Lynx Ms taken sources more mine theirs text t b good covered stands = other_better Lynx Ms taken sources mine theirs text lynx-apart t b stands
better_good Ms Lynx taken sources more mine theirs text t b good covered stands = other_better Ms Lynx taken sources mine theirs text ms-apart t b stands
better_good Ms Ms taken sources more mine theirs text t b good covered stands = same_better Ms taken sources more mine theirs text t b good covered stands

-- the archive's own copy is of the same ruleset, and the archive has all of it
own_covered : (copy own : Copy) (archive : ℕ) (text : List ℕ) (taken : ℕ → List (List ℕ)) → CopyStands taken copy → CopyStands taken own →
    own.archive ≡ archive →
    IsBetterPart copy.text own.text text → Covers copy.rules (taken archive) (own.text ∷ [])
own_covered copy own archive text taken c o own-is b =
    let same : own.rules ≡ copy.rules =
    sym (file_of own.rules own.text b.their_file o.is_text b.their_text) ∙ sym b.same ∙ file_of copy.rules copy.text b.my_file c.is_text b.my_text in
    subst (λ (k : Ruleset). Covers k (taken archive) (own.text ∷ [])) same
    (subst (λ (n : ℕ). Covers own.rules (taken n) (own.text ∷ [])) own-is o.own)

-- an archive has all of a copy
sources-stand : (archive : ℕ) (copy : Copy) (w : Archives) → Stands w →
    ((rules : Ruleset) → AsGood rules (w.taken archive) (w.sources rules archive ++ of_ruleset copy.rules rules copy.sources)) →
    Stands (with_sources archive copy w)
sources-stand archive copy w stands good = record {
  archives = λ rules here. sources_at rules archive here (archive == here) w.taken (w.sources rules) (of_ruleset copy.rules rules copy.sources) refl
      (stands.archives rules here) (good rules);
  copies = stands.copies;
}

-- ---- a step

step-stands : (e : Event) (w : Archives) → MayHappen e w → Stands w → Stands (happens e w)
step-stands (takes archive text) w may stands =
    text-stands archive text (λ rules. text ∷ []) w stands
    (λ rules. good_joined rules (w.taken archive) (w.sources rules archive) (text ∷ []) (text ∷ []) (stands.archives rules archive)
    (good_itself rules (text ∷ [])))
step-stands (fetches archive rules text) w may stands = record {
  archives = stands.archives;
  copies = λ copy has. elim (Contains-push_cases w.copies (copy_of w archive rules text) copy has) [
    | inl earlier ↦ stands.copies copy earlier
    | inr same ↦
        let good = best_good rules (w.taken archive) text may in
        let now : CopyStands w.taken (copy_of w archive rules text) = record {
          is_text = from_best rules (w.taken archive) text may;
          good = good_then rules (text ∷ []) (w.taken archive) (w.sources rules archive) good (stands.archives rules archive);
          own = good.1;
        } in
        subst (CopyStands w.taken) same now
  ];
}
step-stands (puts archive copy) w may stands =
    let c = stands.copies copy may in
    text-stands archive copy.text (λ rules. of_ruleset copy.rules rules copy.sources) w stands
    (λ rules. good_joined rules (w.taken archive) (w.sources rules archive) (copy.text ∷ []) (of_ruleset copy.rules rules copy.sources)
    (stands.archives rules archive)
    (copy_good copy.rules rules copy.text copy.sources c.is_text c.good))
step-stands (puts_better archive copy own text) w may stands =
    let c = stands.copies copy may.fetched in
    let o = stands.copies own may.own_fetched in
    text-stands archive text (λ rules. of_ruleset copy.rules rules copy.sources) w stands
    (λ rules. better_good copy.rules rules (w.taken archive) (w.sources rules archive) copy.sources copy.text own.text text c.is_text may.better c.good
    (own_covered copy own archive text w.taken c o may.own_is may.better) (stands.archives rules archive))
step-stands (skips archive copy own) w may stands =
    let c = stands.copies copy may.fetched in
    let o = stands.copies own may.own_fetched in
    let none = empty_text copy.rules in
    let better = nothing_part copy.rules copy.text own.text c.is_text may.nothing in
    sources-stand archive copy w stands
    (λ rules.
    good_then rules (w.taken archive) (w.taken archive ++ none ∷ []) (w.sources rules archive ++ of_ruleset copy.rules rules copy.sources)
    (good_back rules (w.taken archive ++ none ∷ []) (w.taken archive)
    (subst (AsGood rules (w.taken archive ++ none ∷ [])) (append-nil (w.taken archive))
    (good_joined rules (w.taken archive) (w.taken archive) (none ∷ []) [] (good_itself rules (w.taken archive)) (empty_good copy.rules rules))))
    (better_good copy.rules rules (w.taken archive) (w.sources rules archive) copy.sources copy.text own.text none c.is_text better c.good
    (own_covered copy own archive none w.taken c o may.own_is better) (stands.archives rules archive)))
step-stands (restarts archive) w may stands = stands

run-stands : (events : List Event) (w : Archives) → AllMayHappen events w → Stands w → Stands (run_from events w)
run-stands [] w may stands = stands
run-stands (e ∷ events) w may stands = run-stands events (happens e w) may.1 (step-stands e w may.0 stands)

start-stands : Stands start
start-stands = record { archives = λ rules here. good_itself rules []; copies = λ copy none. absurd (Contains-none copy none) }

-- what is taken is as good as the sources
pub run-good : (events : List Event) → AllMayHappen events start → (rules : Ruleset) (here : ℕ) →
    AsGood rules ((run events).taken here) ((run events).sources rules here)
run-good events may rules here = (run-stands events start may start-stands).archives rules here

-- a copy has the text of a collection of its ruleset
pub copy-text : (events : List Event) → AllMayHappen events start → (copy : Copy) → Contains (run events).copies copy →
    IsCollectionText copy.rules copy.text
copy-text events may copy has = ((run-stands events start may start-stands).copies copy has).is_text
