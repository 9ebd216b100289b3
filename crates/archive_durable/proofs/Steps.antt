-- What each call makes of the collections in a folder.
use Rattle.std.proofs.Common.{◌≡◌, ◌≢◌, ◌⊎◌, ℕ, List, Option, Some, Bool, true, false, refl, sym, subst, inl, inr}
use Rattle.tws_file.specs.declared.«ruleset».Ruleset.{Ruleset}
use Rattle.tws_file.specs.declared.«ruleset».Ruleset.TheVariants.{Lynx, Ms}
use Rattle.tws_best.specs.Best.{collection_text}
use Rattle.folders.specs.Folder.{FolderModel, Stays}
use Rattle.archive_table.specs.Table.{Maps, map_of}
use Rattle.archive_table.specs.Keeper.{IsLoaded}
use Rattle.archive_keepers.specs.Names.{kept_name}
use Rattle.archive_keepers.proofs.Apart.{kept_is_no_draft}
use Rattle.archive_model.specs.World.{maps_found}
use Rattle.archive_durable.specs.Crashes.{Replacing, StayKept, OnlyChanges, KeepsChange, RefusesKeep, HasCollections, StartsWith, MayRemain, Finds}
use Rattle.archive_durable.proofs.Loaded.{by_ruleset, of_both, pick, LoadsPair, LoadsEither, pair-either}

kept_differ : (other rules : Ruleset) → other ≢ rules → kept_name other ≢ kept_name rules
kept_differ Lynx Lynx differs = λ e. differs refl
kept_differ Lynx Ms differs = λ e. cc
kept_differ Ms Lynx differs = λ e. cc
kept_differ Ms Ms differs = λ e. differs refl

module _ {D : Type 0} (m : FolderModel D) where
  -- ---- a start

  -- what a start reads, and a crash then leaves
  pub start-has : (folder : D) (text : Ruleset → Option (List ℕ)) (maps : Maps) → StartsWith m folder text →
      ((rules : Ruleset) → IsLoaded rules (text rules) (map_of rules maps)) → HasCollections m folder maps
  start-has folder text maps starts loads =
      record {
        read = λ rules found is. subst (λ (o : Option (List ℕ)). IsLoaded rules o (map_of rules maps)) (sym (starts.read rules found is)) (loads rules);
        left = λ rules found is. subst (λ (o : Option (List ℕ)). IsLoaded rules o (map_of rules maps)) (sym (starts.left rules found is)) (loads rules);
      }

  module _ (d e : D) (old : Maps) (has : HasCollections m d old) where
    -- ---- no keep

    -- the folder still has the collections
    pub stay-has : StayKept m d e → HasCollections m e old
    stay-has stay =
        record {
          read = λ rules text is. has.read rules text ((stay rules).possible.now text is);
          left = λ rules text is. has.left rules text ((stay rules).possible.left text is);
        }

    -- and a crash at any moment left them
    pub stay-since : StayKept m d e → (lynx ms : Option (List ℕ)) → m.left_since e (m.moment d) (kept_name Lynx) lynx →
        m.left_since e (m.moment d) (kept_name Ms) ms → LoadsPair (pick lynx ms) old
    stay-since stay lynx ms is_lynx is_ms =
        of_both (λ r. IsLoaded r (pick lynx ms r) (map_of r old)) (has.left Lynx lynx ((stay Lynx).each lynx is_lynx))
        (has.left Ms ms ((stay Ms).each ms is_ms))

    -- so does a crash now
    pub now-pair : (lynx ms : Option (List ℕ)) → m.leaves d (kept_name Lynx) lynx → m.leaves d (kept_name Ms) ms → LoadsPair (pick lynx ms) old
    now-pair lynx ms is_lynx is_ms =
        of_both (λ r. IsLoaded r (pick lynx ms r) (map_of r old)) (has.left Lynx lynx is_lynx) (has.left Ms ms is_ms)

    -- a start after a crash between two steps
    remains_loads : (rules : Ruleset) (text : Option (List ℕ)) → MayRemain m d (m.moment d) rules text → IsLoaded rules text (map_of rules old)
    remains_loads rules text (inl read) = has.read rules text read
    remains_loads rules text (inr left) = has.left rules text (m.only_now d (kept_name rules) text left)

    pub finds-has : Finds m d (m.moment d) e → HasCollections m e old
    finds-has finds =
        record {
          read = λ rules text is. remains_loads rules text (finds.read rules text is);
          left = λ rules text is. remains_loads rules text (finds.left rules text is);
        }

    -- ---- a keep

    others_stay : (rules : Ruleset) (text : List ℕ) → Replacing m d e rules text → (other : Ruleset) → other ≢ rules → Stays m d e (kept_name other)
    others_stay rules text r other differs = r.others (kept_name other) (kept_differ other rules differs) (kept_is_no_draft other rules)

    -- one that is refused
    pub refused-stay : RefusesKeep m d e → StayKept m d e
    refused-stay k =
        by_ruleset (λ r. Stays m d e (kept_name r)) k.rules k.refused.1 (others_stay k.rules k.text k.refused.0)

    -- one of what changed
    pub kept-has : (new : Maps) (k : KeepsChange m old new d e) →
        IsLoaded k.rules (Some (collection_text (map_of k.rules new))) (map_of k.rules new) → HasCollections m e new
    kept-has new k own =
        let stay = others_stay k.rules (collection_text (map_of k.rules new)) k.kept.0 in
        record {
          read = by_ruleset (λ r. (text : Option (List ℕ)) → m.reads e (kept_name r) text → IsLoaded r text (map_of r new)) k.rules
              (λ text is. subst (λ (o : Option (List ℕ)). IsLoaded k.rules o (map_of k.rules new)) (sym (k.kept.1.now text is)) own)
              (λ other differs text is. subst (IsLoaded other text) (sym (k.only other differs)) (has.read other text ((stay other differs).possible.now text is)));
          left = by_ruleset (λ r. (text : Option (List ℕ)) → m.leaves e (kept_name r) text → IsLoaded r text (map_of r new)) k.rules
              (λ text is. subst (λ (o : Option (List ℕ)). IsLoaded k.rules o (map_of k.rules new)) (sym (k.kept.1.left text is)) own)
              (λ other differs text is. subst (IsLoaded other text) (sym (k.only other differs)) (has.left other text ((stay other differs).possible.left text is)));
        }

    -- any keep, of a collection of these
    module _ (tried : Maps) (rules : Ruleset) (only : OnlyChanges rules old tried)
        (own : IsLoaded rules (Some (collection_text (map_of rules tried))) (map_of rules tried))
        (r : Replacing m d e rules (collection_text (map_of rules tried))) where
      new_text : (text : Option (List ℕ)) → text ≡ Some (collection_text (map_of rules tried)) → IsLoaded rules text (map_of rules tried)
      new_text text is = subst (λ (o : Option (List ℕ)). IsLoaded rules o (map_of rules tried)) (sym is) own

      read_either : (text : Option (List ℕ)) → m.reads d (kept_name rules) text ⊎ (text ≡ Some (collection_text (map_of rules tried))) →
          LoadsEither rules text old tried
      read_either text (inl was) = inl (has.read rules text was)
      read_either text (inr is) = inr (new_text text is)

      left_either : (text : Option (List ℕ)) → m.leaves d (kept_name rules) text ⊎ (text ≡ Some (collection_text (map_of rules tried))) →
          LoadsEither rules text old tried
      left_either text (inl was) = inl (has.left rules text was)
      left_either text (inr is) = inr (new_text text is)

      -- a crash at any moment of it leaves the old collections or the new ones
      pub keep-since : (lynx ms : Option (List ℕ)) → m.left_since e (m.moment d) (kept_name Lynx) lynx →
          m.left_since e (m.moment d) (kept_name Ms) ms →
          LoadsPair (pick lynx ms) old ⊎ LoadsPair (pick lynx ms) tried
      keep-since lynx ms is_lynx is_ms =
          let since : (x : Ruleset) → m.left_since e (m.moment d) (kept_name x) (pick lynx ms x) =
          of_both (λ x. m.left_since e (m.moment d) (kept_name x) (pick lynx ms x)) is_lynx is_ms in
          pair-either (pick lynx ms) old tried rules only (left_either _ (r.any_moment.each _ (since rules)))
          (λ other differs. has.left other _ ((others_stay rules _ r other differs).each _ (since other)))

      -- and so does a start find them
      own_remains : (text : Option (List ℕ)) → MayRemain m e (m.moment d) rules text → LoadsEither rules text old tried
      own_remains text (inl read) = read_either text (r.any_moment.now text read)
      own_remains text (inr left) = left_either text (r.any_moment.each text left)

      other_remains : (other : Ruleset) → other ≢ rules → (text : Option (List ℕ)) → MayRemain m e (m.moment d) other text →
          IsLoaded other text (map_of other old)
      other_remains other differs text (inl read) = has.read other text ((others_stay rules _ r other differs).possible.now text read)
      other_remains other differs text (inr left) = has.left other text ((others_stay rules _ r other differs).each text left)

      found_by : (next : D) (text : Ruleset → Option (List ℕ)) → StartsWith m next text → LoadsPair text old ⊎ LoadsPair text tried →
          (found : Bool) × HasCollections m next (maps_found found old tried)
      found_by next text starts (inl pair) = (false, start-has next text old starts pair)
      found_by next text starts (inr pair) = (true, start-has next text tried starts pair)

      pub keep-found : (next : D) (text : Ruleset → Option (List ℕ)) → StartsWith m next text →
          ((x : Ruleset) → MayRemain m e (m.moment d) x (text x)) → (found : Bool) × HasCollections m next (maps_found found old tried)
      keep-found next text starts remains =
          found_by next text starts (pair-either text old tried rules only (own_remains (text rules) (remains rules))
          (λ other differs. other_remains other differs (text other) (remains other)))
