-- What a file that is taken does to the collections: they are the best over the files taken, and this one.
use Rattle.std.proofs.Common.{◌≡◌, ◌⊎◌, ℕ, List, [], ◌∷◌, ◌++◌, Contains, refl, ap, sym, ◌∙◌, subst, inl, inr, append-nil}
use Rattle.std.proofs.lemmas.List.{map-append}
use Rattle.tws_file.specs.declared.«ruleset».Ruleset.{Ruleset}
use Rattle.tws_file.specs.declared.«ruleset».Ruleset.TheVariants.{Lynx, Ms}
use Rattle.tws_file.specs.Text.{File, IsText, IsReadable}
use Rattle.tws_best.specs.Best.{KeyedBody, Collected, IsCollectionOf, IsBestOf, solutions_of, solved_by}
use Rattle.tws_best.proofs.Bests.{own_best}
use Rattle.tws_best.proofs.Sets.{one_more_text, one_more_unreadable}
use Rattle.archive_table.specs.Table.{Maps, Taken, IsFileMerge, MergesIntoOwn, IsMerged}
use Rattle.archive_theorem.specs.Headline.{files_of}
use Rattle.tws_reader.proofs.Readability.{readable_or_not}
use Rattle.archive_theorem.proofs.Claim_Invariant.{AreBest}

-- a file of this ruleset is merged into its collection
merging : (rules : Ruleset) (texts : List (List ℕ)) (text : List ℕ) (f : File) (old new : Collected) → IsCollectionOf rules texts old →
    IsText text f → IsFileMerge f old new → IsCollectionOf rules (texts ++ text ∷ []) new
merging rules texts text f old new best is joined = one_more_text rules texts text f old new best is joined.rules joined.best

-- a file without solutions of the ruleset leaves the collection as the best over one more text
pub stays : (rules : Ruleset) (texts : List (List ℕ)) (text : List ℕ) (f : File) (old new : Collected) → IsCollectionOf rules texts old →
    IsText text f → solutions_of old.ruleset (f ∷ []) ≡ [] → new ≡ old → IsCollectionOf rules (texts ++ text ∷ []) new
stays rules texts text f old new best is none same =
    let all : old.entries ++ solutions_of old.ruleset (f ∷ []) ≡ old.entries = ap (λ (es : List KeyedBody). old.entries ++ es) none ∙ append-nil old.entries in
    let kept : IsBestOf (Contains (old.entries ++ solutions_of old.ruleset (f ∷ []))) old.entries =
    subst (λ (es : List KeyedBody). IsBestOf (Contains es) old.entries) (sym all) (own_best old.entries best.best.rising) in
    subst (λ (c : Collected). IsCollectionOf rules (texts ++ text ∷ []) c) (sym same) (one_more_text rules texts text f old old best is refl kept)

-- an MS file has no solutions for the Lynx collection
pub other_lynx : (f : File) (c : Collected) → c.ruleset ≡ Lynx → f.ruleset ≡ Ms → solutions_of c.ruleset (f ∷ []) ≡ []
other_lynx f c rules other =
    ap (λ (r : Ruleset). solutions_of r (f ∷ [])) rules ∙ ap (λ (r : Ruleset). solved_by Lynx r f.records ++ []) other

-- a Lynx file has none for the MS collection
pub other_ms : (f : File) (c : Collected) → c.ruleset ≡ Ms → f.ruleset ≡ Lynx → solutions_of c.ruleset (f ∷ []) ≡ []
other_ms f c rules other =
    ap (λ (r : Ruleset). solutions_of r (f ∷ [])) rules ∙ ap (λ (r : Ruleset). solved_by Ms r f.records ++ []) other

module _ (texts : List (List ℕ)) (text : List ℕ) (old new : Maps) (lynx : IsCollectionOf Lynx texts old.lynx) (ms : IsCollectionOf Ms texts old.ms) where
  -- both collections are the best over all these
  abbrev Both : Type 0
  Both = IsCollectionOf Lynx (texts ++ text ∷ []) new.lynx × IsCollectionOf Ms (texts ++ text ∷ []) new.ms

  -- the text is a file's
  file_merges : (f : File) → IsText text f → (rules : Ruleset) → f.ruleset ≡ rules → MergesIntoOwn rules f old new → Both
  file_merges f is Lynx rules own =
      (merging Lynx texts text f old.lynx new.lynx lynx is own.0, stays Ms texts text f old.ms new.ms ms is (other_ms f old.ms ms.ruleset_is rules) own.1)
  file_merges f is Ms rules own =
      (stays Lynx texts text f old.lynx new.lynx lynx is (other_lynx f old.lynx lynx.ruleset_is rules) own.1, merging Ms texts text f old.ms new.ms ms is own.0)

  -- or it is not
  merged_by : IsMerged text old new → IsReadable text ⊎ (IsReadable text → ⊥) → Both
  merged_by merged (inl readable) = file_merges readable.0 readable.1 readable.0.ruleset refl (merged.readable readable.0 readable.1)
  merged_by merged (inr never) =
      let same : new ≡ old = merged.unreadable (λ f is. never (f, is)) in
      subst (λ (m : Maps). IsCollectionOf Lynx (texts ++ text ∷ []) m.lynx × IsCollectionOf Ms (texts ++ text ∷ []) m.ms) (sym same)
      (one_more_unreadable Lynx texts text old.lynx lynx never, one_more_unreadable Ms texts text old.ms ms never)

  -- in either case
  merged : IsMerged text old new → Both
  merged m = merged_by m (readable_or_not text)

-- the collections are the best over one more file
pub best-taken : (taken : List Taken) (t : Taken) (old new : Maps) → AreBest taken old → IsMerged t.file old new → AreBest (taken ++ t ∷ []) new
best-taken taken t old new best m =
    let both = merged (files_of taken) t.file old new best.lynx best.ms m in
    let files : files_of (taken ++ t ∷ []) ≡ files_of taken ++ t.file ∷ [] = map-append (λ (u : Taken). u.file) taken (t ∷ []) in
    record {
      lynx = subst (λ (fs : List (List ℕ)). IsCollectionOf Lynx fs new.lynx) (sym files) both.0;
      ms = subst (λ (fs : List (List ℕ)). IsCollectionOf Ms fs new.ms) (sym files) both.1;
    }
