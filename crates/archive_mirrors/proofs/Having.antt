-- Each event may happen with some text, and with one only.
use Rattle.std.proofs.Common.{◌≡◌, ◌⊎◌, ℕ, List, [], ◌∷◌, ◌++◌, refl, ap, sym, ◌∙◌, subst, inl, inr, append-nil, append_assoc, Bool, false, Option, Some, None}
use Rattle.tws_file.specs.declared.«ruleset».Ruleset.{Ruleset}
use Rattle.tws_file.specs.Text.{File, IsText, IsReadable}
use Rattle.tws_file.proofs.FileText.{one_file}
use Rattle.tws_best.specs.Best.{KeyedBody, Collected, IsCollectionOf, collection_text, solutions_of, IsBestOver}
use Rattle.tws_best.specs.Choice.{best_of}
use Rattle.tws_best.proofs.Choices.{best_of_is}
use Rattle.tws_best.proofs.Sets.{no_texts, one_more_text, one_more_unreadable}
use Rattle.tws_best.proofs.Texts.{file_from, is_text, file_rules}
use Rattle.tws_compare.specs.Standing.{body_at, standing_by, standing_of, standing_at, is_improvement}
use Rattle.tws_compare.specs.Compare.{best_in, sides_of, better_of}
use Rattle.tws_best.specs.Rank.{rank_of, ticks_of}
use Rattle.tws_best.specs.RankOrder.{rank_total}
use Rattle.std.specs.Cmp.{tied_itself}
use Rattle.std.specs.List.{filter}
use Rattle.std.specs.declared.cmp.Ordering.{Ordering}
use Rattle.tws_compare.specs.Part.{IsBetterPart, HasNothingBetter}
use Rattle.tws_reader.proofs.Readability.{readable_or_not}
use Rattle.archive_mirrors.proofs.Copies.{IsCollectionText}

-- ---- a collection over any texts

-- one more text
one_more : (rules : Ruleset) (texts : List (List ℕ)) (text : List ℕ) (c : Collected) → IsCollectionOf rules texts c →
    IsReadable text ⊎ (IsReadable text → ⊥) →
    (d : Collected) × IsCollectionOf rules (texts ++ text ∷ []) d
one_more rules texts text c of (inl readable) =
    let d : Collected = record { «ruleset» = c.ruleset; entries = best_of (c.entries ++ solutions_of c.ruleset (readable.0 ∷ [])) } in
    (d, one_more_text rules texts text readable.0 c d of readable.1 refl (best_of_is (c.entries ++ solutions_of c.ruleset (readable.0 ∷ []))))
one_more rules texts text c of (inr never) = (c, one_more_unreadable rules texts text c of never)

-- and further ones
over_more : (rules : Ruleset) (texts more : List (List ℕ)) (c : Collected) → IsCollectionOf rules texts c →
    (d : Collected) × IsCollectionOf rules (texts ++ more) d
over_more rules texts [] c of = (c, subst (λ (ts : List (List ℕ)). IsCollectionOf rules ts c) (sym (append-nil texts)) of)
over_more rules texts (text ∷ more) c of =
    let next = one_more rules texts text c of (readable_or_not text) in
    let all = over_more rules (texts ++ text ∷ []) more next.0 next.1 in
    (all.0, subst (λ (ts : List (List ℕ)). IsCollectionOf rules ts all.0) (append_assoc texts (text ∷ []) more) all.1)

pub some_best : (rules : Ruleset) (texts : List (List ℕ)) → (text : List ℕ) × IsBestOver rules texts text
some_best rules texts =
    let all = over_more rules [] texts (record { «ruleset» = rules; entries = [] }) (no_texts rules _ refl refl) in
    (collection_text all.0, (all.0, all.1, refl))

-- ---- what is better

pub some_better : (rules : Ruleset) (mine theirs : List ℕ) → IsCollectionText rules mine → IsCollectionText rules theirs →
    (text : List ℕ) × IsBetterPart mine theirs text
some_better rules mine theirs m t =
    let my_file = file_from m.collection m.fits in
    let their_file = file_from t.collection t.fits in (
      collection_text (better_of my_file their_file),
      record {
        my_file = my_file;
        their_file = their_file;
        my_text = subst (λ (x : List ℕ). IsText x my_file) (sym m.text_is) (is_text m.collection m.fits);
        their_text = subst (λ (x : List ℕ). IsText x their_file) (sym t.text_is) (is_text t.collection t.fits);
        same = file_rules m.collection m.fits ∙ m.rules_are ∙ sym t.rules_are ∙ sym (file_rules t.collection t.fits);
        text_is = refl;
      },
    )

pub one_better : (mine theirs x y : List ℕ) → IsBetterPart mine theirs x → IsBetterPart mine theirs y → x ≡ y
one_better mine theirs x y first second =
    let my_file : first.my_file ≡ second.my_file = one_file mine first.my_file second.my_file first.my_text second.my_text in
    let their_file : first.their_file ≡ second.their_file = one_file theirs first.their_file second.their_file first.their_text second.their_text in
    first.text_is ∙ ap (λ (f : File). collection_text (better_of f first.their_file)) my_file ∙ ap
    (λ (f : File). collection_text (better_of second.my_file f)) their_file ∙ sym second.text_is

-- ---- nothing better

equal_no_better : (o : Option (List ℕ)) → is_improvement (standing_of o o) ≡ false
equal_no_better None = refl
equal_no_better (Some body) = ap (λ (r : Ordering). is_improvement (standing_by r (ticks_of body) (ticks_of body))) (tied_itself rank_total (rank_of body))

none_kept : {X : Type 0} (test : X → Bool) (xs : List X) → ((x : X) → test x ≡ false) → filter test xs ≡ []
none_kept test [] never = refl
none_kept test (x ∷ xs) never = rw (never x) (none_kept test xs never)

-- nothing of a collection is better than the same collection
pub nothing_itself : (rules : Ruleset) (text : List ℕ) → IsCollectionText rules text → HasNothingBetter text text
nothing_itself rules text t =
    let file = file_from t.collection t.fits in
    let is : IsText text file = subst (λ (x : List ℕ). IsText x file) (sym t.text_is) (is_text t.collection t.fits) in
    record {
      my_file = file;
      their_file = file;
      my_text = is;
      their_text = is;
      same = refl;
      none = none_kept (λ (e : KeyedBody). is_improvement (standing_at (sides_of file file) e.key)) (best_in file)
          (λ e. equal_no_better (body_at (best_in file) e.key));
    }
