-- After a sync one archive has, for each solution that the other one had, one that is no worse.
use Rattle.std.proofs.Common.{ℕ, ◌≤◌, List, [], ◌∷◌, ◌++◌, take, drop, Option, None, Some, sym, subst}
use Rattle.std.specs.List.{Contains}
use Rattle.std.proofs.lemmas.List.{take-append-drop, take-take, take-map}
use Rattle.std.proofs.lemmas.List.Elements.{Contains-append_left}
use Rattle.tws_file.specs.declared.«ruleset».Ruleset.{Ruleset}
use Rattle.tws_best.specs.Best.{Collected, IsCollectionOf, IsSolutionIn, IsBestOver}
use Rattle.tws_best.proofs.Bests.{held_by_best}
use Rattle.tws_compare.specs.Part.{IsBetterPart}
use Rattle.archive_sync.specs.News.{IsPart}
use Rattle.archive_table.specs.Table.{Taken}
use Rattle.archive_model.specs.World.{World}
use Rattle.archive_theorem.specs.Headline.{files_of}
use Rattle.archive_mirrors.specs.Reaching.{IsNoWorse}
use Rattle.archive_mirrors.proofs.Covering.{Covers, holds_then, more_cover, covers_then, right_covers, good_itself, good_joined}
use Rattle.archive_mirrors.proofs.Copies.{from_best, best_good, part_good, better_named, empty_text, empty_good, nothing_part}
use Rattle.mirror_worlds.specs.Worlds.{Fetched}
use Rattle.mirror_worlds.specs.Syncs.{HasBoth, AreOf, put_of}

-- ---- the first of some texts are among them

taken_within : (n : ℕ) (xs : List (List ℕ)) (t : List ℕ) → Contains (take n xs) t → Contains xs t
taken_within n xs t has =
    subst (λ (ys : List (List ℕ)). Contains ys t) (take-append-drop n xs) (Contains-append_left (take n xs) (drop n xs) t has)

taken_more : (n m : ℕ) (xs : List (List ℕ)) (t : List ℕ) → n ≤ m → Contains (take n xs) t → Contains (take m xs) t
taken_more n m xs t few has =
    taken_within n (take m xs) t (subst (λ (ys : List (List ℕ)). Contains ys t) (sym (take-take n m xs few)) has)

files_within : (n : ℕ) (ts : List Taken) (t : List ℕ) → Contains (files_of (take n ts)) t → Contains (files_of ts) t
files_within n ts t has =
    taken_within n (files_of ts) t (subst (λ (ys : List (List ℕ)). Contains ys t) (sym (take-map (λ (u : Taken). u.file) n ts)) has)

files_more : (n m : ℕ) (ts : List Taken) (t : List ℕ) → n ≤ m → Contains (files_of (take n ts)) t → Contains (files_of (take m ts)) t
files_more n m ts t few has =
    subst (λ (ys : List (List ℕ)). Contains ys t) (take-map (λ (u : Taken). u.file) m ts)
    (taken_more n m (files_of ts) t few (subst (λ (ys : List (List ℕ)). Contains ys t) (sym (take-map (λ (u : Taken). u.file) n ts)) has))

-- ---- what is better, and these texts, cover what was fetched

module _ (rules : Ruleset) (texts earlier theirs : List (List ℕ)) (fetched old : List ℕ) (best : IsBestOver rules theirs fetched)
    (old_best : IsBestOver rules earlier old) (there : (t : List ℕ) → Contains earlier t → Contains texts t) where
  old_covered : Covers rules texts (old ∷ [])
  old_covered = covers_then rules texts earlier (old ∷ []) (more_cover rules earlier texts there) (best_good rules earlier old old_best).1

  with_part : (part : List ℕ) → IsBetterPart fetched old part → Covers rules (texts ++ part ∷ []) (fetched ∷ [])
  with_part part b =
      covers_then rules (texts ++ part ∷ []) (texts ++ fetched ∷ []) (fetched ∷ [])
      (part_good rules fetched old part b (better_named rules fetched old part (from_best rules theirs fetched best) b) texts old_covered).0
      (right_covers rules texts (fetched ∷ []))

  -- also if nothing is
  with_planned : (part : Option (List ℕ)) → IsPart fetched old part → Covers rules (texts ++ put_of part) (fetched ∷ [])
  with_planned (Some part) b = with_part part b
  with_planned None none =
      covers_then rules (texts ++ []) (texts ++ empty_text rules ∷ []) (fetched ∷ [])
      (good_joined rules texts texts (empty_text rules ∷ []) [] (good_itself rules texts) (empty_good rules rules)).1
      (with_part (empty_text rules) (nothing_part rules fetched old (from_best rules theirs fetched best) none))

  no_worse : (part : Option (List ℕ)) → IsPart fetched old part → (early after : List (List ℕ)) → ((t : List ℕ) → Contains early t → Contains theirs t) →
      ((t : List ℕ) → Contains (texts ++ put_of part) t → Contains after t) → (first last : Collected) → IsCollectionOf rules early first →
      IsCollectionOf rules after last → IsNoWorse first last
  no_worse part is early after some all first last of_first of_last e has =
      let covered : Covers rules after early =
      covers_then rules after (texts ++ put_of part) early (more_cover rules (texts ++ put_of part) after all)
      (covers_then rules (texts ++ put_of part) (fetched ∷ []) early (with_planned part is)
      (covers_then rules (fetched ∷ []) theirs early (best_good rules theirs fetched best).0 (more_cover rules early theirs some))) in
      holds_then (Contains last.entries) (IsSolutionIn rules after) (IsSolutionIn rules early)
      (λ d s. held_by_best (IsSolutionIn rules after) last.entries of_last.best d s) covered e (of_first.best.best e has).member

pub brings-all : (rules : Ruleset) (ws : ℕ → World) (here : ℕ) (f own : Fetched) (first second : List ℕ) → HasBoth ws here f own first second →
    (g : AreOf rules ws f own) (part : Option (List ℕ)) → IsPart first second part → (after : List (List ℕ)) →
    ((t : List ℕ) → Contains (files_of (ws here).taken ++ put_of part) t → Contains after t) → (old new : Collected) →
    IsCollectionOf rules (files_of (take g.theirs.finished.began.taken (ws f.archive).taken)) old → IsCollectionOf rules after new → IsNoWorse old new
brings-all rules ws here f own first second both g part is after all old new of_old of_new =
    let theirs = g.theirs.finished in
    let mine = g.mine.finished in
    let best = subst (λ (k : Ruleset). IsBestOver k (files_of (take theirs.opening.taken (ws f.archive).taken)) f.got.file) g.theirs.rules_are theirs.best in
    let own_best = subst (λ (k : Ruleset). IsBestOver k (files_of (take mine.opening.taken (ws own.archive).taken)) own.got.file) g.mine.rules_are mine.best in
    let part_is : IsPart f.got.file own.got.file part =
    subst (λ (x : List ℕ). IsPart x own.got.file part) (sym both.text_is) (subst (λ (y : List ℕ). IsPart first y part) (sym both.own_text_is) is) in
    no_worse rules (files_of (ws here).taken) (files_of (take mine.opening.taken (ws own.archive).taken))
    (files_of (take theirs.opening.taken (ws f.archive).taken)) f.got.file own.got.file best own_best
    (λ t has. subst (λ (n : ℕ). Contains (files_of (ws n).taken) t) both.own_is (files_within mine.opening.taken (ws own.archive).taken t has)) part part_is
    (files_of (take theirs.began.taken (ws f.archive).taken)) after
    (λ t has. files_more theirs.began.taken theirs.opening.taken (ws f.archive).taken t theirs.since has) all old new of_old of_new
