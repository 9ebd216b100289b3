-- What the text of a collection, and what of it is better, are as good as.
use Rattle.std.proofs.Common.{◌≡◌, ◌≢◌, ℕ, Bool, List, [], ◌∷◌, ◌++◌, refl, ap, sym, ◌∙◌, subst, inl, inr, append-nil}
use Rattle.std.specs.List.{Contains, AllByRecursion}
use Rattle.std.proofs.lemmas.List.Elements.{Contains-append_right, Contains-append_cases}
use Rattle.tws_file.specs.declared.key.Key.{Key}
use Rattle.tws_file.specs.declared.«ruleset».Ruleset.{Ruleset}
use Rattle.tws_file.specs.declared.«ruleset».Ruleset.TheVariants.{Lynx, Ms}
use Rattle.tws_file.specs.Text.{Record, IsRecord, File, IsText}
use Rattle.tws_file.proofs.FileText.{one_file}
use Rattle.tws_best.specs.Best.{KeyedBody, IsKeyedBody, IsSolutionIn, IsCollectionOf, Collected, IsCollected, collection_text, solved_in, solved_by, solutions_of, IsBestOver}
use Rattle.tws_best.specs.Choice.{best_of}
use Rattle.tws_best.proofs.Members.{Contains-none, Contains-here, Contains-cases, all_at, all_from}
use Rattle.tws_best.proofs.Bests.{own_best, held_itself, held_in}
use Rattle.tws_best.proofs.Choices.{best_of_is}
use Rattle.tws_best.proofs.Sets.{own_collection, no_texts}
use Rattle.tws_best.proofs.Collections.{best-collected}
use Rattle.tws_best.proofs.Taking.{solved_entries}
use Rattle.tws_best.proofs.Texts.{own_solutions, file_from, is_text, file_rules}
use Rattle.tws_compare.specs.Standing.{standing_at, is_improvement}
use Rattle.tws_compare.specs.Compare.{best_in, sides_of, better_entries, better_of}
use Rattle.tws_compare.proofs.Choosing.{rising_kept}
use Rattle.tws_compare.proofs.Filters.{from_kept}
use Rattle.tws_compare.proofs.Improving.{file_enough}
use Rattle.tws_compare.specs.Part.{IsBetterPart, HasNothingBetter}
use Rattle.archive_mirrors.proofs.Covering.{Holds, holds_then, holds_best, Covers, AsGood, more_cover, covers_then, covers_both, left_covers, right_covers, collection_good}

-- ---- the text of a collection

-- the text is that of some collection of this ruleset
pub record IsCollectionText (rules : Ruleset) (text : List ℕ) : Type 0 where
  pub collection : Collected
  pub rules_are : collection.ruleset ≡ rules
  pub fits : IsCollected collection
  pub text_is : text ≡ collection_text collection

pub from_best : (rules : Ruleset) (texts : List (List ℕ)) (text : List ℕ) → IsBestOver rules texts text → IsCollectionText rules text
from_best rules texts text best = record {
  collection = best.0;
  rules_are = best.1.ruleset_is;
  fits = best-collected rules texts best.0 best.1;
  text_is = best.2;
}

-- its collection is the one over the text
own_text : (rules : Ruleset) (c : Collected) (text : List ℕ) → c.ruleset ≡ rules → IsCollected c → text ≡ collection_text c →
    IsCollectionOf rules (text ∷ []) c
own_text rules c text rules_are fits text_is =
    subst (λ (k : Ruleset). IsCollectionOf k (text ∷ []) c) rules_are
    (subst (λ (t : List ℕ). IsCollectionOf c.ruleset (t ∷ []) c) (sym text_is) (own_collection c fits))

-- the text of a collection over texts is as good as these
pub best_good : (rules : Ruleset) (texts : List (List ℕ)) (text : List ℕ) → IsBestOver rules texts text → AsGood rules (text ∷ []) texts
best_good rules texts text best =
    collection_good rules (text ∷ []) texts best.0 (own_text rules best.0 text best.1.ruleset_is (best-collected rules texts best.0 best.1) best.2) best.1

-- a file with this text is of the ruleset
pub file_of : (rules : Ruleset) (text : List ℕ) (f : File) → IsCollectionText rules text → IsText text f → f.ruleset ≡ rules
file_of rules text f t is =
    let same : f ≡ file_from t.collection t.fits =
    one_file text f (file_from t.collection t.fits) is
    (subst (λ (x : List ℕ). IsText x (file_from t.collection t.fits)) (sym t.text_is) (is_text t.collection t.fits)) in
    ap (λ (g : File). g.ruleset) same ∙ file_rules t.collection t.fits ∙ t.rules_are

none_by : (rules named : Ruleset) (rs : List Record) → named ≢ rules → solved_by rules named rs ≡ []
none_by Lynx Lynx rs apart = absurd (apart refl)
none_by Lynx Ms rs apart = refl
none_by Ms Lynx rs apart = refl
none_by Ms Ms rs apart = absurd (apart refl)

-- it has no solutions of the other ruleset
pub other_good : (rules other : Ruleset) (text : List ℕ) → rules ≢ other → IsCollectionText rules text → AsGood other (text ∷ []) []
other_good rules other text apart t = (
  more_cover other [] (text ∷ []) (λ x has. absurd (Contains-none x has)),
  (λ f s. elim (Contains-cases text [] s.text s.among) [
    | inl same ↦
        let named : s.file.ruleset ≡ rules = file_of rules text s.file t (subst (λ (x : List ℕ). IsText x s.file) (sym same) s.is_text) in
        let none : solutions_of other (s.file ∷ []) ≡ [] =
        append-nil (solved_by other s.file.ruleset s.file.records) ∙ none_by other s.file.ruleset s.file.records (λ is. apart (sym named ∙ is)) in
        absurd (Contains-none f (subst (λ (es : List KeyedBody). Contains es f) none s.present))
    | inr none ↦ absurd (Contains-none s.text none)
  ]),
)

-- ---- a collection that has nothing

abbrev empty : Ruleset → Collected
empty rules = record { «ruleset» = rules; entries = [] }

abbrev pub empty_text : Ruleset → List ℕ
empty_text rules = collection_text (empty rules)

empty_is : (rules : Ruleset) → IsCollectionText rules (empty_text rules)
empty_is rules = record { collection = empty rules; rules_are = refl; fits = record { rising = tt; solved = tt }; text_is = refl }

empty_same : (rules : Ruleset) → AsGood rules (empty_text rules ∷ []) []
empty_same rules =
    collection_good rules (empty_text rules ∷ []) [] (empty rules) (own_text rules (empty rules) (empty_text rules) refl (record { rising = tt; solved = tt }) refl)
    (no_texts rules (empty rules) refl refl)

-- its text is as good as none, for either ruleset
pub empty_good : (its rules : Ruleset) → AsGood rules (empty_text its ∷ []) []
empty_good Lynx Lynx = empty_same Lynx
empty_good Lynx Ms = other_good Lynx Ms (empty_text Lynx) (λ is. cc) (empty_is Lynx)
empty_good Ms Lynx = other_good Ms Lynx (empty_text Ms) (λ is. cc) (empty_is Ms)
empty_good Ms Ms = empty_same Ms

-- ---- one file

all_solutions : (rules : Ruleset) (f : File) → f.ruleset ≡ rules → solutions_of rules (f ∷ []) ≡ solved_in f.records
all_solutions rules f is =
    append-nil (solved_by rules f.ruleset f.records) ∙ ap (λ (k : Ruleset). solved_by rules k f.records) is ∙ own_solutions rules f.records

-- the solutions of the text are those of its file
text_solves : (rules : Ruleset) (text : List ℕ) (f : File) → IsText text f → f.ruleset ≡ rules → (e : KeyedBody) →
    IsSolutionIn rules (text ∷ []) e → Contains (solved_in f.records) e
text_solves rules text f is named e s = elim (Contains-cases text [] s.text s.among) [
  | inl same ↦
      let one : s.file ≡ f = one_file text s.file f (subst (λ (x : List ℕ). IsText x s.file) (sym same) s.is_text) is in
      subst (λ (es : List KeyedBody). Contains es e) (ap (λ (g : File). solutions_of rules (g ∷ [])) one ∙ all_solutions rules f named) s.present
  | inr none ↦ absurd (Contains-none s.text none)
]

solves_text : (rules : Ruleset) (text : List ℕ) (f : File) → IsText text f → f.ruleset ≡ rules → (e : KeyedBody) →
    Contains (solved_in f.records) e → IsSolutionIn rules (text ∷ []) e
solves_text rules text f is named e has = record {
  text = text;
  among = Contains-here text [];
  file = f;
  is_text = is;
  present = subst (λ (es : List KeyedBody). Contains es e) (sym (all_solutions rules f named)) has;
}

-- ---- what is better

module _ (rules : Ruleset) (mine theirs text : List ℕ) (b : IsBetterPart mine theirs text) (named : b.my_file.ruleset ≡ rules) where
  abbrev part : Collected
  part = better_of b.my_file b.their_file

  abbrev is_better_at : Key → Bool
  is_better_at key = is_improvement (standing_at (sides_of b.my_file b.their_file) key)

  -- what is better is a solution of mine
  part_solved : (e : KeyedBody) → Contains part.entries e → Contains (solved_in b.my_file.records) e
  part_solved e has =
      ((best_of_is (solved_in b.my_file.records)).best e (from_kept (λ (d : KeyedBody). is_better_at d.key) (best_in b.my_file) e has).0).member

  part_fits : IsCollected part
  part_fits = record {
    rising = rising_kept is_better_at (best_in b.my_file) (best_of_is (solved_in b.my_file.records)).rising;
    solved = all_from IsKeyedBody part.entries
        (λ e has. all_at IsKeyedBody (solved_in b.my_file.records) e (solved_entries b.my_file.records b.my_text.fits.records) (part_solved e has));
  }

  pub part_text : IsCollectionText rules text
  part_text = record { collection = part; rules_are = named; fits = part_fits; text_is = b.text_is }

  -- mine has it all
  mine_covers : Covers rules (mine ∷ []) (text ∷ [])
  mine_covers =
      holds_then (IsSolutionIn rules (mine ∷ [])) (Contains part.entries) (IsSolutionIn rules (text ∷ []))
      (λ e has. held_itself (IsSolutionIn rules (mine ∷ [])) e (solves_text rules mine b.my_file b.my_text named e (part_solved e has)))
      (holds_best (Contains part.entries) (IsSolutionIn rules (text ∷ [])) part.entries (own_best part.entries part_fits.rising)
      (own_text rules part text named part_fits b.text_is).best)

  abbrev both : List (List ℕ)
  both = theirs ∷ text ∷ []

  abbrev IsPart : KeyedBody → Type 0
  IsPart = Contains (best_in b.their_file ++ better_entries (sides_of b.my_file b.their_file))

  abbrev IsAll : KeyedBody → Type 0
  IsAll = Contains (best_in b.their_file ++ solved_in b.my_file.records)

  -- theirs and what is better have all of it
  both_hold_part : Holds (IsSolutionIn rules both) IsPart
  both_hold_part e has = elim (Contains-append_cases (best_in b.their_file) part.entries e has) [
    | inl first ↦ left_covers rules (theirs ∷ []) (text ∷ []) e
        (solves_text rules theirs b.their_file b.their_text (sym b.same ∙ named) e ((best_of_is (solved_in b.their_file.records)).best e first).member)
    | inr second ↦ held_in (IsSolutionIn rules (text ∷ [])) (IsSolutionIn rules both)
        (λ f s. record { text = s.text; among = Contains-append_right (theirs ∷ []) (text ∷ []) s.text s.among; file = s.file; is_text = s.is_text; present = s.present }) e
        (holds_best (IsSolutionIn rules (text ∷ [])) (Contains part.entries) part.entries (own_text rules part text named part_fits b.text_is).best
        (own_best part.entries part_fits.rising) e second)
  ]

  -- and so what they have with all of mine
  part_holds_all : Holds IsPart IsAll
  part_holds_all =
      let few = best_of_is (best_in b.their_file ++ better_entries (sides_of b.my_file b.their_file)) in
      let es = best_of (best_in b.their_file ++ better_entries (sides_of b.my_file b.their_file)) in
      holds_best IsPart IsAll es few ((file_enough b.my_file b.their_file es).1 few)

  both_cover : Covers rules both (mine ∷ [])
  both_cover =
      holds_then (IsSolutionIn rules both) IsPart (IsSolutionIn rules (mine ∷ [])) both_hold_part
      (holds_then IsPart IsAll (IsSolutionIn rules (mine ∷ [])) part_holds_all
      (λ e s. held_itself IsAll e
      (Contains-append_right (best_in b.their_file) (solved_in b.my_file.records) e (text_solves rules mine b.my_file b.my_text named e s))))

  -- for texts that cover theirs, what is better is as good as all of mine
  pub part_good : (texts : List (List ℕ)) → Covers rules texts (theirs ∷ []) → AsGood rules (texts ++ text ∷ []) (texts ++ mine ∷ [])
  part_good texts covered =
      let few = texts ++ text ∷ [] in
      let many = texts ++ mine ∷ [] in (
        covers_both rules few texts (mine ∷ []) (left_covers rules texts (text ∷ []))
            (covers_then rules few both (mine ∷ [])
            (covers_both rules few (theirs ∷ []) (text ∷ []) (covers_then rules few texts (theirs ∷ []) (left_covers rules texts (text ∷ [])) covered)
            (right_covers rules texts (text ∷ [])))
            both_cover),
        covers_both rules many texts (text ∷ []) (left_covers rules texts (mine ∷ []))
            (covers_then rules many (mine ∷ []) (text ∷ []) (right_covers rules texts (mine ∷ [])) mine_covers),
      )

-- what is better of a collection is the text of one
pub better_named : (rules : Ruleset) (mine theirs text : List ℕ) → IsCollectionText rules mine → (b : IsBetterPart mine theirs text) →
    b.my_file.ruleset ≡ rules
better_named rules mine theirs text t b = file_of rules mine b.my_file t b.my_text

-- if nothing is better, that is the text of a collection that has nothing
pub nothing_part : (rules : Ruleset) (mine theirs : List ℕ) → IsCollectionText rules mine → HasNothingBetter mine theirs →
    IsBetterPart mine theirs (empty_text rules)
nothing_part rules mine theirs t b =
    let make : Ruleset → List KeyedBody → Collected = λ k es. record { «ruleset» = k; entries = es } in
    let named : b.my_file.ruleset ≡ rules = file_of rules mine b.my_file t b.my_text in
    let better : List KeyedBody = (better_of b.my_file b.their_file).entries in
    let is : make b.my_file.ruleset better ≡ make rules [] = ap (λ (k : Ruleset). make k better) named ∙ ap (make rules) b.none in
    record {
      my_file = b.my_file;
      their_file = b.their_file;
      my_text = b.my_text;
      their_text = b.their_text;
      same = b.same;
      text_is = sym (ap collection_text is);
    }
