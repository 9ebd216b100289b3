-- Files and texts as sets: order and repeats have no effect, and files may be merged one after the other.
use Rattle.std.proofs.Common.{◌≡◌, ◌⊎◌, ℕ, List, [], ◌∷◌, ◌++◌, refl, ap, sym, ◌∙◌, subst, inl, inr, append_assoc}
use Rattle.std.specs.List.{Contains}
use Rattle.std.proofs.lemmas.List.Elements.{Contains-append_left, Contains-append_right, Contains-append_cases, Contains-push, Contains-push_cases}
use Rattle.tws_file.specs.declared.«ruleset».Ruleset.{Ruleset}
use Rattle.tws_file.specs.Text.{File, IsText, IsReadable}
use Rattle.tws_file.proofs.FileText.{one_file}
use Rattle.tws_best.specs.Best.{KeyedBody, IsBestOf, IsSolutionIn, IsCollectionOf, Collected, IsCollected, collection_text, solved_by, solutions_of}
use Rattle.tws_best.proofs.Members.{Contains-none, Contains-here, Contains-there, Contains-cases}
use Rattle.tws_best.proofs.Texts.{file_from, is_text, file_solves}
use Rattle.tws_best.proofs.Bests.{widen, same_best, own_best, held_itself, held_in, held_by_best, best_present, one_map}

-- ---- the best of the best

-- the best of the best and of more are the best of all, and the other way round
pub best_of_best : (xs ys ms ns : List KeyedBody) → IsBestOf (Contains xs) ms → IsBestOf (Contains (ms ++ ys)) ns → IsBestOf (Contains (xs ++ ys)) ns
best_of_best xs ys ms ns of best =
    widen (Contains (ms ++ ys)) (Contains (xs ++ ys)) ns best
    (λ e has. elim (Contains-append_cases ms ys e has) [
      | inl first ↦ Contains-append_left xs ys e (of.best e first).member
      | inr second ↦ Contains-append_right xs ys e second
    ])
    (λ f has. elim (Contains-append_cases xs ys f has) [
      | inl first ↦ held_in (Contains ms) (Contains (ms ++ ys)) (λ e member. Contains-append_left ms ys e member) f (held_by_best (Contains xs) ms of f first)
      | inr second ↦ held_itself (Contains (ms ++ ys)) f (Contains-append_right ms ys f second)
    ])

-- the best of what is best and of more, which come last, are the best of all
pub best_of_all : (xs ys ms ns : List KeyedBody) → IsBestOf (Contains xs) ms → IsBestOf (Contains (xs ++ ys)) ns → IsBestOf (Contains (ms ++ ys)) ns
best_of_all xs ys ms ns of best =
    let wider : (e : KeyedBody) → Contains (ms ++ ys) e → Contains (xs ++ ys) e = λ e has. elim (Contains-append_cases ms ys e has) [
      | inl first ↦ Contains-append_left xs ys e (of.best e first).member
      | inr second ↦ Contains-append_right xs ys e second
    ] in
    record {
      rising = best.rising;
      best = λ e has.
          let b = best.best e has in
          record {
            member = elim (Contains-append_cases xs ys e b.member) [
              | inl first ↦ Contains-append_left ms ys e (best_present (Contains xs) ms e of (record { member = first; least = λ f few same. b.least f (Contains-append_left xs ys f few) same }))
              | inr second ↦ Contains-append_right ms ys e second
            ];
            least = λ f member same. b.least f (wider f member) same;
          };
      every = λ f member. best.every f (wider f member);
    }

-- ---- files

-- a solution of the files is a solution of one of them
record IsOfFile (rules : Ruleset) (files : List File) (e : KeyedBody) : Type 0 where
  file : File
  among : Contains files file
  present : Contains (solved_by rules file.ruleset file.records) e

-- a solution of the files is one of some file
of_file : (rules : Ruleset) (files : List File) (e : KeyedBody) → Contains (solutions_of rules files) e → IsOfFile rules files e
of_file rules [] e has = absurd (Contains-none e has)
of_file rules (file ∷ files) e has =
    let rest = of_file rules files e in
    elim (Contains-append_cases (solved_by rules file.ruleset file.records) (solutions_of rules files) e has) [
      | inl first ↦ (record { file = file; among = Contains-here file files; present = first })
      | inr later ↦ (let r = rest later in record { file = r.file; among = Contains-there file files r.file r.among; present = r.present })
    ]

-- and a solution of a file is one of the files
from_file : (rules : Ruleset) (files : List File) (file : File) (e : KeyedBody) → Contains files file → Contains (solved_by rules file.ruleset file.records) e → Contains (solutions_of rules files) e
from_file rules [] file e among present = absurd (Contains-none file among)
from_file rules (one ∷ files) file e among present =
    let rest = from_file rules files file e in
    elim (Contains-cases one files file among) [
      | inl same ↦ Contains-append_left (solved_by rules one.ruleset one.records) (solutions_of rules files) e
          (subst (λ (f : File). Contains (solved_by rules f.ruleset f.records) e) (sym same) present)
      | inr later ↦ Contains-append_right (solved_by rules one.ruleset one.records) (solutions_of rules files) e (rest later present)
    ]

-- more files have all the solutions that fewer have
files_there : (rules : Ruleset) (files more : List File) → ((f : File) → Contains files f → Contains more f) → (e : KeyedBody) →
    Contains (solutions_of rules files) e → Contains (solutions_of rules more) e
files_there rules files more there e has = let o = of_file rules files e has in from_file rules more o.file e (there o.file o.among) o.present

-- order and repeats of files have no effect
pub same_files : (rules : Ruleset) (files more : List File) (es : List KeyedBody) →
    ((f : File) → Contains files f → Contains more f) → ((f : File) → Contains more f → Contains files f) →
    IsBestOf (Contains (solutions_of rules files)) es → IsBestOf (Contains (solutions_of rules more)) es
same_files rules files more es there back best =
    same_best (Contains (solutions_of rules files)) (Contains (solutions_of rules more)) es best (files_there rules files more there) (files_there rules more files back)

-- ---- texts

-- more texts have all the solutions that fewer have
texts_there : (rules : Ruleset) (texts more : List (List ℕ)) → ((t : List ℕ) → Contains texts t → Contains more t) → (e : KeyedBody) → IsSolutionIn rules texts e → IsSolutionIn rules more e
texts_there rules texts more there e s = record { text = s.text; among = there s.text s.among; file = s.file; is_text = s.is_text; present = s.present }

-- order and repeats of texts have no effect on the collection
pub same_texts : (rules : Ruleset) (texts more : List (List ℕ)) (c : Collected) →
    ((t : List ℕ) → Contains texts t → Contains more t) → ((t : List ℕ) → Contains more t → Contains texts t) →
    IsCollectionOf rules texts c → IsCollectionOf rules more c
same_texts rules texts more c there back of = record {
  ruleset_is = of.ruleset_is;
  best = same_best (IsSolutionIn rules texts) (IsSolutionIn rules more) c.entries of.best (texts_there rules texts more there) (texts_there rules more texts back);
}

-- the collection over no texts is empty
pub no_texts : (rules : Ruleset) (c : Collected) → c.ruleset ≡ rules → c.entries ≡ [] → IsCollectionOf rules [] c
no_texts rules c ruleset_is none = record {
  ruleset_is = ruleset_is;
  best = subst (IsBestOf (IsSolutionIn rules [])) (sym none) (record { rising = tt; best = λ e has. absurd (Contains-none e has); every = λ f s. absurd (Contains-none s.text s.among) });
}

-- one more text loses no solution
wider : (rules : Ruleset) (texts : List (List ℕ)) (t : List ℕ) (e : KeyedBody) → IsSolutionIn rules texts e → IsSolutionIn rules (texts ++ t ∷ []) e
wider rules texts t = texts_there rules texts (texts ++ t ∷ []) (λ x among. Contains-append_left texts (t ∷ []) x among)

-- the solutions that one more text adds are those of its file
last_text : (rules : Ruleset) (texts : List (List ℕ)) (t : List ℕ) (f : File) (e : KeyedBody) → IsText t f →
    IsSolutionIn rules (texts ++ t ∷ []) e → IsSolutionIn rules texts e ⊎ Contains (solutions_of rules (f ∷ [])) e
last_text rules texts t f e text s =
    elim (Contains-push_cases texts t s.text s.among) [
      | inl earlier ↦ inl (record { text = s.text; among = earlier; file = s.file; is_text = s.is_text; present = s.present })
      | inr same ↦ inr (subst (λ (g : File). Contains (solutions_of rules (g ∷ [])) e) (one_file t s.file f (subst (λ (x : List ℕ). IsText x s.file) (sym same) s.is_text) text) s.present)
    ]

-- merging one more file
pub one_more_text : (rules : Ruleset) (texts : List (List ℕ)) (t : List ℕ) (f : File) (c d : Collected) →
    IsCollectionOf rules texts c → IsText t f → d.ruleset ≡ c.ruleset →
    IsBestOf (Contains (c.entries ++ solutions_of c.ruleset (f ∷ []))) d.entries → IsCollectionOf rules (texts ++ t ∷ []) d
one_more_text rules texts t f c d of text rules-is best =
    let solved = solutions_of rules (f ∷ []) in
    let few = Contains (c.entries ++ solved) in
    let merged : IsBestOf few d.entries = subst (λ (k : Ruleset). IsBestOf (Contains (c.entries ++ solutions_of k (f ∷ []))) d.entries) of.ruleset_is best in
    record {
      ruleset_is = rules-is ∙ of.ruleset_is;
      best = widen few (IsSolutionIn rules (texts ++ t ∷ [])) d.entries merged
          (λ e has. elim (Contains-append_cases c.entries solved e has) [
            | inl first ↦ wider rules texts t e (of.best.best e first).member
            | inr second ↦ (record { text = t; among = Contains-push texts t; file = f; is_text = text; present = second })
          ])
          (λ e member. elim (last_text rules texts t f e text member) [
            | inl first ↦ held_in (Contains c.entries) few (λ x has. Contains-append_left c.entries solved x has) e (held_by_best (IsSolutionIn rules texts) c.entries of.best e first)
            | inr second ↦ held_itself few e (Contains-append_right c.entries solved e second)
          ]);
    }

-- bytes that are not a file's text change nothing
pub one_more_unreadable : (rules : Ruleset) (texts : List (List ℕ)) (t : List ℕ) (c : Collected) → IsCollectionOf rules texts c → (IsReadable t → ⊥) → IsCollectionOf rules (texts ++ t ∷ []) c
one_more_unreadable rules texts t c of not = record {
  ruleset_is = of.ruleset_is;
  best = same_best (IsSolutionIn rules texts) (IsSolutionIn rules (texts ++ t ∷ [])) c.entries of.best (wider rules texts t)
      (λ e s. elim (Contains-push_cases texts t s.text s.among) [
        | inl earlier ↦ (record { text = s.text; among = earlier; file = s.file; is_text = s.is_text; present = s.present })
        | inr same ↦ absurd (not (s.file, subst (λ (x : List ℕ). IsText x s.file) (sym same) s.is_text))
      ]);
}

-- for the same texts there is one collection only
pub one_collection : (rules : Ruleset) (texts : List (List ℕ)) (c d : Collected) → IsCollectionOf rules texts c → IsCollectionOf rules texts d → c ≡ d
one_collection rules texts c d of_c of_d =
    let make : Ruleset → List KeyedBody → Collected = λ k es. record { «ruleset» = k; entries = es } in
    let rules-is : c.ruleset ≡ d.ruleset = of_c.ruleset_is ∙ sym of_d.ruleset_is in
    let entries = one_map (IsSolutionIn rules texts) c.entries d.entries of_c.best of_d.best in
    let whole : make c.ruleset c.entries ≡ make d.ruleset d.entries = cc in
    whole

-- a collection is the one over its own text
pub own_collection : (c : Collected) → IsCollected c → IsCollectionOf c.ruleset (collection_text c ∷ []) c
own_collection c fits =
    let text = collection_text c in
    let f = file_from c fits in
    record {
      ruleset_is = refl;
      best = same_best (Contains c.entries) (IsSolutionIn c.ruleset (text ∷ [])) c.entries (own_best c.entries fits.rising)
          (λ e has. record { text = text; among = Contains-here text []; file = f; is_text = is_text c fits; present = subst (λ (es : List KeyedBody). Contains es e) (sym (file_solves c fits)) has })
          (λ e s. elim (Contains-cases text [] s.text s.among) [
            | inl same ↦ (let one : s.file ≡ f = one_file text s.file f (subst (λ (x : List ℕ). IsText x s.file) (sym same) s.is_text) (is_text c fits) in
                subst (λ (es : List KeyedBody). Contains es e) (ap (λ (g : File). solutions_of c.ruleset (g ∷ [])) one ∙ file_solves c fits) s.present)
            | inr none ↦ absurd (Contains-none s.text none)
          ]);
    }

-- ---- collections beside one another

-- the order of two lists has no effect
swapped : (xs ys es : List KeyedBody) → IsBestOf (Contains (xs ++ ys)) es → IsBestOf (Contains (ys ++ xs)) es
swapped xs ys es of =
    let turn : (v w : List KeyedBody) (e : KeyedBody) → Contains (v ++ w) e → Contains (w ++ v) e = λ v w e has. elim (Contains-append_cases v w e has) [
      | inl first ↦ Contains-append_right w v e first
      | inr second ↦ Contains-append_left w v e second
    ] in
    same_best (Contains (xs ++ ys)) (Contains (ys ++ xs)) es of (turn xs ys) (turn ys xs)

-- The best of one list and of the best of two others are the best of all three, in the order in which a merge has them.
pub best_of_three : (cs rs ss rs2 ds es : List KeyedBody) → IsBestOf (Contains (cs ++ rs)) ds →
    IsBestOf (Contains (rs ++ ss)) rs2 → IsBestOf (Contains (cs ++ rs2)) es → IsBestOf (Contains (ds ++ ss)) es
best_of_three cs rs ss rs2 ds es first second all =
    let spread : IsBestOf (Contains ((rs ++ ss) ++ cs)) es = best_of_best (rs ++ ss) cs rs2 es second (swapped cs rs2 es all) in
    let together : IsBestOf (Contains ((cs ++ rs) ++ ss)) es = subst (λ (xs : List KeyedBody). IsBestOf (Contains xs) es) (sym (append_assoc cs rs ss)) (swapped (rs ++ ss) cs es spread) in
    best_of_all (cs ++ rs) ss ds es first together
