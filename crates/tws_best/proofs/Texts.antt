-- A collection's text is a file's text, and that file's best is the collection.
use Rattle.std.proofs.Common.{◌≡◌, ℕ, zero, suc, ◌<◌, List, [], ◌∷◌, ◌++◌, slice_index, refl, ap, sym, ◌∙◌, subst, arith, append-nil}
use Rattle.std.specs.List.{flat_map, AllByRecursion, Contains}
use Rattle.tws_file.specs.declared.«ruleset».Ruleset.{Ruleset}
use Rattle.tws_file.specs.declared.«ruleset».Ruleset.TheVariants.{Lynx, Ms}
use Rattle.tws_file.specs.Text.{Record, solution, File, IsRecord, IsText, record_text, header_text}
use Rattle.tws_file.proofs.FileText.{one_file}
use Rattle.tws_best.specs.Best.{KeyedBody, IsKeyedBody, keyed_body_text, solved_in, solved_by, solutions_of, IsBestOf, Collected, IsCollected, collection_text}
use Rattle.tws_best.proofs.Bests.{own_best, one_map}

-- the records of these entries
records_from : (es : List KeyedBody) → AllByRecursion IsKeyedBody es → List Record
records_from [] fits = []
records_from (e ∷ es) fits = solution fits.0.solved ∷ records_from es fits.1

-- they are records
records_fit : (es : List KeyedBody) (fits : AllByRecursion IsKeyedBody es) → AllByRecursion IsRecord (records_from es fits)
unfolding records_from
records_fit [] fits = tt
records_fit (e ∷ es) fits = (fits.0.fits, records_fit es fits.1)

-- their solutions are these entries
records_solve : (es : List KeyedBody) (fits : AllByRecursion IsKeyedBody es) → solved_in (records_from es fits) ≡ es
unfolding records_from
records_solve [] fits = refl
records_solve (e ∷ es) fits = let first = fits.0.is in let rest = records_solve es fits.1 in cc

-- their texts are those of the entries
records_text : (es : List KeyedBody) (fits : AllByRecursion IsKeyedBody es) → flat_map record_text (records_from es fits) ≡ flat_map keyed_body_text es
unfolding records_from
records_text [] fits = refl
records_text (e ∷ es) fits =
    ap (λ (d : KeyedBody). keyed_body_text d ++ flat_map record_text (records_from es fits.1)) (sym fits.0.is)
    ∙ ap (λ (x : List ℕ). keyed_body_text e ++ x) (records_text es fits.1)

no_bytes : (i : ℕ) → slice_index [] i < 256
no_bytes i = omega arith

two_zeros : (i : ℕ) → slice_index (0 ∷ 0 ∷ []) i < 256
two_zeros zero = omega arith
two_zeros (suc zero) = omega arith
two_zeros (suc (suc i)) = omega arith

-- the file whose text a collection's text is
pub file_from : (c : Collected) → IsCollected c → File
file_from c fits = record { «ruleset» = c.ruleset; word = 0 ∷ 0 ∷ []; extra = []; records = records_from c.entries fits.solved }

-- the collection's text is that file's
pub is_text : (c : Collected) (fits : IsCollected c) → IsText (collection_text c) (file_from c fits)
unfolding file_from
is_text c fits = record {
  fits = record { word = two_zeros; word_length = refl; extra = no_bytes; extra_length = omega arith; records = records_fit c.entries fits.solved };
  text = ap (λ (x : List ℕ). header_text c.ruleset (0 ∷ 0 ∷ []) [] ++ x) (sym (records_text c.entries fits.solved));
}

-- the solutions of a ruleset among records of that ruleset
pub own_solutions : (rules : Ruleset) (rs : List Record) → solved_by rules rules rs ≡ solved_in rs
own_solutions Lynx rs = refl
own_solutions Ms rs = refl

-- its solutions are the collection's entries
pub file_solves : (c : Collected) (fits : IsCollected c) → solutions_of c.ruleset (file_from c fits ∷ []) ≡ c.entries
unfolding file_from
file_solves c fits =
    append-nil (solved_by c.ruleset c.ruleset (records_from c.entries fits.solved)) ∙ own_solutions c.ruleset (records_from c.entries fits.solved) ∙ records_solve c.entries fits.solved

-- its ruleset is the collection's
pub file_rules : (c : Collected) (fits : IsCollected c) → (file_from c fits).ruleset ≡ c.ruleset
unfolding file_from
file_rules c fits = refl

collected_is : (c d : Collected) → c.ruleset ≡ d.ruleset → c.entries ≡ d.entries → c ≡ d
collected_is c d rules entries =
    let make : Ruleset → List KeyedBody → Collected = λ k es. record { «ruleset» = k; entries = es } in
    let whole : make c.ruleset c.entries ≡ make d.ruleset d.entries = cc in
    whole

-- the best of the file with a collection's text are the collection
pub read_back : (c d : Collected) (f : File) → IsCollected c → IsText (collection_text c) f → d.ruleset ≡ f.ruleset → IsBestOf (Contains (solutions_of f.ruleset (f ∷ []))) d.entries → d ≡ c
read_back c d f fits text rules best =
    let same : f ≡ file_from c fits = one_file (collection_text c) f (file_from c fits) text (is_text c fits) in
    let rules-is : d.ruleset ≡ c.ruleset = rules ∙ ap (λ (g : File). g.ruleset) same ∙ file_rules c fits in
    let solves : solutions_of f.ruleset (f ∷ []) ≡ c.entries = ap (λ (g : File). solutions_of g.ruleset (g ∷ [])) same ∙
    ap (λ k. solutions_of k (file_from c fits ∷ [])) (file_rules c fits) ∙ file_solves c fits in
    let of : IsBestOf (Contains c.entries) d.entries = subst (λ (es : List KeyedBody). IsBestOf (Contains es) d.entries) solves best in
    collected_is d c rules-is (one_map (Contains c.entries) d.entries c.entries of (own_best c.entries fits.rising))
