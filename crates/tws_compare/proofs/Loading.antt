-- What the collections over two files, and the comparison of these, come to.
use Rattle.std.proofs.Common.{◌≡◌, Bool, List, [], ◌∷◌, ◌++◌, map, filter, Result, Ok, Err, IfOk, refl, ap, subst, ◌∙◌, append-nil}
use Rattle.std.specs.List.{Contains}
use Rattle.tws_file.specs.declared.key.Key.{Key}
use Rattle.tws_file.specs.declared.«ruleset».Ruleset.{Ruleset}
use Rattle.tws_file.specs.declared.«ruleset».Ruleset.TheVariants.{Lynx, Ms}
use Rattle.tws_file.specs.Text.{File, Record}
use Rattle.tws_best.specs.Best.{KeyedBody, IsBestOf, Collected, solved_in, solved_by, solutions_of}
use Rattle.tws_best.specs.Choice.{best_of}
use Rattle.tws_best.proofs.Bests.{one_map}
use Rattle.tws_best.proofs.Choices.{best_of_is}
use Rattle.tws_compare.specs.declared.row.Row.{Row}
use Rattle.tws_compare.specs.Standing.{TwoSides, standing_at, is_improvement}
use Rattle.tws_compare.specs.Compare.{best_in, sides_of, keys_of, row_at, rows_of, better_entries, better_of, improves, improved_file}
use Rattle.tws_compare.proofs.Choosing.{solved_in-kept, best_of-kept}

own_solutions : (rules : Ruleset) (rs : List Record) → solved_by rules rules rs ≡ solved_in rs
own_solutions Lynx rs = refl
own_solutions Ms rs = refl

-- the collection over one file has the best of its solutions
pub loaded : (file : File) (es : List KeyedBody) → IsBestOf (Contains (solutions_of file.ruleset (file ∷ []))) es → es ≡ best_in file
loaded file es best =
    let all : solutions_of file.ruleset (file ∷ []) ≡ solved_in file.records = append-nil (solved_by file.ruleset file.ruleset file.records) ∙
    own_solutions file.ruleset file.records in
    one_map (Contains (solved_in file.records)) es (best_in file) (subst (λ (xs : List KeyedBody). IsBestOf (Contains xs) es) all best)
    (best_of_is (solved_in file.records))

-- ---- the rows

-- the rows at the keys of either file
pub rows_are : (mine theirs : File) (m t : List Record) (sides : TwoSides) (keys given : List Key) (rows : List Row) → m ≡ mine.records → t ≡
    theirs.records → sides ≡ sides_of mine theirs →
    keys ≡ keys_of (solved_in m ++ solved_in t) → given ≡ keys → rows ≡ map (row_at sides) given → rows ≡ rows_of mine theirs
rows_are mine theirs m t sides keys given rows m-is t-is sides-is keys-are same rows-are =
    let all : given ≡ keys_of (solved_in mine.records ++ solved_in theirs.records) =
    same ∙ keys-are ∙ ap (λ (rs : List Record). keys_of (solved_in rs ++ solved_in t)) m-is ∙
    ap (λ (rs : List Record). keys_of (solved_in mine.records ++ solved_in rs)) t-is in
    rows-are ∙ ap (λ (s : TwoSides). map (row_at s) given) sides-is ∙ ap (map (row_at (sides_of mine theirs))) all

-- ---- what is better

-- whether mine is better at a level
abbrev is_better_at : TwoSides → Key → Bool
is_better_at sides key = is_improvement (standing_at sides key)

-- the best of the file of improvements
best_in-improved : (sides : TwoSides) (mine : File) → best_in (improved_file sides mine) ≡ filter (λ e. is_better_at sides e.key) (best_in mine)
best_in-improved sides mine =
    ap best_of (solved_in-kept (is_better_at sides) (improves sides) (λ s. refl) mine.records) ∙ best_of-kept (is_better_at sides) (solved_in mine.records)

collected_is : (c d : Collected) → c.ruleset ≡ d.ruleset → c.entries ≡ d.entries → c ≡ d
collected_is c d rules entries =
    let make : Ruleset → List KeyedBody → Collected = λ k es. record { «ruleset» = k; entries = es } in
    let whole : make c.ruleset c.entries ≡ make d.ruleset d.entries = cc in
    whole

-- the collection over the file of improvements
pub better_is : (mine theirs file : File) (sides : TwoSides) (c : Collected) → sides ≡ sides_of mine theirs → file ≡ improved_file sides mine →
    c.ruleset ≡ file.ruleset →
    IsBestOf (Contains (solutions_of file.ruleset (file ∷ []))) c.entries → c ≡ better_of mine theirs
better_is mine theirs file sides c sides-is file-is rules best =
    let rules-is : c.ruleset ≡ mine.ruleset = rules ∙ ap (λ (f : File). f.ruleset) file-is in
    let entries : c.entries ≡ better_entries (sides_of mine theirs) =
    loaded file c.entries best ∙ ap best_in file-is ∙ best_in-improved sides mine ∙
    ap (λ (s : TwoSides). filter (λ e. is_better_at s e.key) (best_in mine)) sides-is in
    collected_is c (better_of mine theirs) rules-is entries

-- two facts of the value that is there
pub if_ok_both : {T E : Type 0} {P Q R : T → Type 0} (r : Result T E) → ((x : T) → P x → Q x → R x) → IfOk r P → IfOk r Q → IfOk r R
if_ok_both (Ok x) f p q = f x p q
if_ok_both (Err e) f p q = tt
