-- Finding the solutions among records.
use Rattle.std.proofs.Common.{◌≡◌, ℕ, ◌+◌, ◌<◌, List, [], ◌∷◌, ◌++◌, length, take, map, get_or, refl, ap, sym, ◌∙◌, append-nil}
use Rattle.std.proofs.lemmas.List.{take_more, map-append, map_push, map_more}
use Rattle.tws_file.specs.declared.record.Record as stored
use Rattle.tws_file.specs.declared.record.Record.TheVariants.{Pad, Set, Bare, Solution as Solved}
use Rattle.tws_file.specs.Text.{Record, Solution, pad, set, bare, solution}
use Rattle.tws_file.specs.Record.{record_of, records_of}
use Rattle.tws_best.specs.Best.{KeyedBody, keyed_body, solved_in}

pub solved_in-append : (rs ss : List Record) → solved_in (rs ++ ss) ≡ solved_in rs ++ solved_in ss
solved_in-append [] ss = refl
solved_in-append (pad ∷ rs) ss = solved_in-append rs ss
solved_in-append (set rest ∷ rs) ss = solved_in-append rs ss
solved_in-append (bare key ∷ rs) ss = solved_in-append rs ss
solved_in-append (solution s ∷ rs) ss = let rest = solved_in-append rs ss in cc

-- one more record
pub solved_more : {A : Type 0} (records : List (stored.Record A)) (i : ℕ) (one : stored.Record A) → i < length records →
    one ≡ get_or records i one → solved_in (records_of (take (i + 1) records)) ≡ solved_in (records_of (take i records)) ++
    solved_in (record_of one ∷ [])
solved_more records i one inside is =
    ap (λ rs. solved_in (records_of rs)) (take_more records i one inside ∙ ap (λ r. take i records ++ r ∷ []) (sym is))
    ∙ ap solved_in (map-append record_of (take i records) (one ∷ []))
    ∙ solved_in-append (records_of (take i records)) (record_of one ∷ [])

-- any other record has no solution
not_solved : {A : Type 0} (one : stored.Record A) → ((s : Solution) → one ≡ Solved s → ⊥) → solved_in (record_of one ∷ []) ≡ []
not_solved Pad not = refl
not_solved (Set rest) not = refl
not_solved (Bare key) not = refl
not_solved (Solved s) not = absurd (not s refl)

-- one more reference
pub mapped_push : {X : Type 0} (f : X → KeyedBody) (xs pushed ys : List X) (y : X) → ys ≡ pushed → pushed ≡ xs ++ y ∷ [] → map f ys ≡ map f xs ++ f y ∷ []
mapped_push f xs pushed ys y same is = ap (map f) same ∙ ap (map f) is ∙ map_push f xs y

-- one more solution
pub mapped_more : {X : Type 0} (f : X → KeyedBody) (xs : List X) (i : ℕ) (x : X) → i < length xs → x ≡ get_or xs i x → map f (take (i + 1) xs) ≡ map f (take i xs) ++ f x ∷ []
mapped_more f xs i x inside is = map_more f xs i x inside ∙ ap (λ y. map f (take i xs) ++ f y ∷ []) (sym is)

-- one more record, if the solutions before it were found
module _ {A : Type 0} (so_far before all items : List KeyedBody) (item : stored.Record A) (more : all ≡ so_far ++ solved_in (record_of item ∷ [])) (is_so_far : before ≡ so_far) where
  -- it is a solution, which comes last
  pub step_solution : (s : Solution) → item ≡ Solved s → items ≡ before ++ keyed_body s ∷ [] → items ≡ all
  step_solution s is items_is =
      items_is
      ∙ ap (λ (es : List KeyedBody). es ++ keyed_body s ∷ []) is_so_far
      ∙ ap (λ (r : stored.Record A). so_far ++ solved_in (record_of r ∷ [])) (sym is)
      ∙ sym more

  -- it is no solution, and nothing is added
  pub step_other : ((s : Solution) → item ≡ Solved s → ⊥) → items ≡ before → items ≡ all
  step_other not items_is =
      items_is ∙ is_so_far ∙ sym (append-nil so_far) ∙ ap (λ (es : List KeyedBody). so_far ++ es) (sym (not_solved item not)) ∙ sym more
