-- A file of the other ruleset has nothing for a collection; all solutions of one of the same are for it.
use Rattle.std.proofs.Common.{◌≡◌, true, false, List, [], ◌++◌, refl, ap, sym, ◌∙◌, subst, not, append-nil}
use Rattle.std.specs.List.{Contains}
use denote.Enum.Bare.{sameb}
use Rattle.tws_file.specs.contracts.«ruleset».Ruleset.{the_type}
use Rattle.tws_file.specs.declared.«ruleset».Ruleset.{Ruleset}
use Rattle.tws_file.specs.declared.«ruleset».Ruleset.TheVariants.{Lynx, Ms}
use Rattle.tws_file.specs.Text.{Record}
use Rattle.tws_best.specs.Best.{KeyedBody, IsRising, IsBestOf, solved_in, solved_by}
use Rattle.tws_best.proofs.Bests.{own_best}

-- a file of the other ruleset has no solution of this one
nothing : (j k : Ruleset) (rs : List Record) → not (sameb the_type j k) ≡ true → solved_by j k rs ≡ []
nothing Lynx Lynx rs e = absurd cc
nothing Lynx Ms rs e = refl
nothing Ms Lynx rs e = refl
nothing Ms Ms rs e = absurd cc

own : (j k : Ruleset) (rs : List Record) → not (sameb the_type j k) ≡ false → solved_by j k rs ≡ solved_in rs
own Lynx Lynx rs e = refl
own Lynx Ms rs e = absurd cc
own Ms Lynx rs e = absurd cc
own Ms Ms rs e = refl

alike : (j k : Ruleset) → not (sameb the_type j k) ≡ false → k ≡ j
alike Lynx Lynx e = refl
alike Lynx Ms e = absurd cc
alike Ms Lynx e = absurd cc
alike Ms Ms e = refl

-- a file of the same ruleset
pub same_rules : (j k other rules : Ruleset) → j ≡ rules → k ≡ other → not (sameb the_type j k) ≡ false → other ≡ rules
same_rules j k other rules j-is k-is same = sym k-is ∙ alike j k same ∙ j-is

pub own_best_of : (es new : List KeyedBody) (j k other rules : Ruleset) (rs : List Record) → j ≡ rules → k ≡ other →
    not (sameb the_type j k) ≡ false → IsBestOf (Contains (es ++ solved_in rs)) new →
    IsBestOf (Contains (es ++ (solved_by rules other rs ++ []))) new
own_best_of es new j k other rules rs j-is k-is same best =
    let all : solved_by rules other rs ≡ solved_in rs = ap (λ r. solved_by r other rs) (sym j-is) ∙ ap (λ r. solved_by j r rs) (sym k-is) ∙ own j k rs same in
    subst (λ (more : List KeyedBody). IsBestOf (Contains (es ++ more)) new) (sym (append-nil (solved_by rules other rs) ∙ all)) best

-- what was best still is
pub still_best : (es : List KeyedBody) (j k other rules : Ruleset) (rs : List Record) → j ≡ rules → k ≡ other →
    not (sameb the_type j k) ≡ true → IsRising es → IsBestOf (Contains (es ++ (solved_by rules other rs ++ []))) es
still_best es j k other rules rs j-is k-is apart rising =
    let none : solved_by rules other rs ≡ [] = ap (λ r. solved_by r other rs) (sym j-is) ∙ ap (λ r. solved_by j r rs) (sym k-is) ∙ nothing j k rs apart in
    let same : es ++ (solved_by rules other rs ++ []) ≡ es = ap (λ (more : List KeyedBody). es ++ (more ++ [])) none ∙ append-nil es in
    subst (λ (all : List KeyedBody). IsBestOf (Contains all) es) (sym same) (own_best es rising)
