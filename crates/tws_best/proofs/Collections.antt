-- What is the best over texts is a collection that can be written.
use Rattle.std.proofs.Common.{ℕ, List, [], ◌∷◌, sym, subst, append-nil}
use Rattle.std.specs.List.{AllByRecursion}
use Rattle.tws_file.specs.declared.«ruleset».Ruleset.{Ruleset}
use Rattle.tws_file.specs.declared.«ruleset».Ruleset.TheVariants.{Lynx, Ms}
use Rattle.tws_file.specs.Text.{Record, IsRecord}
use Rattle.tws_best.specs.Best.{KeyedBody, IsKeyedBody, Collected, IsCollected, IsCollectionOf, IsSolutionIn, solved_by, solutions_of}
use Rattle.tws_best.proofs.Members.{all_at, all_from}
use Rattle.tws_best.proofs.Taking.{solved_entries}

-- the solutions of a file are solutions
own_entries : (rules named : Ruleset) (rs : List Record) → AllByRecursion IsRecord rs → AllByRecursion IsKeyedBody (solved_by rules named rs)
own_entries Lynx Lynx rs fits = solved_entries rs fits
own_entries Lynx Ms rs fits = tt
own_entries Ms Lynx rs fits = tt
own_entries Ms Ms rs fits = solved_entries rs fits

-- and so are those of several texts
entry_in : (rules : Ruleset) (texts : List (List ℕ)) (e : KeyedBody) → IsSolutionIn rules texts e → IsKeyedBody e
entry_in rules texts e s =
    let rs = s.file.records in
    let all_entries : AllByRecursion IsKeyedBody (solutions_of rules (s.file ∷ [])) =
    subst (AllByRecursion IsKeyedBody) (sym (append-nil (solved_by rules s.file.ruleset rs)))
    (own_entries rules s.file.ruleset rs s.is_text.fits.records) in
    all_at IsKeyedBody (solutions_of rules (s.file ∷ [])) e all_entries s.present

-- a collection over files is one that a keeper can have
pub best-collected : (rules : Ruleset) (texts : List (List ℕ)) (c : Collected) → IsCollectionOf rules texts c → IsCollected c
best-collected rules texts c of =
    record {
      rising = of.best.rising;
      solved = all_from IsKeyedBody c.entries (λ e has. entry_in rules texts e (of.best.best e has).member);
    }
