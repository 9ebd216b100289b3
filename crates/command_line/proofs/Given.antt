-- What was given among the arguments.
use Rattle.std.proofs.Common.{◌≡◌, List, [], ℕ, Bor, Option, Some, None, IfSome, IfNone, map, option_map, unwrap_or, ap, sym, ◌∙◌}
use Rattle.clap.specs.Words.{Text}

-- what was given for an argument
module _ (given : Option (List ℕ)) where
  -- a text that was found is what was given
  pub some_given : (found : Option (Bor (List ℕ))) → option_map (λ s. s.now) found ≡ given → IfSome found (λ text. given ≡ Some text.now)
  some_given (Some text) is = sym is
  some_given None is = tt

  -- if none was found, none was given
  pub none_given : (found : Option (Bor (List ℕ))) → option_map (λ s. s.now) found ≡ given → IfNone found (given ≡ None)
  none_given (Some text) is = tt
  none_given None is = sym is

-- the names of the files that were found, if some were
pub files_are : (found : Option (Bor (List (Bor Text)))) (names none : Bor (List (Bor Text))) (all : Option (List Text)) → names ≡ unwrap_or found none → none.now ≡ []
    → option_map (λ s. map (λ text. text.now) s.now) found ≡ all → map (λ text. text.now) names.now ≡ unwrap_or all []
files_are (Some texts) names none all names-is empty is = ap (λ (n : Bor (List (Bor Text))). map (λ text. text.now) n.now) names-is ∙ ap (λ (ts : Option (List Text)). unwrap_or ts []) is
files_are None names none all names-is empty is = ap (λ (n : Bor (List (Bor Text))). map (λ text. text.now) n.now) names-is ∙
    ap (map (λ text. text.now)) empty ∙ ap (λ (ts : Option (List Text)). unwrap_or ts []) is
