-- What of one text is better than another text, or that nothing is.
use Rattle.std.specs.Prelude.{◌≡◌, ℕ, List, []}
use Rattle.tws_file.specs.Text.{File, IsText}
use Rattle.tws_best.specs.Best.{collection_text}
use Rattle.tws_compare.specs.Compare.{better_of}

-- The text has only what of mine is better than theirs, or new, as `better` returns it.
pub record IsBetterPart (mine theirs text : List ℕ) : Type 0 where
  pub my_file : File
  pub their_file : File
  pub my_text : IsText mine my_file
  pub their_text : IsText theirs their_file
  pub same : my_file.ruleset ≡ their_file.ruleset
  pub text_is : text ≡ collection_text (better_of my_file their_file)

-- nothing of mine is better than theirs
pub record HasNothingBetter (mine theirs : List ℕ) : Type 0 where
  pub my_file : File
  pub their_file : File
  pub my_text : IsText mine my_file
  pub their_text : IsText theirs their_file
  pub same : my_file.ruleset ≡ their_file.ruleset
  pub none : (better_of my_file their_file).entries ≡ []
