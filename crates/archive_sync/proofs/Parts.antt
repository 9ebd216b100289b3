-- What of two texts is better, from the files that were read of them.
use Rattle.std.proofs.Common.{◌≡◌, ℕ, List, [], ap, sym, ◌∙◌}
use Rattle.tws_file.specs.Text.{File, IsText}
use Rattle.tws_best.specs.Best.{Collected, collection_text}
use Rattle.tws_compare.specs.Compare.{better_of}
use Rattle.tws_compare.specs.Part.{IsBetterPart, HasNothingBetter}

pub better_part : (first second : List ℕ) (mine theirs : File) (c : Collected) (text : List ℕ) → IsText first mine → IsText second theirs → mine.ruleset ≡ theirs.ruleset →
    c ≡ better_of mine theirs → text ≡ collection_text c → IsBetterPart first second text
better_part first second mine theirs c text one other same is text_is =
    record { my_file = mine; their_file = theirs; my_text = one; their_text = other; same = same; text_is = text_is ∙ ap collection_text is }

pub nothing_better : (first second : List ℕ) (mine theirs : File) (c : Collected) → IsText first mine → IsText second theirs → mine.ruleset ≡ theirs.ruleset →
    c ≡ better_of mine theirs → c.entries ≡ [] → HasNothingBetter first second
nothing_better first second mine theirs c one other same is none =
    record { my_file = mine; their_file = theirs; my_text = one; their_text = other; same = same; none = ap (λ (d : Collected). d.entries) (sym is) ∙ none }
