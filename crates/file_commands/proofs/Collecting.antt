-- What is collected from inputs with known bytes.
use Rattle.std.proofs.Common.{◌≡◌, ◌≢◌, ℕ, List, [], ◌∷◌, ◌++◌, length, take, map, Option, IfSome, inl, refl, ap, sym, subst, ◌∙◌}
use Rattle.std.specs.List.{AllByRecursion, Contains}
use Rattle.std.proofs.Math.Seq.{take-length}
use Rattle.byte_output.proofs.Lists.{at_some, all_append}
use Rattle.tws_file.specs.declared.«ruleset».Ruleset.{Ruleset}
use Rattle.tws_file.specs.Text.{File, IsText, IsReadable}
use Rattle.tws_best.specs.Best.{Collected, IsBestOf, IsCollectionOf, collection_text, solutions_of}
use Rattle.tws_best.proofs.Sets.{no_texts, one_more_text}
use Rattle.command_line.specs.declared.tool_fault.ToolFault.{ToolFault}
use Rattle.command_line.specs.declared.tool_fault.ToolFault.TheVariants.{Read, Write, Unreadable, Memory, Socket, Transfer}
use Rattle.show_commands.specs.SeveralInputs.{AreReported, CollectFails}
use Rattle.show_commands.proofs.Collecting.{reported_split}
use Rattle.file_commands.specs.Best.{BestFails, BestPrefix, Collects}
use Rattle.file_commands.proofs.Unsaid.{nothing_yet}

none_reported : (texts : List (List ℕ)) → AreReported [] texts → [] ≡ texts
none_reported [] reported = refl
none_reported (t ∷ texts) reported = absurd reported

-- of no texts, each is readable
none_readable : (texts : List (List ℕ)) → AreReported [] texts → AllByRecursion IsReadable texts
none_readable [] reported = tt
none_readable (t ∷ texts) reported = absurd reported

-- from no inputs the empty collection is collected
pub collects_none : (rules : Ruleset) (c : Collected) → c.ruleset ≡ rules → c.entries ≡ [] → Collects rules [] c
collects_none rules c rules-is none = record {
  readable = λ texts reported. none_readable texts reported;
  best = λ texts reported. subst (λ (ts : List (List ℕ)). IsCollectionOf rules ts c) (none_reported texts reported) (no_texts rules c rules-is none);
}

-- one more input, whose file is merged
pub collects_more : (rules : Ruleset) (knowns : List (Option (List ℕ))) (known : Option (List ℕ)) (file : File)
    (c d : Collected) → Collects rules knowns c → IfSome known (λ (bytes : List ℕ). IsText bytes file)
    → d.ruleset ≡ c.ruleset → IsBestOf (Contains (c.entries ++ solutions_of c.ruleset (file ∷ []))) d.entries → Collects rules (knowns ++ known ∷ []) d
collects_more rules knowns known file c d so_far text same best = record {
  readable = λ texts reported.
      let parts = reported_split knowns known texts reported in
      let last = at_some (λ (bytes : List ℕ). IsText bytes file) known parts.1 parts.4 text in
      subst (AllByRecursion IsReadable) (sym parts.2) (all_append IsReadable parts.0 (parts.1 ∷ []) (so_far.readable parts.0 parts.3) ((file, last), tt));
  best = λ texts reported.
      let parts = reported_split knowns known texts reported in
      let last = at_some (λ (bytes : List ℕ). IsText bytes file) known parts.1 parts.4 text in
      subst (λ (ts : List (List ℕ)). IsCollectionOf rules ts d) (sym parts.2) (one_more_text rules parts.0 parts.1 file c d (so_far.best parts.0 parts.3) last same best);
}

-- all inputs were collected
pub all_collected : (R : Type 0) (reported : R → Option (List ℕ)) (files : List R) (i : ℕ) (rules : Ruleset) (c : Collected) →
    i ≡ length files → Collects rules (map reported (take i files)) c → Collects rules (map reported files) c
all_collected R reported files i rules c end so_far =
    subst (λ (xs : List R). Collects rules (map reported xs) c) (ap (λ (n : ℕ). take n files) end ∙ take-length files) so_far

-- ---- why nothing was written

-- the inputs were not all read
pub collect_fails : (rules : Ruleset) (knowns : List (Option (List ℕ))) (old : Option (List ℕ)) (e : ToolFault) → CollectFails knowns e → BestFails rules knowns old old e
collect_fails rules knowns old Read fails = refl
collect_fails rules knowns old Write fails = absurd fails
collect_fails rules knowns old (Unreadable index fault) fails = (refl, fails)
collect_fails rules knowns old Memory fails = inl refl
collect_fails rules knowns old Socket fails = absurd fails
collect_fails rules knowns old (Transfer why) fails = absurd fails

-- the text of a collection has a byte
collection_some : (c : Collected) → collection_text c ≢ []
collection_some c = λ none. absurd cc

-- what was to be said of them was not
pub best_unsaid : (rules : Ruleset) (knowns : List (Option (List ℕ))) (c : Collected) (old : Option (List ℕ)) → Collects rules knowns c → BestPrefix rules knowns old old
best_unsaid rules knowns c old collects = (c, collects, nothing_yet old (collection_text c) (collection_some c))
