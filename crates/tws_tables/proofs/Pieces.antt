-- A listing of three parts, gathered part by part and written as it grows large.
use Rattle.std.proofs.Common.{◌≡◌, ◌≢◌, ℕ, ◌∷◌, List, [], ◌++◌, length, Option, ap, subst, ◌∙◌, arith, length-append}
use Rattle.byte_output.specs.Output.{Sends, AppendsPrefix}
use Rattle.byte_output.proofs.Sending.{Sends-none, Sends-push, Sends-then, prefix_sent}
use Rattle.std.specs.Prelude.{codes, decimal}
use Rattle.tws_tables.specs.Listing.{count_line}
use Rattle.tws_tables.specs.Steps.{SendsSome}

-- nothing was written yet
pub some_none : (old : Option (List ℕ)) (text : List ℕ) → SendsSome old old text
some_none old text = (text, Sends-none old text)

-- a proper prefix is a prefix
pub some_of_prefix : (old new : Option (List ℕ)) (text : List ℕ) → AppendsPrefix old new text → SendsSome old new text
some_of_prefix old new text p = (p.rest, p.sends)

-- of what was left, some more is written
pub some_then : (old mid new : Option (List ℕ)) (text rest : List ℕ) → Sends old mid text rest → SendsSome mid new rest → SendsSome old new text
some_then old mid new text rest s t = (t.0, Sends-then old mid new text rest s t.0 t.1)

-- some of a text is some of any text that begins with it
pub some_more : (old new : Option (List ℕ)) (text : List ℕ) → SendsSome old new text → (more : List ℕ) → SendsSome old new (text ++ more)
some_more old new text s more = (s.0 ++ more, Sends-push old new new text s.0 s.1 more)

-- the last line is not empty
pub some_count : (n : ℕ) → count_line n ≢ []
some_count n none = omega (arith, ap length none, length-append (codes "records " ++ decimal n) (10 ∷ []))

-- the first part was gathered after nothing
module _ (old new : Option (List ℕ)) (header body before start : List ℕ) (n : ℕ) (start-is : start ≡ before ++ header) (before-is : before ≡ []) where
  -- with the header gathered first, the text is the whole listing
  whole-is : start ++ body ++ count_line n ≡ header ++ body ++ count_line n
  whole-is = ap (λ (x : List ℕ). x ++ body ++ count_line n) (start-is ∙ ap (λ (x : List ℕ). x ++ header) before-is)

  -- nothing was written
  pub none_sent : AppendsPrefix old old (header ++ body ++ count_line n)
  none_sent = prefix_sent old old old (header ++ body) (header ++ body) (Sends-none old (header ++ body)) (count_line n) (some_count n)

  -- some of the first two parts was written, and the third was not gathered
  pub prefix_of_two : SendsSome old new (start ++ body) → AppendsPrefix old new (header ++ body ++ count_line n)
  prefix_of_two s = subst (λ (x : List ℕ). AppendsPrefix old new x) whole-is (prefix_sent old new new (start ++ body) s.0 s.1 (count_line n) (some_count n))

  -- the third part is gathered too
  pub all_gathered : (left pushed : List ℕ) → Sends old new (start ++ body) left → pushed ≡ left ++ count_line n → Sends old new (header ++ body ++ count_line n) pushed
  all_gathered left pushed s pushed-is = rw (pushed-is, ← whole-is) (Sends-push old new new (start ++ body) left s (count_line n))
