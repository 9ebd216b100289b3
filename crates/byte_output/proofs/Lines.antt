-- The lines of a list, gathered one by one and written as they grow large.
use Rattle.std.proofs.Common.{◌≡◌, ℕ, ◌+◌, ◌<◌, List, [], ◌∷◌, ◌++◌, length, take, drop, get_or, Option, ap, sym, subst, ◌∙◌, append_assoc, take-append-drop}
use Rattle.std.proofs.lemmas.List.{take_more}
use Rattle.byte_output.specs.Output.{Sends, AppendsPrefix}
use Rattle.byte_output.proofs.Sending.{Sends-push, prefix_more}

-- `lines` of a list joins the `line` of each member
module _ {X : Type 0} (lines : List X → List ℕ) (line : X → List ℕ) (joined : (xs ys : List X) → lines (xs ++ ys) ≡ lines xs ++ lines ys) (single : (x : X) → lines (x ∷ []) ≡ line x) where
  -- the lines of the first i members, and those of the others
  lines-take-drop : (i : ℕ) (xs : List X) → lines (take i xs) ++ lines (drop i xs) ≡ lines xs
  lines-take-drop i xs = sym (joined (take i xs) (drop i xs)) ∙ ap lines (take-append-drop i xs)

  -- one more member
  lines-more : (i : ℕ) (xs : List X) (x : X) → i < length xs → x ≡ get_or xs i x → lines (take (i + 1) xs) ≡ lines (take i xs) ++ line x
  lines-more i xs x inside x-is =
      ap lines (take_more xs i x inside ∙ ap (λ (y : X). take i xs ++ y ∷ []) (sym x-is))
      ∙ joined (take i xs) (x ∷ [])
      ∙ ap (λ (ys : List ℕ). lines (take i xs) ++ ys) (single x)

  -- after text that was gathered at the start
  module _ (old mid new : Option (List ℕ)) (start : List ℕ) (xs : List X) (i : ℕ) where
    -- the lines of the first i members and those of the others, one after another, are all lines
    whole : (start ++ lines (take i xs)) ++ lines (drop i xs) ≡ start ++ lines xs
    whole = append_assoc start (lines (take i xs)) (lines (drop i xs)) ∙ ap (λ (ys : List ℕ). start ++ ys) (lines-take-drop i xs)

    -- a proper prefix of the lines so far is one of all lines
    pub prefix_of_all : AppendsPrefix old new (start ++ lines (take i xs)) → AppendsPrefix old new (start ++ lines xs)
    prefix_of_all p = subst (λ (ys : List ℕ). AppendsPrefix old new ys) whole (prefix_more old new (start ++ lines (take i xs)) p (lines (drop i xs)))

    -- what is left to write of the lines so far, followed by the other lines, is left to write of all lines
    pub Sends-of-all : (buffer : List ℕ) → Sends old new (start ++ lines (take i xs)) buffer → Sends old new (start ++ lines xs) (buffer ++ lines (drop i xs))
    Sends-of-all buffer s = subst (λ (ys : List ℕ). Sends old new ys (buffer ++ lines (drop i xs))) whole (Sends-push old new new (start ++ lines (take i xs)) buffer s (lines (drop i xs)))

    -- one more line is gathered
    pub line_gathered : (buffer pushed : List ℕ) (x : X) → Sends old mid (start ++ lines (take i xs)) buffer → i < length xs →
        x ≡ get_or xs i x → pushed ≡ buffer ++ line x → Sends old mid (start ++ lines (take (i + 1) xs)) pushed
    line_gathered buffer pushed x s inside x-is pushed-is =
        let longer : (start ++ lines (take i xs)) ++ line x ≡ start ++ lines (take (i + 1) xs) =
        append_assoc start (lines (take i xs)) (line x) ∙
        ap (λ (ys : List ℕ). start ++ ys) (sym (lines-more i xs x inside x-is)) in
        rw (pushed-is, ← longer) (Sends-push old mid new (start ++ lines (take i xs)) buffer s (line x))
