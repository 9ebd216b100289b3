-- A text that is written piece by piece: how much of it a writer has so far, and what a failure leaves.
use Rattle.std.proofs.Common.{◌≡◌, ◌≢◌, ℕ, ◌-◌, List, [], ◌∷◌, ◌++◌, length, take, drop, Option, Some, None, Result, Ok, Err, OnErr, refl, subst, ap, sym, ◌∙◌, append_assoc, append-nil, take-append-drop}
use Rattle.std.proofs.lemmas.List.{take_rest}
use Rattle.std.specs.Io.KnownBytes.{Appends}
use Rattle.byte_output.specs.Output.{Sends, AppendsPrefix}

-- nothing was appended
pub Appends-nil : (old : Option (List ℕ)) → Appends old old []
Appends-nil None = tt
Appends-nil (Some xs) = sym (append-nil xs)

-- one text was appended, and then another
pub Appends-then : (old mid new : Option (List ℕ)) (x y : List ℕ) → Appends old mid x → Appends mid new y → Appends old new (x ++ y)
Appends-then None mid new x y p q = tt
Appends-then (Some xs) None new x y p q = absurd p
Appends-then (Some xs) (Some ys) None x y p q = absurd q
Appends-then (Some xs) (Some ys) (Some zs) x y p q = q ∙ ap (λ (b : List ℕ). b ++ y) p ∙ append_assoc xs x y

-- at any error
pub at_err : {T E P : Type 0} (r : Result T E) → P → OnErr r P
at_err (Ok x) p = tt
at_err (Err e) p = p

some_first : (xs ys : List ℕ) → xs ≢ [] → xs ++ ys ≢ []
some_first [] ys some none = some refl
some_first (x ∷ xs) ys some none = absurd cc

some_last : (xs ys : List ℕ) → ys ≢ [] → xs ++ ys ≢ []
some_last [] ys some none = some none
some_last (x ∷ xs) ys some none = absurd cc

-- ---- what was written, and what was not

-- nothing was written yet
pub Sends-none : (old : Option (List ℕ)) (text : List ℕ) → Sends old old text text
Sends-none old text = record { sent = []; cut = refl; appends = Appends-nil old }

module _ (old mid new : Option (List ℕ)) (text rest : List ℕ) where
  -- more text is gathered
  pub Sends-push : Sends old mid text rest → (more : List ℕ) → Sends old mid (text ++ more) (rest ++ more)
  Sends-push s more = record { sent = s.sent; cut = ap (λ (x : List ℕ). x ++ more) s.cut ∙ append_assoc s.sent rest more; appends = s.appends }

  -- more of what was left is written
  pub Sends-then : Sends old mid text rest → (left : List ℕ) → Sends mid new rest left → Sends old new text left
  Sends-then s left t = record {
    sent = s.sent ++ t.sent;
    cut = s.cut ∙ ap (λ (x : List ℕ). s.sent ++ x) t.cut ∙ sym (append_assoc s.sent t.sent left);
    appends = Appends-then old mid new s.sent t.sent s.appends t.appends;
  }

  -- all that was left is written
  pub all_sent : Sends old mid text rest → Appends mid new rest → Appends old new text
  all_sent s last = subst (λ (x : List ℕ). Appends old new x) (sym s.cut) (Appends-then old mid new s.sent rest s.appends last)

  -- a proper prefix of what was left is written
  pub prefix_then : Sends old mid text rest → AppendsPrefix mid new rest → AppendsPrefix old new text
  prefix_then s p = record { rest = p.rest; some = p.some; sends = Sends-then s p.rest p.sends }

  -- if more text follows, a proper prefix of the whole is written
  pub prefix_sent : Sends old mid text rest → (more : List ℕ) → more ≢ [] → AppendsPrefix old mid (text ++ more)
  prefix_sent s more some = record { rest = rest ++ more; some = some_last rest more some; sends = Sends-push s more }

-- the writer takes n more bytes
pub Sends-more : (old mid new : Option (List ℕ)) (text rest : List ℕ) (n : ℕ) → Sends old mid text rest → Appends mid new (take n rest) → Sends old new text (take (length rest - n) (drop n rest))
Sends-more old mid new text rest n s more = record {
  sent = s.sent ++ take n rest;
  cut = s.cut ∙ ap (λ (xs : List ℕ). s.sent ++ xs)
      (sym (take-append-drop n rest) ∙ ap (λ (xs : List ℕ). take n rest ++ xs) (sym (take_rest rest n))) ∙
      sym (append_assoc s.sent (take n rest) (take (length rest - n) (drop n rest)));
  appends = Appends-then old mid new s.sent (take n rest) s.appends more;
}

-- a proper prefix of a text is a proper prefix of any text that begins with it
pub prefix_more : (old new : Option (List ℕ)) (text : List ℕ) → AppendsPrefix old new text → (more : List ℕ) → AppendsPrefix old new (text ++ more)
prefix_more old new text p more = record { rest = p.rest ++ more; some = some_first p.rest more p.some; sends = Sends-push old new new text p.rest p.sends more }

-- ---- a text of two parts, after gathered text

module _ (old mid new : Option (List ℕ)) (start first second pushed buffer : List ℕ) (pushed-is : pushed ≡ start ++ first) where
  -- what was gathered, with the second part after it, is the start with both parts after it
  two_parts : pushed ++ second ≡ start ++ (first ++ second)
  two_parts = ap (λ (x : List ℕ). x ++ second) pushed-is ∙ append_assoc start first second

  -- a proper prefix of the first part is written
  pub first_prefix : AppendsPrefix old new pushed → AppendsPrefix old new (start ++ (first ++ second))
  first_prefix p = subst (λ (x : List ℕ). AppendsPrefix old new x) two_parts (prefix_more old new pushed p second)

  -- the second part follows
  pub both_sent : Sends old mid pushed buffer → (left : List ℕ) → Sends mid new (buffer ++ second) left → Sends old new (start ++ (first ++ second)) left
  both_sent s left t = subst (λ (x : List ℕ). Sends old new x left) two_parts (Sends-then old mid new (pushed ++ second) (buffer ++ second) (Sends-push old mid new pushed buffer s second) left t)

  -- a proper prefix of what was left and of the second part is written
  pub both_prefix : Sends old mid pushed buffer → AppendsPrefix mid new (buffer ++ second) → AppendsPrefix old new (start ++ (first ++ second))
  both_prefix s p = subst (λ (x : List ℕ). AppendsPrefix old new x) two_parts (prefix_then old mid new (pushed ++ second) (buffer ++ second) (Sends-push old mid new pushed buffer s second) p)

-- ---- a written text, followed by another

module _ (old mid new : Option (List ℕ)) (first second written : List ℕ) (written-is : written ≡ first) where
  -- a proper prefix of the first text is a proper prefix of both
  pub first_alone : AppendsPrefix old mid written → AppendsPrefix old mid (first ++ second)
  first_alone p = prefix_more old mid first (subst (λ (x : List ℕ). AppendsPrefix old mid x) written-is p) second

  -- once the first text is written, the second is left
  written_first : Appends old mid written → Sends old mid (first ++ second) second
  written_first p = record { sent = first; cut = refl; appends = subst (λ (x : List ℕ). Appends old mid x) written-is p }

  -- the first text is written, and then some of the second
  pub sent_in_turn : Appends old mid written → (left : List ℕ) → Sends mid new second left → Sends old new (first ++ second) left
  sent_in_turn p left q = Sends-then old mid new (first ++ second) second (written_first p) left q

  -- the first text is written, and then a proper prefix of the second
  pub prefix_in_turn : Appends old mid written → AppendsPrefix mid new second → AppendsPrefix old new (first ++ second)
  prefix_in_turn p q = prefix_then old mid new (first ++ second) second (written_first p) q
