-- The text of bodies, one after the other.
use Rattle.std.proofs.Common.{◌≡◌, ℕ, List, [], ◌∷◌, ◌++◌, Option, refl, ap, sym, ◌∙◌, subst, append_assoc, append-nil}
use Rattle.std.specs.List.{flat_map}
use Rattle.std.specs.Map.{values_of}
use Rattle.byte_output.specs.Output.{Sends, AppendsPrefix}
use Rattle.byte_output.proofs.Sending.{Sends-push, Sends-then, prefix_then, prefix_more}
use Rattle.tws_best.specs.Best.{body_text, keyed_body_text}
use Rattle.tws_best.specs.Bodies.{BodyPair, keyed_bodies}

-- the text of these bodies
abbrev pub texts : List (List ℕ) → List ℕ
texts bodies = flat_map body_text bodies

-- the text of a map's entries is that of its bodies
pub entries_text : (ps : List BodyPair) → flat_map keyed_body_text (keyed_bodies ps) ≡ texts (values_of ps)
entries_text [] = refl
entries_text (p ∷ ps) = ap (λ (x : List ℕ). body_text p.1 ++ x) (entries_text ps)

-- ---- bodies that are sent one after the other

-- of the whole text, the contents of the buffer and the bodies that are left are not written yet
module _ (old mid new : Option (List ℕ)) (whole buffer : List ℕ) (body : List ℕ) (bodies left : List (List ℕ)) (left-is : left ≡ body ∷ bodies) (s : Sends old mid whole (buffer ++ texts left)) where
  -- a body moved to the buffer leaves the rest of the text as it is
  regrouped : buffer ++ texts left ≡ (buffer ++ body_text body) ++ texts bodies
  regrouped = ap (λ (bs : List (List ℕ)). buffer ++ texts bs) left-is ∙ sym (append_assoc buffer (body_text body) (texts bodies))

  -- what is not written is the buffer with that body, and the bodies after it
  pending : Sends old mid whole ((buffer ++ body_text body) ++ texts bodies)
  pending = subst (λ (x : List ℕ). Sends old mid whole x) regrouped s

  -- the buffer is written, in part or in whole
  pub body_sent : (next : List ℕ) → Sends mid new (buffer ++ body_text body) next → Sends old new whole (next ++ texts bodies)
  body_sent next t = Sends-then old mid new whole ((buffer ++ body_text body) ++ texts bodies) pending (next ++ texts bodies) (Sends-push mid new new (buffer ++ body_text body) next t (texts bodies))

  -- the writer fails: a proper prefix of the whole text was written
  pub body_cut : AppendsPrefix mid new (buffer ++ body_text body) → AppendsPrefix old new whole
  body_cut p = prefix_then old mid new whole ((buffer ++ body_text body) ++ texts bodies) pending (prefix_more mid new (buffer ++ body_text body) p (texts bodies))

-- no body is left
pub all_bodies : (old new : Option (List ℕ)) (whole buffer : List ℕ) (left : List (List ℕ)) → left ≡ [] → Sends old new whole (buffer ++ texts left) → Sends old new whole buffer
all_bodies old new whole buffer left none s =
    subst (λ (x : List ℕ). Sends old new whole x) (ap (λ (bs : List (List ℕ)). buffer ++ texts bs) none ∙ append-nil buffer) s
