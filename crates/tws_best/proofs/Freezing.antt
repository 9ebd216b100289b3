-- A snapshot is that of a collection, if it has its ruleset and its bodies.
use Rattle.std.proofs.Common.{◌≡◌, ℕ, List, [], ◌∷◌, ◌++◌, map, Result, Ok, Err, IfOk, refl, ap, ◌∙◌}
use Rattle.std.specs.List.{flat_map}
use Rattle.std.specs.Map.{values_of}
use Rattle.tws_file.specs.declared.«ruleset».Ruleset.{Ruleset}
use Rattle.tws_best.specs.Best.{KeyedBody, Collected, body_text, keyed_body_text, collection_header, collection_text}
use Rattle.tws_best.specs.Bodies.{BodyPair, keyed_bodies}
use Rattle.tws_best.specs.Frozen.{Frozen, frozen, frozen_text}
use Rattle.tws_best.proofs.BodyTexts.{texts}

-- the bodies of entries
bodies_in : List KeyedBody → List (List ℕ)
bodies_in es = map (λ (e : KeyedBody). e.body) es

-- their text is that of the entries
bodies_text : (es : List KeyedBody) → texts (bodies_in es) ≡ flat_map keyed_body_text es
unfolding bodies_in
bodies_text [] = refl
bodies_text (e ∷ es) = ap (λ (xs : List ℕ). body_text e.body ++ xs) (bodies_text es)

-- the values of a map are the bodies of its entries
values_bodies : (ps : List BodyPair) → values_of ps ≡ bodies_in (keyed_bodies ps)
unfolding bodies_in
values_bodies [] = refl
values_bodies (p ∷ ps) = ap (λ (bs : List (List ℕ)). p.1 ∷ bs) (values_bodies ps)

-- a snapshot with the ruleset and the bodies of a collection is that of the collection
frozen_is : (s : Frozen) (c : Collected) → s.ruleset ≡ c.ruleset → s.bodies ≡ bodies_in c.entries → s ≡ frozen c
unfolding bodies_in
frozen_is s c rules bodies =
    let make : Ruleset → List (List ℕ) → Frozen = λ k bs. record { «ruleset» = k; bodies = bs } in
    let whole : make s.ruleset s.bodies ≡ make c.ruleset (map (λ (e : KeyedBody). e.body) c.entries) = cc in
    whole

-- the text of a collection's snapshot is the collection's text
pub frozen_text_is : (c : Collected) → frozen_text (frozen c) ≡ collection_text c
unfolding bodies_in
frozen_text_is c = ap (λ (xs : List ℕ). collection_header c.ruleset ++ xs) (bodies_text c.entries)

-- a collection as a map, and a call that may return a snapshot
module _ {E : Type 0} (c : Collected) (rules : Ruleset) (ps : List BodyPair) (ruleset-is : rules ≡ c.ruleset) (entries-is : keyed_bodies ps ≡ c.entries) where
  -- the snapshot that it returns is the collection's
  pub is_frozen : (r : Result Frozen E) → IfOk r (λ s. s.ruleset ≡ rules) → IfOk r (λ s. s.bodies ≡ values_of ps) → IfOk r (λ s. s ≡ frozen c)
  is_frozen (Ok s) rules-is bodies = frozen_is s c (rules-is ∙ ruleset-is) (bodies ∙ values_bodies ps ∙ ap bodies_in entries-is)
  is_frozen (Err e) rules-is bodies = tt

  -- the snapshot that is returned has the collection's text
  pub has_text : (r : Result Frozen E) → IfOk r (λ s. s.ruleset ≡ rules) → IfOk r (λ s. s.bodies ≡ values_of ps) → IfOk r (λ s. frozen_text s ≡ collection_text c)
  has_text (Ok s) rules-is bodies = ap frozen_text (frozen_is s c (rules-is ∙ ruleset-is) (bodies ∙ values_bodies ps ∙ ap bodies_in entries-is)) ∙ frozen_text_is c
  has_text (Err e) rules-is bodies = tt
