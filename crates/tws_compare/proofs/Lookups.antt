-- What a collection has at a key.
use Rattle.std.proofs.Common.{◌≡◌, ℕ, true, false, List, [], ◌∷◌, Option, Some, None, refl, ap, sym, ◌∙◌, inl, inr}
use Rattle.std.specs.declared.cmp.Ordering.{Ordering}
use Rattle.std.specs.declared.cmp.Ordering.TheVariants.{Less, Equal, Greater}
use Rattle.std.specs.Ordering.{is_eq}
use Rattle.tws_file.specs.declared.key.Key.{Key}
use Rattle.tws_best.specs.Best.{KeyedBody, IsRising, HasKey, HasBody, key_cmp}
use Rattle.tws_best.proofs.Members.{Contains-none, Contains-here, Contains-there, Contains-cases, all_at}
use Rattle.tws_best.proofs.Orders.{key_itself, key_tie}
use Rattle.tws_best.proofs.Found.{entry}
use Rattle.tws_compare.specs.Standing.{TwoSides, body_at, standing_of, standing_at}

-- two lists of entries
abbrev pub two : (mine theirs : List KeyedBody) → TwoSides
two mine theirs = record { mine = mine; theirs = theirs }

-- the body that it has
pub body_found : (es : List KeyedBody) (key : Key) (body : List ℕ) → IsRising es → HasBody es key body → body_at es key ≡ Some body
body_found [] key body rising has = absurd (Contains-none (entry key body) has)
body_found (e ∷ es) key body rising has =
    let rest = body_found es key body rising.1 in
    elim (Contains-cases e es (entry key body) has) [
      | inl is ↦
          let here : is_eq (key_cmp e.key key) ≡ true = ap (λ (d : KeyedBody). is_eq (key_cmp d.key key)) is ∙ ap is_eq (key_itself key) in
          rw here (ap (λ (d : KeyedBody). Some d.body) is)
      | inr later ↦
          let apart : is_eq (key_cmp e.key key) ≡ false =
          ap is_eq (all_at (λ (f : KeyedBody). key_cmp e.key f.key ≡ Less) es (entry key body) rising.0 later) in
          rw apart (rest later)
    ]

absent_at : (e : KeyedBody) (es : List KeyedBody) (key : Key) (o : Ordering) → key_cmp e.key key ≡ o → (HasKey (e ∷ es) key → ⊥) → is_eq o ≡ false
absent_at e es key Less is never = refl
absent_at e es key Equal is never = absurd (never (record { entry = e; present = Contains-here e es; key_is = key_tie e.key key is }))
absent_at e es key Greater is never = refl

-- no body where it has none
pub body_absent : (es : List KeyedBody) (key : Key) → (HasKey es key → ⊥) → body_at es key ≡ None
body_absent [] key never = refl
body_absent (e ∷ es) key never =
    let apart : is_eq (key_cmp e.key key) ≡ false = absent_at e es key (key_cmp e.key key) refl never in
    let rest = body_absent es key (λ h. never (record { entry = h.entry; present = Contains-there e es h.entry h.present; key_is = h.key_is })) in
    rw apart rest

-- ---- two collections

-- what both have at a key determines how they compare there
pub standing_is : (sides : TwoSides) (mine theirs : List KeyedBody) (key : Key) (m t : Option (List ℕ)) → two mine theirs ≡ sides →
    body_at mine key ≡ m → body_at theirs key ≡ t → standing_of m t ≡ standing_at sides key
standing_is sides mine theirs key m t whole m-is t-is =
    ap (λ o. standing_of o t) (sym m-is) ∙ ap (λ o. standing_of (body_at mine key) o) (sym t-is) ∙ ap (λ s. standing_at s key) whole
