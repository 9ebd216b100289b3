-- Entries with rising keys.
use Rattle.std.proofs.Common.{◌≡◌, ◌≢◌, List, [], ◌∷◌, refl, ap, sym, ◌∙◌, inl, inr}
use Rattle.std.specs.declared.cmp.Ordering.TheVariants.{Less}
use Rattle.std.specs.List.{Contains}
use Rattle.tws_best.specs.Best.{KeyedBody, key_cmp, IsRising}
use Rattle.tws_best.proofs.Members.{Contains-none, Contains-here, Contains-there, Contains-cases, all_at}
use Rattle.tws_best.proofs.Orders.{key_total, key_apart}

-- no later entry has the first one's key
pub later_key : (e : KeyedBody) (es : List KeyedBody) (f : KeyedBody) → IsRising (e ∷ es) → Contains es f → e.key ≢ f.key
later_key e es f rising has = key_apart e.key f.key (all_at _ es f rising.0 has)

-- at most one entry has a key
pub one_entry : (es : List KeyedBody) (e f : KeyedBody) → IsRising es → Contains es e → Contains es f → e.key ≡ f.key → e ≡ f
one_entry [] e f rising has_e has_f same = absurd (Contains-none e has_e)
one_entry (d ∷ ds) e f rising has_e has_f same =
    elim (Contains-cases d ds e has_e) [
      | inl is_e ↦ elim (Contains-cases d ds f has_f) [
        | inl is_f ↦ sym is_e ∙ is_f
        | inr later_f ↦ absurd (later_key d ds f rising later_f (ap (λ (x : KeyedBody). x.key) is_e ∙ same))
      ]
      | inr later_e ↦ elim (Contains-cases d ds f has_f) [
        | inl is_f ↦ absurd (later_key d ds e rising later_e (ap (λ (x : KeyedBody). x.key) is_f ∙ sym same))
        | inr later_f ↦ one_entry ds e f rising.1 later_e later_f same
      ]
    ]

both_below : (e f : KeyedBody) → key_cmp e.key f.key ≡ Less → key_cmp f.key e.key ≡ Less → ⊥
both_below e f up down = key_apart e.key e.key (key_total.trans e.key f.key e.key up down) refl

-- of rising lists with the same entries the first ones are equal
heads : (d e : KeyedBody) (ds es : List KeyedBody) → IsRising (d ∷ ds) → IsRising (e ∷ es) → Contains (e ∷ es) d → Contains (d ∷ ds) e → d ≡ e
heads d e ds es rising_d rising_e has_d has_e =
    elim (Contains-cases e es d has_d) [
      | inl is ↦ sym is
      | inr later_d ↦ elim (Contains-cases d ds e has_e) [
        | inl is ↦ is
        | inr later_e ↦ absurd (both_below d e (all_at _ ds e rising_d.0 later_e) (all_at _ es d rising_e.0 later_d))
      ]
    ]

-- and what follows the first ones has the same entries
tails : (d e : KeyedBody) (ds es : List KeyedBody) (f : KeyedBody) → d ≡ e → IsRising (d ∷ ds) → Contains ds f → Contains (e ∷ es) f → Contains es f
tails d e ds es f same rising has_f has =
    elim (Contains-cases e es f has) [
      | inl is ↦ absurd (later_key d ds f rising has_f (ap (λ (x : KeyedBody). x.key) (same ∙ is)))
      | inr later ↦ later
    ]

-- a finite map is determined by its entries, whatever their order
pub same_entries : (ds es : List KeyedBody) → IsRising ds → IsRising es → ((f : KeyedBody) → Contains ds f → Contains es f) → ((f : KeyedBody) → Contains es f → Contains ds f) → ds ≡ es
same_entries [] [] rising_d rising_e there back = refl
same_entries [] (e ∷ es) rising_d rising_e there back = absurd (Contains-none e (back e (Contains-here e es)))
same_entries (d ∷ ds) [] rising_d rising_e there back = absurd (Contains-none d (there d (Contains-here d ds)))
same_entries (d ∷ ds) (e ∷ es) rising_d rising_e there back =
    let head = heads d e ds es rising_d rising_e (there d (Contains-here d ds)) (back e (Contains-here e es)) in
    let rest = same_entries ds es rising_d.1 rising_e.1
    (λ f has. tails d e ds es f head rising_d has (there f (Contains-there d ds f has)))
    (λ f has. tails e d es ds f (sym head) rising_e has (back f (Contains-there e es f has))) in
    cc
