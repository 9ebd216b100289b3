-- The function `best_of` returns what is best.
use Rattle.std.proofs.Common.{◌≡◌, ◌⊎◌, Bool, true, false, List, [], ◌∷◌, refl, ap, sym, ◌∙◌, subst, inl, inr, if◌then◌else◌}
use Rattle.std.specs.declared.cmp.Ordering.{Ordering}
use Rattle.std.specs.declared.cmp.Ordering.TheVariants.{Less, Equal, Greater}
use Rattle.std.specs.Ordering.{is_lt, ordering_reverse}
use Rattle.std.specs.List.{Contains}
use Rattle.tws_best.specs.Rank.{rank_of, rank_cmp, IsBelow}
use Rattle.tws_best.specs.RankOrder.{rank_total}
use Rattle.tws_best.specs.Best.{KeyedBody, key_cmp, IsRising, IsBestOf}
use Rattle.tws_best.specs.Choice.{placed, put_in, best_of}
use Rattle.tws_best.proofs.Members.{Contains-none, Contains-here, Contains-there, Contains-cases, all_at, all_from}
use Rattle.tws_best.proofs.Orders.{key_total, key_tie, key_apart, rank_itself, less_not}
use Rattle.tws_best.proofs.Bests.{own_best, widen, held_itself, held_by_best, held_in}

-- an entry below the first one is also below all after it
rises_before : (x e : KeyedBody) (es : List KeyedBody) → key_cmp x.key e.key ≡ Less → IsRising (e ∷ es) → IsRising (x ∷ (e ∷ es))
rises_before x e es less rising =
    ((less, all_from _ es (λ f has. key_total.trans x.key e.key f.key less (all_at _ es f rising.0 has))), rising)

-- an entry with the same key in place of the first
rises_instead : (x e : KeyedBody) (es : List KeyedBody) → x.key ≡ e.key → IsRising (e ∷ es) → IsRising (x ∷ es)
rises_instead x e es same rising =
    (all_from _ es (λ f has. subst (λ k. key_cmp k f.key ≡ Less) (sym same) (all_at _ es f rising.0 has)), rising.1)

-- what a test with `<` says
pub is_less : (o : Ordering) → is_lt o ≡ true → o ≡ Less
is_less Less e = refl
is_less Equal e = absurd cc
is_less Greater e = absurd cc

-- of two with the same key, the better one stays
one_stays : (stays goes : KeyedBody) (es : List KeyedBody) → goes.key ≡ stays.key → IsRising (stays ∷ es) →
    (IsBelow (rank_of goes.body) (rank_of stays.body) → ⊥) → (IsAll : KeyedBody → Type 0) → IsAll stays →
    ((f : KeyedBody) → Contains es f → IsAll f) → ((f : KeyedBody) → IsAll f → (f ≡ goes) ⊎ Contains (stays ∷ es) f) →
    IsBestOf IsAll (stays ∷ es)
one_stays stays goes es same rising no_worse IsAll here there cases =
    widen (Contains (stays ∷ es)) IsAll (stays ∷ es) (own_best (stays ∷ es) rising)
    (λ f has. elim (Contains-cases stays es f has) [ inl is ↦ subst IsAll is here | inr later ↦ there f later ])
    (λ f all. elim (cases f all) [
      | inl is ↦ (record {
        holder = stays;
        member = Contains-here stays es;
        same = sym same ∙
            ap (λ (g : KeyedBody). g.key) (sym is);
        no_worse =
            subst (λ (g : KeyedBody). IsBelow (rank_of g.body) (rank_of stays.body) → ⊥) (sym is) no_worse;
      })
      | inr has ↦ held_itself (Contains (stays ∷ es)) f has
    ])

-- the same, by a test that was made
better_stays : (b : Bool) (x e : KeyedBody) (es : List KeyedBody) → b ≡ is_lt (rank_cmp (rank_of x.body) (rank_of e.body)) →
    x.key ≡ e.key → IsRising (e ∷ es) → IsBestOf (Contains (x ∷ (e ∷ es))) ((if b then x else e) ∷ es)
better_stays true x e es is same rising =
    let less = is_less (rank_cmp (rank_of x.body) (rank_of e.body)) (sym is) in
    one_stays x e es (sym same) (rises_instead x e es same rising)
    (λ back. rank_itself (rank_of x.body) (rank_total.trans (rank_of x.body) (rank_of e.body) (rank_of x.body) less back))
    (Contains (x ∷ (e ∷ es))) (Contains-here x (e ∷ es)) (λ f has. Contains-there x (e ∷ es) f (Contains-there e es f has))
    (λ f has. elim (Contains-cases x (e ∷ es) f has) [
      | inl first ↦ inr (subst (Contains (x ∷ es)) first (Contains-here x es))
      | inr later ↦ elim (Contains-cases e es f later) [ inl second ↦ inl (sym second) | inr rest ↦ inr (Contains-there x es f rest) ]
    ])
better_stays false x e es is same rising =
    one_stays e x es same rising (less_not (rank_cmp (rank_of x.body) (rank_of e.body)) (sym is))
    (Contains (x ∷ (e ∷ es))) (Contains-there x (e ∷ es) e (Contains-here e es)) (λ f has. Contains-there x (e ∷ es) f (Contains-there e es f has))
    (λ f has. elim (Contains-cases x (e ∷ es) f has) [ inl first ↦ inl (sym first) | inr later ↦ inr later ])

-- the entry goes after the first one
goes_after : (x e : KeyedBody) (es rest : List KeyedBody) → key_cmp x.key e.key ≡ Greater → IsRising (e ∷ es) → IsBestOf (Contains (x ∷ es)) rest → IsBestOf (Contains (x ∷ (e ∷ es))) (e ∷ rest)
goes_after x e es rest greater rising of =
    let up : key_cmp e.key x.key ≡ Less = key_total.antisymm e.key x.key ∙ ap ordering_reverse greater in
    let above : (f : KeyedBody) → Contains (x ∷ es) f → key_cmp e.key f.key ≡ Less = λ f has. elim (Contains-cases x es f has) [
      | inl is ↦ subst (λ (g : KeyedBody). key_cmp e.key g.key ≡ Less) is up
      | inr later ↦ all_at _ es f rising.0 later
    ] in
    let cases : (f : KeyedBody) → Contains (x ∷ (e ∷ es)) f → (e ≡ f) ⊎ Contains (x ∷ es) f = λ f has. elim (Contains-cases x (e ∷ es) f has) [
      | inl first ↦ inr (subst (Contains (x ∷ es)) first (Contains-here x es))
      | inr later ↦ elim (Contains-cases e es f later) [ inl second ↦ inl second | inr tail ↦ inr (Contains-there x es f tail) ]
    ] in
    let wider : (f : KeyedBody) → Contains (x ∷ es) f → Contains (x ∷ (e ∷ es)) f = λ f has. elim (Contains-cases x es f has) [
      | inl first ↦ subst (Contains (x ∷ (e ∷ es))) first (Contains-here x (e ∷ es))
      | inr later ↦ Contains-there x (e ∷ es) f (Contains-there e es f later)
    ] in
    record {
      rising = (all_from _ rest (λ f has. above f (of.best f has).member), of.rising);
      best = λ d has. elim (Contains-cases e rest d has) [
        | inl is ↦ (record {
          member = subst (Contains (x ∷ (e ∷ es))) is (Contains-there x (e ∷ es) e (Contains-here e es));
          least = λ f all same below. elim (cases f all) [
            | inl it ↦ rank_itself (rank_of d.body) (subst (λ (g : KeyedBody). IsBelow (rank_of g.body) (rank_of d.body)) (sym it ∙ is) below)
            | inr other ↦ key_apart e.key f.key (above f other) (ap (λ (g : KeyedBody). g.key) is ∙ sym same)
          ];
        })
        | inr later ↦ (let b = of.best d later in record {
          member = wider d b.member;
          least = λ f all same below. elim (cases f all) [
            | inl it ↦ key_apart e.key d.key (above d b.member) (ap (λ (g : KeyedBody). g.key) it ∙ same)
            | inr other ↦ b.least f other same below
          ];
        })
      ];
      every = λ f all. elim (cases f all) [
        | inl it ↦ (record { entry = e; present = Contains-here e rest; key_is = ap (λ (g : KeyedBody). g.key) it })
        | inr other ↦ (let k = of.every f other in record { entry = k.entry; present = Contains-there e rest k.entry k.present; key_is = k.key_is })
      ];
    }

-- wherever the entry goes, the list is the best of it and the others
placed_best : (o : Ordering) (x e : KeyedBody) (es rest : List KeyedBody) → o ≡ key_cmp x.key e.key → IsRising (e ∷ es) →
    IsBestOf (Contains (x ∷ es)) rest → IsBestOf (Contains (x ∷ (e ∷ es))) (placed o x e es rest)
placed_best Less x e es rest is rising of = own_best (x ∷ (e ∷ es)) (rises_before x e es (sym is) rising)
placed_best Equal x e es rest is rising of = better_stays (is_lt (rank_cmp (rank_of x.body) (rank_of e.body))) x e es refl (key_tie x.key e.key (sym is)) rising
placed_best Greater x e es rest is rising of = goes_after x e es rest (sym is) rising of

-- the list with one more entry
pub put_best : (x : KeyedBody) (es : List KeyedBody) → IsRising es → IsBestOf (Contains (x ∷ es)) (put_in x es)
put_best x [] rising = own_best (x ∷ []) (tt, tt)
put_best x (e ∷ es) rising = placed_best (key_cmp x.key e.key) x e es (put_in x es) refl rising (put_best x es rising.1)

-- the function returns the best of a list
pub best_of_is : (xs : List KeyedBody) → IsBestOf (Contains xs) (best_of xs)
best_of_is [] = record { rising = tt; best = λ e has. absurd (Contains-none e has); every = λ f has. absurd (Contains-none f has) }
best_of_is (x ∷ xs) =
    let of = best_of_is xs in
    widen (Contains (x ∷ best_of xs)) (Contains (x ∷ xs)) (best_of (x ∷ xs)) (put_best x (best_of xs) of.rising)
    (λ e has. elim (Contains-cases x (best_of xs) e has) [
      | inl is ↦ subst (Contains (x ∷ xs)) is (Contains-here x xs)
      | inr later ↦ Contains-there x xs e (of.best e later).member
    ])
    (λ f has. elim (Contains-cases x xs f has) [
      | inl is ↦ held_itself (Contains (x ∷ best_of xs)) f (subst (Contains (x ∷ best_of xs)) is (Contains-here x (best_of xs)))
      | inr later ↦ held_in (Contains (best_of xs)) (Contains (x ∷ best_of xs)) (λ e member. Contains-there x (best_of xs) e member) f (held_by_best (Contains xs) (best_of xs) of f later)
    ])
