-- The best of a list as a function, for stating steps. A law says that it is the best.
use Rattle.std.specs.Prelude.{List, [], ◌∷◌, if◌then◌else◌}
use Rattle.std.specs.declared.cmp.Ordering.{Ordering}
use Rattle.std.specs.declared.cmp.Ordering.TheVariants.{Less, Equal, Greater}
use Rattle.std.specs.Ordering.{is_lt}
use Rattle.tws_best.specs.Rank.{rank_of, rank_cmp}
use Rattle.tws_best.specs.Best.{KeyedBody, key_cmp}

-- the one with the lower rank
abbrev pub better_of : KeyedBody → KeyedBody → KeyedBody
better_of x e = if is_lt (rank_cmp (rank_of x.body) (rank_of e.body)) then x else e

-- x inserted before e, in its place or after it, by how their keys compare: es follows e, and rest is es with x
abbrev pub placed : Ordering → (x e : KeyedBody) (es rest : List KeyedBody) → List KeyedBody
placed Less x e es rest = x ∷ (e ∷ es)
placed Equal x e es rest = better_of x e ∷ es
placed Greater x e es rest = e ∷ rest

abbrev pub put_in : KeyedBody → List KeyedBody → List KeyedBody
put_in x [] = x ∷ []
put_in x (e ∷ es) = placed (key_cmp x.key e.key) x e es (put_in x es)

abbrev pub best_of : List KeyedBody → List KeyedBody
best_of [] = []
best_of (x ∷ xs) = put_in x (best_of xs)
