-- Parts of lists, what holds of each member, and options.
use Rattle.std.proofs.Common.{◌≡◌, ℕ, zero, suc, ◌+◌, ◌<◌, ◌≤◌, List, [], ◌∷◌, ◌++◌, length, take, drop, slice_index_or, Option, None, Some, IfSome, IfNone, refl, arith, subst, take-take}
use Rattle.std.specs.List.{AllByRecursion}
use Rattle.std.proofs.Math.Seq.{take-add}

-- Prefixes of one length are equal, and so are the rests.
pub append_parts : {X : Type 0} (a b x y : List X) → length a ≡ length b → a ++ x ≡ b ++ y → (a ≡ b) × (x ≡ y)
append_parts [] [] x y same e = (refl, e)
append_parts [] (c ∷ b) x y same e = absurd (omega arith)
append_parts (c ∷ a) [] x y same e = absurd (omega arith)
append_parts (c ∷ a) (d ∷ b) x y same e =
    let rest : a ++ x ≡ b ++ y = cc in
    let parts = append_parts a b x y (omega arith) rest in
    let head : c ≡ d = cc in
    let tail = parts.0 in
    (cc, parts.1)

-- ---- what holds of each member

module _ {X : Type 0} (P : X → Type 0) where
  pub all_append : (xs ys : List X) → AllByRecursion P xs → AllByRecursion P ys → AllByRecursion P (xs ++ ys)
  all_append [] ys first rest = rest
  all_append (x ∷ xs) ys first rest = (first.0, all_append xs ys first.1 rest)

  pub all_take : (n : ℕ) (xs : List X) → AllByRecursion P xs → AllByRecursion P (take n xs)
  all_take zero xs all = tt
  all_take (suc n) [] all = tt
  all_take (suc n) (x ∷ xs) all = (all.0, all_take n xs all.1)

  -- what holds of each member holds of the one at an index within the list
  pub all_at : (xs : List X) (i : ℕ) (d : X) → i < length xs → AllByRecursion P xs → P (slice_index_or xs i d)
  all_at [] i d inside all = absurd (omega arith)
  all_at (x ∷ xs) zero d inside all = all.0
  all_at (x ∷ xs) (suc i) d inside all = all_at xs i d (omega arith) all.1

  -- of the first m, and of the next n
  pub all_take_more : (m n : ℕ) (xs : List X) → AllByRecursion P (take m xs) → AllByRecursion P (take n (drop m xs)) → AllByRecursion P (take (m + n) xs)
  all_take_more m n xs first next = rw (take-add m n xs) (all_append (take m xs) (take n (drop m xs)) first next)

  pub all_take_fewer : (m n : ℕ) (xs : List X) → m ≤ n → AllByRecursion P (take n xs) → AllByRecursion P (take m xs)
  all_take_fewer m n xs fewer all = subst (AllByRecursion P) (take-take m n xs fewer) (all_take m (take n xs) all)

-- ---- options

-- what is known of an option that is `Some`
pub at_some : {X : Type 0} (P : X → Type 0) (o : Option X) (x : X) → o ≡ Some x → IfSome o P → P x
at_some {X} P o x e p = subst (λ (q : Option X). IfSome q P) e p

-- what is known of one that is `None`
pub at_none : {X P : Type 0} (o : Option X) → o ≡ None → IfNone o P → P
at_none {X} {P} o e p = subst (λ (q : Option X). IfNone q P) e p
