-- Members of lists by their places, and lists that grow at their end.
use Rattle.std.proofs.Common.{◌≡◌, ◌⊎◌, ℕ, zero, suc, ◌<◌, ◌≤◌, List, [], ◌∷◌, ◌++◌, length, take, slice_get, Contains, Some, refl, ap, sym, ◌∙◌, arith, inl, inr, append-nil, length-append, append_assoc}
use Rattle.std.proofs.lemmas.Option.{slice_get_within, get_or_from_slice_get, slice_get-get_or}
use Rattle.std.proofs.lemmas.List.{take-append-le}
use Rattle.archive_model.specs.World.{IsPrefix}

-- of two things each of which implies another
pub either : {A B C D : Type 0} → (A → C) → (B → D) → A ⊎ B → C ⊎ D
either f g (inl a) = inl (f a)
either f g (inr b) = inr (g b)

-- the list has this at some place
pub record Has {A : Type 0} (xs : List A) (x : A) : Type 0 where
  pub position : ℕ
  pub is : slice_get xs position ≡ Some x

pub Has-contains : {A : Type 0} (xs : List A) (x : A) → Has xs x → Contains xs x
Has-contains xs x h = (h.position, slice_get_within xs h.position x h.is, get_or_from_slice_get xs h.position x x h.is)

pub Has-from_contains : {A : Type 0} (xs : List A) (x : A) → Contains xs x → Has xs x
Has-from_contains xs x c = record { position = c.0; is = slice_get-get_or xs c.0 x c.1 ∙ ap Some c.2 }

-- ---- growth

pub IsPrefix-same : {A : Type 0} (xs : List A) → IsPrefix xs xs
IsPrefix-same xs = record { rest = []; is = sym (append-nil xs) }

pub IsPrefix-push : {A : Type 0} (xs : List A) (x : A) → IsPrefix xs (xs ++ x ∷ [])
IsPrefix-push xs x = record { rest = x ∷ []; is = refl }

pub IsPrefix-on : {A : Type 0} {xs ys zs : List A} → IsPrefix xs ys → IsPrefix ys zs → IsPrefix xs zs
IsPrefix-on {A} {xs} first next =
    record { rest = first.rest ++ next.rest; is = next.is ∙ ap (λ (l : List A). l ++ next.rest) first.is ∙ append_assoc xs first.rest next.rest }

pub at-append : {A : Type 0} (xs ys : List A) (i : ℕ) (x : A) → slice_get xs i ≡ Some x → slice_get (xs ++ ys) i ≡ Some x
at-append [] ys i x e = absurd cc
at-append (a ∷ xs) ys zero x e = e
at-append (a ∷ xs) ys (suc i) x e = at-append xs ys i x e

pub at-prefix : {A : Type 0} (xs ys : List A) → IsPrefix xs ys → (i : ℕ) (x : A) → slice_get xs i ≡ Some x → slice_get ys i ≡ Some x
at-prefix xs ys more i x e = ap (λ zs. slice_get zs i) more.is ∙ at-append xs more.rest i x e

pub Has-prefix : {A : Type 0} (xs ys : List A) (x : A) → IsPrefix xs ys → Has xs x → Has ys x
Has-prefix xs ys x more h = record { position = h.position; is = at-prefix xs ys more h.position x h.is }

pub length-prefix : {A : Type 0} (xs ys : List A) → IsPrefix xs ys → length xs ≤ length ys
length-prefix xs ys more = omega (arith, ap length more.is, length-append xs more.rest)

-- a longer list has the same first members
pub take-prefix : {A : Type 0} (xs ys : List A) (n : ℕ) → IsPrefix xs ys → n ≤ length xs → take n ys ≡ take n xs
take-prefix xs ys n more within = ap (take n) more.is ∙ take-append-le n xs more.rest within

-- ---- one more at the end

pub at-last : {A : Type 0} (xs : List A) (x : A) → slice_get (xs ++ x ∷ []) (length xs) ≡ Some x
at-last [] x = refl
at-last (a ∷ xs) x = at-last xs x

pub Has-last : {A : Type 0} (xs : List A) (x : A) → Has (xs ++ x ∷ []) x
Has-last xs x = record { position = length xs; is = at-last xs x }

-- an old one, or the new one at the last place
abbrev pub OldOrLast : {A : Type 0} → List A → (y : A) → (i : ℕ) → (x : A) → Type 0
OldOrLast xs y i x = (slice_get xs i ≡ Some x) ⊎ ((i ≡ length xs) × (x ≡ y))

push_tail : {A : Type 0} (a : A) (xs : List A) (y : A) (i : ℕ) (x : A) → OldOrLast xs y i x → OldOrLast (a ∷ xs) y (suc i) x
push_tail a xs y i x (inl old) = inl old
push_tail a xs y i x (inr last) = inr (ap suc last.0, last.1)

-- at each place of a list with one more is an old member, or the new one at the last place
pub at-push : {A : Type 0} (xs : List A) (y : A) (i : ℕ) (x : A) → slice_get (xs ++ y ∷ []) i ≡ Some x → OldOrLast xs y i x
at-push [] y zero x e = inr (refl, cc)
at-push [] y (suc i) x e = absurd cc
at-push (a ∷ xs) y zero x e = inl e
at-push (a ∷ xs) y (suc i) x e = push_tail a xs y i x (at-push xs y i x e)

has_push : {A : Type 0} (xs : List A) (y x : A) (i : ℕ) → OldOrLast xs y i x → Has xs x ⊎ (x ≡ y)
has_push xs y x i (inl old) = inl (record { position = i; is = old })
has_push xs y x i (inr last) = inr last.1

pub Has-push : {A : Type 0} (xs : List A) (y x : A) → Has (xs ++ y ∷ []) x → Has xs x ⊎ (x ≡ y)
Has-push xs y x h = has_push xs y x h.position (at-push xs y h.position x h.is)

-- the place of an old one is not the last
pub before_last : {A : Type 0} (xs : List A) (i : ℕ) (x : A) → slice_get xs i ≡ Some x → i < length xs
before_last xs i x e = slice_get_within xs i x e

-- two at one place are the same
pub one_at : {A : Type 0} (xs : List A) (i j : ℕ) (x y : A) → slice_get xs i ≡ Some x → slice_get xs j ≡ Some y → i ≡ j → x ≡ y
one_at xs i j x y at_i at_j same = let both : Some x ≡ Some y = sym at_i ∙ ap (slice_get xs) same ∙ at_j in cc

-- ---- a prefix

pub at-take : {A : Type 0} (n : ℕ) (xs : List A) (i : ℕ) (x : A) → i < n → slice_get xs i ≡ Some x → slice_get (take n xs) i ≡ Some x
at-take zero xs i x within e = absurd (omega arith)
at-take (suc n) [] i x within e = absurd cc
at-take (suc n) (a ∷ xs) zero x within e = e
at-take (suc n) (a ∷ xs) (suc i) x within e = at-take n xs i x (omega arith) e
