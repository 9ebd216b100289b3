-- The first entry of a list whose key passes a test.
use Rattle.std.specs.Prelude.{◌≡◌, ℕ, zero, suc, ◌+◌, ◌<◌, ◌≤◌, Bool, true, false, cond, List, [], ◌∷◌, length, None, Some}
use Rattle.std.specs.Map.{lookup, set_value}
use Rattle.std.proofs.Common.{refl, ap, ◌∙◌, arith}
use Rattle.std.proofs.Math.ListN.{get_or, set}
use Rattle.archive_world.specs.Inside.{NoneBefore, IsFirst}

-- one more entry was tested, and does not pass
pub none_more : {K X : Type 0} (test : K → Bool) (xs : List (K × X)) (i n : ℕ) (k : K × X) → NoneBefore test i xs → i < length xs →
    get_or xs i k ≡ k → test k.0 ≡ false → n ≡ i + 1 → NoneBefore test n xs
none_more test xs i zero k none small is other next = absurd (omega arith)
none_more test [] i (suc n) k none small is other next = absurd (omega arith)
none_more {K} {X} test (x ∷ xs) zero (suc zero) k none small is other next = (ap (λ (y : K × X). test y.0) is ∙ other, tt)
none_more test (x ∷ xs) zero (suc (suc n)) k none small is other next = absurd (omega arith)
none_more test (x ∷ xs) (suc i) (suc n) k none small is other next =
    (none.0, none_more test xs i n k none.1 (omega arith) is other (omega arith))

-- the next one passes, so it is the first
pub first_here : {K X : Type 0} (test : K → Bool) (xs : List (K × X)) (i : ℕ) (k : K × X) → NoneBefore test i xs → i < length xs →
    get_or xs i k ≡ k → test k.0 ≡ true → IsFirst test i xs
first_here test [] i k none small is found = absurd (omega arith)
first_here {K} {X} test (x ∷ xs) zero k none small is found = ap (λ (y : K × X). test y.0) is ∙ found
first_here test (x ∷ xs) (suc i) k none small is found = (none.0, first_here test xs i k none.1 (omega arith) is found)

-- it is within the list
pub first_within : {K X : Type 0} (test : K → Bool) (xs : List (K × X)) (i : ℕ) → IsFirst test i xs → i < length xs
first_within test [] zero first = absurd first
first_within test [] (suc i) first = absurd first
first_within test (x ∷ xs) zero first = (omega arith)
first_within test (x ∷ xs) (suc i) first = let later = first_within test xs i first.1 in omega arith

-- all entries were tested
pub none_all : {K X : Type 0} (test : K → Bool) (xs : List (K × X)) (i : ℕ) → length xs ≤ i → NoneBefore test i xs → lookup test xs ≡ None
none_all test [] i all none = refl
none_all test (x ∷ xs) zero all none = absurd (omega arith)
none_all test (x ∷ xs) (suc i) all none =
    ap (λ b. cond b (Some x.1) (lookup test xs)) none.0 ∙ none_all test xs i (omega arith) none.1

-- what a look-up finds
pub first_lookup : {K X : Type 0} (test : K → Bool) (xs : List (K × X)) (i : ℕ) (d : K × X) → IsFirst test i xs → lookup test xs ≡ Some (get_or xs i d).1
first_lookup test [] zero d first = absurd first
first_lookup test [] (suc i) d first = absurd first
first_lookup test (x ∷ xs) zero d first = ap (λ b. cond b (Some x.1) (lookup test xs)) first
first_lookup test (x ∷ xs) (suc i) d first =
    ap (λ b. cond b (Some x.1) (lookup test xs)) first.0 ∙ first_lookup test xs i d first.1

-- what a write changes
pub first_set : {K X : Type 0} (test : K → Bool) (xs : List (K × X)) (i : ℕ) (d : K × X) (w : X) → IsFirst test i xs →
    set_value test xs w ≡ set xs i ((get_or xs i d).0, w)
first_set test [] zero d w first = absurd first
first_set test [] (suc i) d w first = absurd first
first_set test (x ∷ xs) zero d w first = ap (λ b. cond b ((x.0, w) ∷ xs) (x ∷ set_value test xs w)) first
first_set {K} {X} test (x ∷ xs) (suc i) d w first =
    ap (λ b. cond b ((x.0, w) ∷ xs) (x ∷ set_value test xs w)) first.0
    ∙ ap (λ (ys : List (K × X)). x ∷ ys) (first_set test xs i d w first.1)
