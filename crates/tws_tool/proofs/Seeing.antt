-- What a terminal is shown of a text.
use Rattle.std.proofs.Common.{◌≡◌, ℕ, zero, suc, ◌+◌, ◌<◌, ◌≤◌, Bool, true, false, List, [], ◌∷◌, length, get_or, take, refl, ap, ◌∙◌, sym, subst, ⊎_elim, eq-or-lt_of_le, arith}
use Rattle.std.proofs.Math.Numerals.{suc-eq-add-one}
use Rattle.std.specs.Prelude.{if◌then◌else◌}
use Rattle.tws_tool.specs.Visible.{begins_control, is_hidden, visible, plain_length}

-- whether the byte at an index may be the second one of a control character
abbrev pub may_end : (after : Bool) → List ℕ → ℕ → Bool
may_end after bytes zero = after
may_end after bytes (suc k) = begins_control (get_or bytes k 0)

-- whether the byte at an index is hidden
abbrev pub hidden_at : (after : Bool) → List ℕ → ℕ → Bool
hidden_at after bytes k = is_hidden (may_end after bytes k) (get_or bytes k 0)

-- no byte before this index is hidden
abbrev pub IsPlain : (after : Bool) → List ℕ → ℕ → Type 0
IsPlain after bytes plain = (k : ℕ) → k < plain → hidden_at after bytes k ≡ false

shift : (after : Bool) (x : ℕ) (xs : List ℕ) (k : ℕ) → hidden_at (begins_control x) xs k ≡ hidden_at after (x ∷ xs) (suc k)
shift after x xs zero = refl
shift after x xs (suc k) = refl

length_by : (after c : Bool) (x : ℕ) (xs : List ℕ) → is_hidden after x ≡ c →
    plain_length after (x ∷ xs) ≡ (if c then 0 else suc (plain_length (begins_control x) xs))
length_by after c x xs is = ap (λ (d : Bool). if d then 0 else suc (plain_length (begins_control x) xs)) is

-- the first hidden byte stands behind those that are none
pub plain_is : (i : ℕ) (after : Bool) (bytes : List ℕ) → i ≤ length bytes → IsPlain after bytes i →
    (i < length bytes → hidden_at after bytes i ≡ true) → i ≡ plain_length after bytes
plain_is zero after [] most before here = refl
plain_is zero after (x ∷ xs) most before here = sym (length_by after true x xs (here (omega arith)))
plain_is (suc i) after [] most before here = absurd (omega arith)
plain_is (suc i) after (x ∷ xs) most before here =
    let rest : i ≡ plain_length (begins_control x) xs = plain_is i (begins_control x) xs (omega arith)
    (λ k below. shift after x xs k ∙ before (suc k) (omega arith)) (λ below. shift after x xs i ∙ here (omega arith)) in
    ap suc rest ∙ sym (length_by after false x xs (before zero (omega arith)))

shown_next : (n plain x : ℕ) (after c : Bool) (xs : List ℕ) → is_hidden after x ≡ c → suc plain ≤ plain_length after (x ∷ xs) →
    (plain ≤ plain_length (begins_control x) xs → take n (take plain xs) ≡ take n (visible (begins_control x) xs)) →
    take (suc n) (take (suc plain) (x ∷ xs)) ≡ take (suc n) (visible after (x ∷ xs))
shown_next n plain x after true xs is below rest =
    let none : plain_length after (x ∷ xs) ≡ 0 = length_by after true x xs is in absurd (omega arith)
shown_next n plain x after false xs is below rest =
    let more : plain_length after (x ∷ xs) ≡ suc (plain_length (begins_control x) xs) = length_by after false x xs is in
    let stays : (if is_hidden after x then 63 else x) ≡ x = ap (λ (d : Bool). if d then 63 else x) is in
    ap (λ (ys : List ℕ). x ∷ ys) (rest (omega arith)) ∙ ap (λ (y : ℕ). y ∷ take n (visible (begins_control x) xs)) (sym stays)

shown_before : (n plain : ℕ) (after : Bool) (bytes : List ℕ) → n ≤ length (take plain bytes) → plain ≤ plain_length after bytes →
    take n (take plain bytes) ≡ take n (visible after bytes)
shown_before zero plain after bytes most below = refl
shown_before (suc n) zero after bytes most below = absurd (omega arith)
shown_before (suc n) (suc plain) after [] most below = refl
shown_before (suc n) (suc plain) after (x ∷ xs) most below =
    shown_next n plain x after (is_hidden after x) xs refl below (shown_before n plain (begins_control x) xs (omega arith))

-- as much of a text as stands before its first hidden byte stays as it is
pub shown_plain : (n plain : ℕ) (after : Bool) (bytes : List ℕ) → plain ≡ plain_length after bytes → n ≤ length (take plain bytes) →
    take n (take plain bytes) ≡ take n (visible after bytes)
shown_plain n plain after bytes is most = shown_before n plain after bytes most (omega arith)

first_by : (n x : ℕ) (after c : Bool) (xs : List ℕ) → is_hidden after x ≡ c → plain_length after (x ∷ xs) ≡ 0 → n ≤ 1 →
    take n (63 ∷ []) ≡ take n (visible after (x ∷ xs))
first_by zero x after c xs is none most = refl
first_by (suc (suc n)) x after c xs is none most = absurd (omega arith)
first_by (suc zero) x after true xs is none most =
    let mark : (if is_hidden after x then 63 else x) ≡ 63 = ap (λ (d : Bool). if d then 63 else x) is in ap (λ (y : ℕ). y ∷ []) (sym mark)
first_by (suc zero) x after false xs is none most =
    let more : plain_length after (x ∷ xs) ≡ suc (plain_length (begins_control x) xs) = length_by after false x xs is in absurd (omega arith)

-- a hidden byte at the beginning is a question mark
pub shown_first : (n : ℕ) (after : Bool) (bytes : List ℕ) → plain_length after bytes ≡ 0 → 0 < length bytes → n ≤ 1 →
    take n (63 ∷ []) ≡ take n (visible after bytes)
shown_first n after [] none some most = absurd (omega arith)
shown_first n after (x ∷ xs) none some most = first_by n x after (is_hidden after x) xs refl none most

-- a byte that is not hidden comes after those that are none
pub plain_more : (i : ℕ) (after : Bool) (bytes : List ℕ) → IsPlain after bytes i → hidden_at after bytes i ≡ false → IsPlain after bytes (i + 1)
plain_more i after bytes before here k lt =
    ⊎_elim (λ is. subst (λ (j : ℕ). hidden_at after bytes j ≡ false) (sym is) here) (λ less. before k less) (eq-or-lt_of_le (omega (arith, lt)))

-- a byte says whether the next one may end a control character
pub may_next : (i : ℕ) (after : Bool) (bytes : List ℕ) → begins_control (get_or bytes i 0) ≡ may_end after bytes (i + 1)
may_next i after bytes = ap (λ (k : ℕ). may_end after bytes k) (suc-eq-add-one i)

-- the byte at an index, once it is known whether it may end a control character
pub here_by : (i : ℕ) (after b : Bool) (bytes : List ℕ) → after ≡ may_end true bytes i → b ≡ is_hidden after (get_or bytes i 0) →
    hidden_at true bytes i ≡ b
here_by i after b bytes after-is is = sym (is ∙ ap (λ (a : Bool). is_hidden a (get_or bytes i 0)) after-is)
