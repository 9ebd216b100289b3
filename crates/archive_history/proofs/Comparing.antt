-- A text that is compared as it is written.
use Rattle.std.proofs.Common.{◌≡◌, ℕ, ◌+◌, ◌-◌, ◌==◌, Bool, true, List, ◌++◌, length, take, drop, refl, ap, sym, ◌∙◌, arith}
use Rattle.std.proofs.Math.Seq.{take-add}
use Rattle.std.proofs.lemmas.Bool.Decides.{Decides-eqb}
use Rattle.std.proofs.lemmas.List.{take_all, take_at, take_rest}
use Rattle.std.proofs.lemmas.Slice.Eq.{bytes_eq-Decides, starts_is}
use Rattle.std.specs.Str.{bytes_eq}
use Rattle.std.specs.List.{starts_with}

-- bytes that came as they were expected
pub matched : (wanted buf : List ℕ) (at : ℕ) (r : Bool) → r ≡ starts_with (λ a b. a == b) (take (length wanted - at) (drop at wanted)) buf → r ≡ true →
    take (at + length buf) wanted ≡ take at wanted ++ take (length buf) buf
matched wanted buf at r found is =
    let rest = (starts_is Decides-eqb (take (length wanted - at) (drop at wanted)) buf r found).0 is in
    take-add at (length buf) wanted
    ∙ ap (λ (xs : List ℕ). take at wanted ++ xs)
    (ap (take (length buf)) (sym (take_rest wanted at) ∙ rest) ∙ take_at buf (drop (length buf) (take (length wanted - at) (drop at wanted))) (length buf) refl ∙ sym (take_all (length buf) buf (omega arith)))

-- all bytes came that were expected, and they are these
pub all_came : (expected wanted : List ℕ) (at : ℕ) → bytes_eq expected wanted ≡ true → (at == length wanted) ≡ true → take at expected ≡ wanted
all_came expected wanted at same whole =
    let is : expected ≡ wanted = (bytes_eq-Decides expected wanted).0 same in
    let count : at ≡ length wanted = (Decides-eqb at (length wanted)).0 whole in
    ap (take at) is ∙ ap (λ (n : ℕ). take n wanted) count ∙ take_all (length wanted) wanted (omega arith)
