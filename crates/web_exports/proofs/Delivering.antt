-- What is delivered of a result is what is known of it.
use Rattle.std.proofs.Common.{◌≡◌, ℕ, List, Result, Ok, Err, IfOk, IfErr, IsOkAnd, subst, sym}
use Rattle.web_answers.specs.declared.web_fault.WebFault.{WebFault}
use Rattle.web_exports.specs.Delivery.{Delivers, Explains}

known : {A : Type 0} (Q : WebFault → Type 0) (r : Result A WebFault) (room : List ℕ) (len : ℕ) → IfErr r Q → Explains (λ fault. r ≡ Err fault) room len → Explains Q room len
known Q r room len fails (fault, is, words) = (fault, subst (λ x. IfErr x Q) is fails, words)

answered : {A : Type 0} (items : A → List ℕ) (P : List ℕ → Type 0) (r : Result A WebFault) (text : List ℕ) → IfOk r (λ a. P (items a)) → IsOkAnd r (λ a. text ≡ items a) → P text
answered items P (Ok a) text holds is = subst P (sym is) holds
answered items P (Err e) text holds is = absurd is

pub delivered : {A : Type 0} (items : A → List ℕ) (P : List ℕ → Type 0) (Q : WebFault → Type 0) (r : Result A WebFault) (status : ℕ) (old new : List ℕ) (len : ℕ)
    → IfOk r (λ a. P (items a)) → IfErr r Q → Delivers (λ text. IsOkAnd r (λ a. text ≡ items a)) (λ fault. r ≡ Err fault) status old new len → Delivers P Q status old new len
delivered items P Q r status old new len holds fails d = record {
  done = λ is. answered items P r _ holds (d.done is);
  failed = λ is. known Q r new len fails (d.failed is);
  unwritten = d.unwritten;
  fits = d.fits;
  few = d.few;
}
