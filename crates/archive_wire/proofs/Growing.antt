-- How logs grow: by nothing, and by two growths one after another.
use Rattle.std.specs.Prelude.{◌≡◌, ℕ, List, [], ◌∷◌, ◌++◌, take, Option, None, Some, Ok}
use Rattle.std.proofs.Common.{refl, sym, ap, subst, ◌∙◌, append_assoc}
use Rattle.std.proofs.lemmas.List.{append-nil}
use Rattle.tftp_packet.specs.declared.endpoint.Endpoint.{Endpoint}
use Rattle.archive_wire.specs.Wire.{Entry, Grows, IsGrown, came, quiet, received}

same_grown : (old : Option (List Entry)) (log : List Entry) → old ≡ Some log → IsGrown old log []
same_grown None log e = cc
same_grown (Some k) log e = let same : k ≡ log = cc in sym same ∙ sym (append-nil k)

-- a log that does not change
pub grows_none : (log : Option (List Entry)) → Grows log log []
grows_none log = record { reported = same_grown log }

-- a log that grows twice grows by both
joined_grown : (a b : Option (List Entry)) (log xs ys : List Entry) → ((m : List Entry) → b ≡ Some m → IsGrown a m xs) → IsGrown b log ys → IsGrown a log (xs ++ ys)
joined_grown a None log xs ys first then = absurd then
joined_grown None (Some m) log xs ys first then = absurd (first m refl)
joined_grown (Some k) (Some m) log xs ys first then = then ∙ ap (λ (l : List Entry). l ++ ys) (first m refl) ∙ append_assoc k xs ys

-- two growths, one after the other
pub grows_join : {a b c : Option (List Entry)} {xs ys : List Entry} → Grows a b xs → Grows b c ys → Grows a c (xs ++ ys)
grows_join {a} {b} {c} {xs} {ys} first then = record { reported = λ log e. joined_grown a b log xs ys first.reported (then.reported log e) }

-- the entry that `receive` logs, by its result
pub grows_come : {before after : Option (List Entry)} (port : ℕ) (buffer : List ℕ) (got : Option (ℕ × Endpoint)) (count : ℕ)
    (from : Endpoint) → got ≡ Some (count, from) → Grows before after (received port (Ok got) buffer ∷ []) →
    Grows before after (came port from (take count buffer) ∷ [])
grows_come {before} {after} port buffer got count from e grows = subst (λ (o : Option (ℕ × Endpoint)). Grows before after (received port (Ok o) buffer ∷ [])) e grows

-- the entry of a call of `receive` that returned nothing
pub grows_quiet : {before after : Option (List Entry)} (port : ℕ) (buffer : List ℕ) (got : Option (ℕ × Endpoint)) → got ≡ None →
    Grows before after (received port (Ok got) buffer ∷ []) → Grows before after (quiet port ∷ [])
grows_quiet {before} {after} port buffer got e grows = subst (λ (o : Option (ℕ × Endpoint)). Grows before after (received port (Ok o) buffer ∷ [])) e grows
