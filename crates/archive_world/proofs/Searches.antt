-- A search from the end of a list.
use Rattle.std.specs.Prelude.{◌≡◌, ℕ, zero, suc, ◌+◌, ◌<◌, Bool, true, false, cond, List, [], ◌∷◌, length, drop}
use Rattle.std.proofs.Common.{refl, ap, ◌∙◌}
use Rattle.std.proofs.Math.ListN.{get_or}
use Rattle.std.proofs.lemmas.List.{at_drop_more}
use Rattle.tftp_packet.specs.declared.endpoint.Endpoint.{Endpoint}
use Rattle.archive_table.specs.Table.{is_same}
use Rattle.archive_model.specs.World.{Datagram, Begun, Opening, has_begun}
use Rattle.archive_theorem.specs.Reuse.{has_strayed, is_opening_at, was_opened}

either : (b c : Bool) → c ≡ true → cond b true c ≡ true
either true c h = refl
either false c h = h

-- if one of the rest passes, one of all passes
rest : {T : Type 0} (f : T → Bool) (g : List T → Bool) → ((x : T) (xs : List T) → g (x ∷ xs) ≡ cond (f x) true (g xs)) →
    (i : ℕ) (xs : List T) → g (drop i xs) ≡ true → g xs ≡ true
rest f g step zero xs h = h
rest f g step (suc i) [] h = h
rest f g step (suc i) (x ∷ xs) h = step x xs ∙ either (f x) (g xs) (rest f g step i xs h)

-- if a member passes, the search succeeds
here : {T : Type 0} (f : T → Bool) (g : List T → Bool) → ((x : T) (xs : List T) → g (x ∷ xs) ≡ cond (f x) true (g xs)) →
    (xs : List T) (i : ℕ) (k : T) → i < length xs → get_or xs i k ≡ k → f k ≡ true → g xs ≡ true
here f g step xs i k within is found =
    rest f g step i xs
    (at_drop_more g xs i k within
    ∙ ap (λ x. g (x ∷ drop (i + 1) xs)) is
    ∙ step k (drop (i + 1) xs)
    ∙ ap (λ b. cond b true (g (drop (i + 1) xs))) found)

-- an opening with this peer and port is found
pub opened_here : (e : Endpoint) (port : ℕ) (os : List Opening) (i : ℕ) (o : Opening) → i < length os → get_or os i o ≡ o →
    is_opening_at e port o ≡ true → was_opened e port os ≡ true
opened_here e port = here (is_opening_at e port) (was_opened e port) (λ x xs. refl)

-- an operation at this endpoint is found
pub begun_here : (e : Endpoint) (bs : List Begun) (i : ℕ) (b : Begun) → i < length bs → get_or bs i b ≡ b → is_same e b.client ≡ true → has_begun e bs ≡ true
begun_here e = here (λ (b : Begun). is_same e b.client) (has_begun e) (λ x xs. refl)

-- a stranger at this endpoint is found
pub strayed_here : (e : Endpoint) (ds : List Datagram) (i : ℕ) (d : Datagram) → i < length ds → get_or ds i d ≡ d →
    is_same e d.source ≡ true → has_strayed e ds ≡ true
strayed_here e = here (λ (d : Datagram). is_same e d.source) (has_strayed e) (λ x xs. refl)
