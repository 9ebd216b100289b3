-- The comparison of endpoints is exact.
use Rattle.std.proofs.Common.{◌≡◌, ℕ, Bool, true, ◌==◌, ◌&&◌, refl, ap, ◌∙◌}
use Rattle.std.proofs.lemmas.Bool.{and_parts, eqb-true, eq-eqb}
use Rattle.tftp_packet.specs.declared.endpoint.Endpoint.{Endpoint}
use Rattle.archive_table.specs.Table.{is_same}

-- an endpoint is its host and its port
pub endpoint_is : (e : Endpoint) (host port : ℕ) → e.host ≡ host → e.port ≡ port → e ≡ record { host = host; port = port }
endpoint_is e host port same_host same_port =
    let make : ℕ → ℕ → Endpoint = λ h p. record { host = h; port = p } in
    let whole : make e.host e.port ≡ make host port = cc in
    whole

-- endpoints that pass the test are equal
pub exact_endpoint : (a b : Endpoint) → is_same a b ≡ true → a ≡ b
exact_endpoint a b e =
    let both = and_parts (a.host == b.host) (a.port == b.port) e in
    endpoint_is a b.host b.port (eqb-true _ _ both.0) (eqb-true _ _ both.1)

-- an endpoint passes the test with itself
pub same_endpoint : (a : Endpoint) → is_same a a ≡ true
same_endpoint a =
    ap (λ (x : Bool). x && (a.port == a.port)) (eq-eqb a.host a.host refl) ∙ eq-eqb a.port a.port refl
