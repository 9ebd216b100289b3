-- Addresses by their four numbers, and by their texts.
use Rattle.std.proofs.Common.{◌≡◌, [], ◌∷◌, ◌∙◌, ◌+◌, ◌*◌, ℕ, List, ap, get_or, refl, sym, lit≤}
use Rattle.std.proofs.NetLemmas.Ipv4.{read_ipv4_complete}
use Rattle.std.proofs.NetLemmas.Options.{same_parts}
use Rattle.archive_arguments.specs.Address.{IsAddress}
use Rattle.std.specs.declared.net.ipv4_addr.Ipv4Addr.{Ipv4Addr}

-- the address with these four numbers
abbrev pub octets_at : (a b c d : ℕ) → Ipv4Addr
octets_at a b c d = record { octets = a ∷ b ∷ c ∷ d ∷ [] }

-- no text is the address of two hosts
pub one_host : (text : List ℕ) (one other : ℕ) → IsAddress text one → IsAddress text other → one ≡ other
one_host text one other is too =
    let octets = is.a ∷ is.b ∷ is.c ∷ is.d ∷ [] in
    let others = too.a ∷ too.b ∷ too.c ∷ too.d ∷ [] in
    let read_one = read_ipv4_complete text octets [] (record { a = is.a; b = is.b; c = is.c; d = is.d; fit = is.fit; value = refl; spelled = is.spelled }) (lit≤ tt) in
    let read_other = read_ipv4_complete text others [] (record { a = too.a; b = too.b; c = too.c; d = too.d; fit = too.fit; value = refl; spelled = too.spelled }) (lit≤ tt) in
    let same = (same_parts octets others [] [] (sym read_one ∙ read_other)).0 in
    is.host_is ∙ ap (λ (o : List ℕ). ((get_or o 0 0 * 256 + get_or o 1 0) * 256 + get_or o 2 0) * 256 + get_or o 3 0) same ∙ sym too.host_is
