use Rattle.std.proofs.Common.{ℕ, List, ◌++◌, ap, ◌∙◌}
use Rattle.std.specs.Prelude.{codes, decimal}
use Rattle.std.specs.Int.{w32, to_be_bytes}
use Rattle.std.specs.Net.Addr.{ipv4_octets}
use Rattle.std.specs.Net.Text.{ipv4_text}
use Rattle.archive_log.proofs.peer.peer_address.Goals as goal

pub returns : goal.returns
returns c =
    let text : List ℕ → ℕ → List ℕ = λ o port. ipv4_text o ++ codes ":" ++ decimal port in
    ap (λ (o : List ℕ). text o c.new.result.port) (ap ipv4_octets c.new.ensures.ip ∙ (c.from.ensures ∙ c.to_be_bytes.ensures)) ∙ ap (text (to_be_bytes w32 c.args.peer.host)) c.new.ensures.port
