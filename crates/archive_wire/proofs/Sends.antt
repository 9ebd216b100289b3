-- What the calls of a wire are after the datagram of a step, if there is one, was given to it.
use Rattle.std.specs.Prelude.{◌≡◌, List, [], ◌∷◌, Option, None, Some, Bool, true}
use Rattle.std.proofs.Common.{sym, subst}
use Rattle.tftp_packet.specs.declared.out.Out.{Out}
use Rattle.archive_wire.specs.Wire.{Entry, Grows, sent, SendsOut}
use Rattle.archive_wire.proofs.Growing.{grows_none}

-- the step's datagram is sent
pub sends_some : {before after : Option (List Entry)} (reply : Option Out) (out : Out) (ok : Bool) → reply ≡ Some out → Grows before after (sent out ok ∷ []) → SendsOut reply before after
sends_some {before} {after} reply out ok e grows =
    let here : SendsOut (Some out) before after = record { ok = ok; grows = grows } in
    subst (λ (o : Option Out). SendsOut o before after) (sym e) here

-- a step without a datagram sends nothing
pub sends_none : (log : Option (List Entry)) (reply : Option Out) → reply ≡ None → SendsOut reply log log
sends_none log reply e =
    let here : SendsOut None log log = record { ok = true; grows = grows_none log } in
    subst (λ (o : Option Out). SendsOut o log log) (sym e) here
