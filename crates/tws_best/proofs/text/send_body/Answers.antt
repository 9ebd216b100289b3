use Rattle.std.proofs.Common.{List, ℕ, ◌++◌, length, ap, subst}
use Rattle.byteorder.specs.Endian.{little_bytes}
use Rattle.byte_output.specs.Output.{Sends, AppendsPrefix}
use Rattle.byte_output.proofs.Sending.{first_prefix, both_sent, both_prefix, at_err}
use Rattle.tws_best.proofs.Results.{on_ok, on_err}
use Rattle.tws_best.proofs.text.send_body.Goals as goal

pub returns-in_err-send-clause-err : goal.returns-in_err-send-clause-err
returns-in_err-send-clause-err g c =
    let old = g.W.Write.contents c.args.out.now in
    let new = g.W.Write.contents c.send.new.out in
    let b = c.args.buffer.now in
    let body = c.args.body.now in
    let pushed = ap (λ (x : List ℕ). b ++ x) c.size_bytes.ensures in
    at_err c.from_residual.result (first_prefix old new new b (little_bytes 4 (length body)) body (b ++ c.size_bytes.result) b pushed c.in_err-send.ensures.err)

pub returns-clause-ok : goal.returns-clause-ok
returns-clause-ok g c =
    let old = g.W.Write.contents c.args.out.now in
    let mid = g.W.Write.contents c.send.new.out in
    let new = g.W.Write.contents c.send-2.new.out in
    let b = c.args.buffer.now in
    let first = c.send.new.self in
    let left = c.send-2.new.self in
    let body = c.args.body.now in
    let pushed = ap (λ (x : List ℕ). b ++ x) c.size_bytes.ensures in
    on_ok c.send-2.result (λ second. both_sent old mid new b (little_bytes 4 (length body)) body
    (b ++ c.size_bytes.result) first pushed c.in_ok-send.ensures.ok left
    (subst (λ (x : List ℕ). Sends mid new (first ++ x) left) c.as_slice.ensures.bytes second)) c.send-2.ensures.ok

pub returns-clause-err : goal.returns-clause-err
returns-clause-err g c =
    let old = g.W.Write.contents c.args.out.now in
    let mid = g.W.Write.contents c.send.new.out in
    let new = g.W.Write.contents c.send-2.new.out in
    let b = c.args.buffer.now in
    let first = c.send.new.self in
    let body = c.args.body.now in
    let pushed = ap (λ (x : List ℕ). b ++ x) c.size_bytes.ensures in
    on_err c.send-2.result
    (λ second. both_prefix old mid new b (little_bytes 4 (length body)) body
    (b ++ c.size_bytes.result) first pushed c.in_ok-send.ensures.ok
    (subst (λ (x : List ℕ). AppendsPrefix mid new (first ++ x)) c.as_slice.ensures.bytes second)) c.send-2.ensures.err
