use Rattle.std.proofs.Common.{List, ℕ, ◌++◌, ap, subst, ◌∙◌}
use Rattle.std.specs.BTreeMap.{values}
use Rattle.std.specs.Io.KnownBytes.{Appends}
use Rattle.byte_output.specs.Output.{Sends, AppendsPrefix}
use Rattle.byte_output.proofs.Sending.{Sends-push, Sends-then, all_sent, prefix_then, prefix_more, at_err}
use Rattle.tws_best.specs.Best.{collection_header}
use Rattle.tws_best.proofs.BodyTexts.{texts}
use Rattle.tws_best.proofs.Results.{on_ok, on_err}
use Rattle.tws_best.proofs.text.write_parts.Goals as goal

pub returns-in_err-send-clause-err : goal.returns-in_err-send-clause-err
returns-in_err-send-clause-err g c =
    let old = g.W.Write.contents c.args.out.now in
    let new = g.W.Write.contents c.send.new.out in
    let text = ap (λ (x : List ℕ). x ++ c.header_bytes.result) c.new-buffer.ensures ∙ c.header_bytes.ensures in
    let cut = subst (λ (x : List ℕ). AppendsPrefix old new x) text c.in_err-send.ensures.err in
    at_err c.from_residual.result (prefix_more old new (collection_header c.args.ruleset) cut (texts (values c.args.best.now)))

pub returns-in_err-send_bodies-clause-err : goal.returns-in_err-send_bodies-clause-err
returns-in_err-send_bodies-clause-err g c =
    let old = g.W.Write.contents c.args.out.now in
    let mid = g.W.Write.contents c.send.new.out in
    let new = g.W.Write.contents c.send_bodies.new.out in
    let head = collection_header c.args.ruleset in
    let bodies = texts (values c.args.best.now) in
    let first = c.send.new.self in
    let text = ap (λ (x : List ℕ). x ++ c.header_bytes.result) c.new-buffer.ensures ∙ c.header_bytes.ensures in
    let sent = Sends-push old mid mid head first (subst (λ (x : List ℕ). Sends old mid x first) text c.in_ok-send.ensures.ok) bodies in
    at_err c.from_residual-in_err-send_bodies.result (prefix_then old mid new (head ++ bodies) (first ++ bodies) sent c.in_err-send_bodies.ensures.err)

pub returns-clause-ok : goal.returns-clause-ok
returns-clause-ok g c =
    let old = g.W.Write.contents c.args.out.now in
    let mid = g.W.Write.contents c.send.new.out in
    let later = g.W.Write.contents c.send_bodies.new.out in
    let new = g.W.Write.contents c.put.new.out in
    let head = collection_header c.args.ruleset in
    let bodies = texts (values c.args.best.now) in
    let first = c.send.new.self in
    let left = c.send_bodies.new.buffer in
    let text = ap (λ (x : List ℕ). x ++ c.header_bytes.result) c.new-buffer.ensures ∙ c.header_bytes.ensures in
    let sent = Sends-push old mid mid head first (subst (λ (x : List ℕ). Sends old mid x first) text c.in_ok-send.ensures.ok) bodies in
    let both = Sends-then old mid later (head ++ bodies) (first ++ bodies) sent left c.in_ok-send_bodies.ensures.ok in
    on_ok c.put.result (λ last. all_sent old later new (head ++ bodies) left both (subst (λ (x : List ℕ). Appends later new x) c.as_slice.ensures last)) c.put.ensures.ok

pub returns-clause-err : goal.returns-clause-err
returns-clause-err g c =
    let old = g.W.Write.contents c.args.out.now in
    let mid = g.W.Write.contents c.send.new.out in
    let later = g.W.Write.contents c.send_bodies.new.out in
    let new = g.W.Write.contents c.put.new.out in
    let head = collection_header c.args.ruleset in
    let bodies = texts (values c.args.best.now) in
    let first = c.send.new.self in
    let left = c.send_bodies.new.buffer in
    let text = ap (λ (x : List ℕ). x ++ c.header_bytes.result) c.new-buffer.ensures ∙ c.header_bytes.ensures in
    let sent = Sends-push old mid mid head first (subst (λ (x : List ℕ). Sends old mid x first) text c.in_ok-send.ensures.ok) bodies in
    let both = Sends-then old mid later (head ++ bodies) (first ++ bodies) sent left c.in_ok-send_bodies.ensures.ok in
    on_err c.put.result (λ cut. prefix_then old later new (head ++ bodies) left both (subst (λ (x : List ℕ). AppendsPrefix later new x) c.as_slice.ensures cut)) c.put.ensures.err
