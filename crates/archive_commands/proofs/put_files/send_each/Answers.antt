use Rattle.std.proofs.Common.{◌≡◌, ◌∙◌, ℕ, Bool, List, ◌∷◌, length, Global, Vec, map, arith, sym, subst, string_bytes}
use Rattle.std.specs.Vec.Iter.{into_iter_items}
use Rattle.archive_commands.specs.PutFiles.{SendsEach}
use Rattle.archive_commands.proofs.Files.{few_now, first_index, leads_end, leads_next, leads_out, no_usage_now, only_now, readable_now, zero_now}
use Rattle.archive_commands.proofs.Said.{each_more}
use Rattle.archive_commands.proofs.put_files.send_each.Goals as goal

pub returns-in_default-clause-sends : goal.returns-in_default-clause-sends
returns-in_default-clause-sends g c =
    let at = c.loop-source in
    let items : Vec ℕ Global → List ℕ = λ (text : Vec ℕ Global). text.items in
    let before = g.N.Wire.calls c.args.wire.now in
    let after = g.N.Wire.calls at.wire in
    let old = g.W.Write.contents c.args.out.now in
    let new = g.W.Write.contents at.out in
    let none : length (into_iter_items at.texts) ≡ 0 = sym at.texts.rest.ok.0 ∙ c.in_default.ensures.cases.0 in
    subst (λ (b : Bool). SendsEach c.args.arguments.now.better b c.args.to c.args.sources.now (map items c.args.texts.items) at.status before after old new) c.are_several-several.ensures
    (leads_out c.args.arguments.now.better c.are_several-several.result c.args.to c.args.sources.now (map items c.args.texts.items) before old items at.source-index (into_iter_items at.texts) at.status after new none at.invariant.leads)

pub loop-source-preserved : goal.loop-source-preserved
loop-source-preserved g c =
    let at = c.loop-source in
    let items : Vec ℕ Global → List ℕ = λ (text : Vec ℕ Global). text.items in
    let several = c.are_several-several.result in
    let one = c.send_one-one.result in
    let sent = c.send_one-one.ensures in
    let among = c.status_among.result in
    let now = c.first_of-status.result in
    let among-is = c.status_among.ensures in
    let now-is = c.first_of-status.ensures in
    let left : into_iter_items at.texts ≡ c.in-Some.text ∷ into_iter_items c.next.new.self = c.in-Some.ensures.items in
    record {
      leads = leads_next c.args.arguments.now.better several c.args.to c.args.sources.now (map items c.args.texts.items) (g.N.Wire.calls c.args.wire.now) (g.W.Write.contents c.args.out.now)
          items at.source-index c.source-item.result (into_iter_items at.texts) (into_iter_items c.next.new.self) c.in-Some.text at.status one among now
          (g.N.Wire.calls at.wire) (g.N.Wire.calls c.send_one-one.new.wire) (g.W.Write.contents at.out) (g.W.Write.contents c.send_one-one.new.out)
          c.loop-source-test.true c.source-item.is left among-is now-is at.invariant.leads sent.sends;
      usage = no_usage_now several at.status one among now among-is now-is at.invariant.usage sent.usage;
      few = few_now several at.status one among now among-is now-is at.invariant.few sent.few;
      readable = λ is. readable_now several at.status one among now among-is now-is at.invariant.readable is;
      begun = λ zero. absurd (omega (arith, zero));
      unwritten = λ single some other.
          let first = at.invariant.begun (first_index c.args.sources.now several at.source-index c.loop-source-test.true c.are_several-several.ensures single) in
          let same = only_now several at.status one among now among-is now-is single first.0 in
          sent.unwritten (λ zero. some (same ∙ zero)) (λ two. other (same ∙ two)) ∙ first.1;
      printed = each_more several (string_bytes c.args.arguments.now.target.address) c.args.sources.now at.source-index c.source-item.result (g.E.Write.contents c.args.errors.now) (g.E.Write.contents at.errors) (g.E.Write.contents c.send_one-one.new.errors)
          one (g.N.TransferWire.refusal_of c.send_one-one.new.wire) (g.N.TransferWire.reached_of c.send_one-one.new.wire) c.loop-source-test.true c.source-item.is at.invariant.printed sent.printed;
      silent = λ zero.
          let both = zero_now several at.status one among now among-is now-is zero in
          sent.silent both.1 ∙ at.invariant.silent both.0;
    }

pub returns-clause-sends : goal.returns-clause-sends
returns-clause-sends g c =
    let at = c.loop-source in
    let items : Vec ℕ Global → List ℕ = λ (text : Vec ℕ Global). text.items in
    let before = g.N.Wire.calls c.args.wire.now in
    let after = g.N.Wire.calls at.wire in
    let old = g.W.Write.contents c.args.out.now in
    let new = g.W.Write.contents at.out in
    subst (λ (b : Bool). SendsEach c.args.arguments.now.better b c.args.to c.args.sources.now (map items c.args.texts.items) at.status before after old new) c.are_several-several.ensures
    (leads_end c.args.arguments.now.better c.are_several-several.result c.args.to c.args.sources.now (map items c.args.texts.items) before old at.source-index (map items (into_iter_items at.texts)) at.status after new
    (omega (arith, c.loop-source-test.false)) at.invariant.leads)
