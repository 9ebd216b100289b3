use Rattle.std.specs.Prelude.{vec_len}
use Rattle.std.proofs.Common.{◌∙◌, sym, rules}
use Rattle.std.proofs.lemmas.Map.Views.{exact_unsigned_eq}
use Rattle.tws_reader.proofs.InParts.{none_at_all, going_on, ends_whole, ends_cut}
use Rattle.tws_reader.proofs.part_reader.PartReader.end.Goals as goal

pub returns-in-Some-header-clause-ends : goal.returns-in-Some-header-clause-ends
returns-in-Some-header-clause-ends g c = λ records bytes h.
    let r = c.self.inside in
    let none = exact_unsigned_eq (vec_len r.rest) 0 (sym c.is_empty.ensures ∙ c.if-is_empty.true) in
    ends_whole c.in-Some-header.header r.rest.items bytes records r.offset (none_at_all r.rest.items (sym r.rest.ok.0 ∙ none))
    (going_on c.args.self r.fault r.header _ r.offset r.rest.items records bytes c.self.view_is c.in_default.is c.in-Some-header.is h)

pub returns-in-Some-2-clause-ends : goal.returns-in-Some-2-clause-ends
returns-in-Some-2-clause-ends g c = λ records bytes h.
    let r = c.self.inside in
    ends_cut c.in-Some-2.field-0 r.rest.items bytes records r.offset (λ none. search rules)
    (going_on c.args.self r.fault r.header _ r.offset r.rest.items records bytes c.self.view_is c.in_default.is c.in-Some-2.is h)
