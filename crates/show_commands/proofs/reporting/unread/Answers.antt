use Rattle.std.proofs.Common.{◌≡◌, ◌∙◌, Some, None, sym, subst}
use Rattle.std.specs.List.{Contains}
use Rattle.std.proofs.lemmas.List.Elements.{Contains-get_or}
use Rattle.show_commands.proofs.reporting.unread.Goals as goal

pub returns-in-Some : goal.returns-in-Some
returns-in-Some g c = record {
  file = c.in-Left.file;
  among = subst (λ input. Contains c.args.inputs.now input) (sym c.input-item.is ∙ c.in-Left.is) (Contains-get_or c.args.inputs.now c.loop-input.input-index c.input-item.result c.loop-input-test.true);
  failed = λ none. absurd (let same : Some c.in-Some.cause ≡ None = sym c.in-Some.is ∙ c.error.ensures ∙ none in cc);
  name_is = c.name.ensures;
}
