use Rattle.std.proofs.Common.{sym, subst}
use Rattle.std.specs.List.{AllByRecursion}
use Rattle.tws_file.specs.Text.{IsRecord}
use Rattle.tws_compare.specs.Compare.{improves}
use Rattle.tws_compare.proofs.Filters.{all_kept}
use Rattle.tws_compare.proofs.comparing.only_improvements.Goals as goal

pub invariant_of-result : goal.invariant_of-result
invariant_of-result g c =
    let file = c.mine.invariant in
    record {
      word = file.word;
      word_length = file.word_length;
      extra = file.extra;
      extra_length = file.extra_length;
      records = subst (AllByRecursion IsRecord) (sym c.improvements.ensures) (all_kept (improves c.args.sides.now) IsRecord c.mine.inside.records file.records);
    }
