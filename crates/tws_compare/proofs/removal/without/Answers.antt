use Rattle.std.proofs.Common.{not, sym, subst}
use Rattle.std.specs.List.{AllByRecursion}
use Rattle.tws_file.specs.Text.{IsRecord}
use Rattle.tws_compare.specs.Without.{solves}
use Rattle.tws_compare.proofs.Filters.{all_kept}
use Rattle.tws_compare.proofs.removal.without.Goals as goal

pub invariant_of-result : goal.invariant_of-result
invariant_of-result g c =
    let file = c.file.invariant in
    record {
      word = file.word;
      word_length = file.word_length;
      extra = file.extra;
      extra_length = file.extra_length;
      records = subst (AllByRecursion IsRecord) (sym c.records_without.ensures)
          (all_kept (λ r. not (solves c.args.key r)) IsRecord c.file.inside.records file.records);
    }
