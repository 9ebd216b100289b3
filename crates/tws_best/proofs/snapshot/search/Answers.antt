use Rattle.std.proofs.Common.{leb, rules}
use Rattle.std.proofs.lemmas.List.Sorted.{IsPartitionPoint-from_clause, IsPartitionedBy-leb}
use Rattle.tws_best.proofs.snapshot.search.Goals as goal

pub returns-clause-point : goal.returns-clause-point
returns-clause-point c =
    let parted = IsPartitionedBy-leb (λ n. n) _ c.args.offset c.requires in
    IsPartitionPoint-from_clause (λ n. leb n c.args.offset) _ _ c.partition_point.ensures.partitioned parted (λ a r q k. search rules)
