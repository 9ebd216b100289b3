use Rattle.std.proofs.Common.{Some, None, arith}
use Rattle.std.proofs.lemmas.Str.Pattern.{split_parts}
use Rattle.archive_serving.proofs.Listing.{split_at, split_lacks}
use Rattle.archive_serving.proofs.host_list.cut.Goals as goal

pub returns-in-Some : goal.returns-in-Some
returns-in-Some c =
    let parts = split_parts 44 c.args.text.now (Some (c.in-Some.first, c.in-Some.rest)) c.in-Some.ensures.cases (omega arith) in
    rw parts.0 (split_at 44 _ _ parts.1)

pub returns-in-None : goal.returns-in-None
returns-in-None c = split_lacks 44 _ (split_parts 44 c.args.text.now None c.in-None.ensures.cases (omega arith))
