use Rattle.std.proofs.Common.{rules, ◌≡◌, string_bytes, subst}
use Rattle.archive_serving.specs.Hosts.{IsNoList}
use Rattle.archive_serving.proofs.serve.ServeArguments.putters.Goals as goal

pub returns-in-None-clause-none : goal.returns-in-None-clause-none
returns-in-None-clause-none c =
    let text : c.as_str.result.now ≡ string_bytes c.in-Some.text = search rules in
    rw c.in-Some.is (subst IsNoList text c.in-None.ensures.none)
