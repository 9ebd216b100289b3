use Rattle.std.proofs.Common.{refl}
use Rattle.archive_arguments.proofs.Addresses.{octets_at}
use Rattle.archive_arguments.proofs.address.Address.read.Goals as goal

pub returns-in-Err-clause-none : goal.returns-in-Err-clause-none
returns-in-Err-clause-none c = λ host is.
    c.in-Err.ensures.value (octets_at is.a is.b is.c is.d) (record { a = is.a; b = is.b; c = is.c; d = is.d; fit = is.fit; value = refl; spelled = is.spelled })
