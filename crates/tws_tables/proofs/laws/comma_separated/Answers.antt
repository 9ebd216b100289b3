use Rattle.tws_tables.proofs.Unquoted.{csv_read, csv_written}
use Rattle.tws_tables.proofs.laws.comma_separated.Goals as goal

pub returns-clause-written : goal.returns-clause-written
returns-clause-written c = csv_written

pub returns-clause-read_back : goal.returns-clause-read_back
returns-clause-read_back c = csv_read
