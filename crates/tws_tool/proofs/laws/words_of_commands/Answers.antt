use Rattle.tws_tool.proofs.Asking.{asks_for_counted, asks_for_csv, asks_for_moves, asks_for_pack, asks_for_serve, asks_for_show, asks_for_v, asks_for_version}
use Rattle.tws_tool.proofs.laws.words_of_commands.Goals as goal

pub returns-clause-show : goal.returns-clause-show
returns-clause-show c arguments is = asks_for_show arguments is

pub returns-clause-moves : goal.returns-clause-moves
returns-clause-moves c arguments is = asks_for_moves arguments is

pub returns-clause-csv : goal.returns-clause-csv
returns-clause-csv c arguments is = asks_for_csv arguments is

pub returns-clause-pack : goal.returns-clause-pack
returns-clause-pack c = asks_for_pack

pub returns-clause-serve : goal.returns-clause-serve
returns-clause-serve c = asks_for_serve

pub returns-clause-counted : goal.returns-clause-counted
returns-clause-counted c = asks_for_counted

pub returns-clause-version : goal.returns-clause-version
returns-clause-version c = asks_for_version

pub returns-clause-short : goal.returns-clause-short
returns-clause-short c = asks_for_v
