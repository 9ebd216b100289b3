use Rattle.tws_compare.proofs.Ordered.{keys_rise, every_key}
use Rattle.tws_compare.proofs.laws.each_level_once.Goals as goal

pub returns-clause-rising : goal.returns-clause-rising
returns-clause-rising c = keys_rise

pub returns-clause-every : goal.returns-clause-every
returns-clause-every c = every_key
