use Rattle.tws_best.proofs.Sets.{one_more_text, one_more_unreadable}
use Rattle.tws_best.proofs.laws.one_more_text.Goals as goal

pub returns-clause-readable : goal.returns-clause-readable
returns-clause-readable c = one_more_text

pub returns-clause-unreadable : goal.returns-clause-unreadable
returns-clause-unreadable c = one_more_unreadable
