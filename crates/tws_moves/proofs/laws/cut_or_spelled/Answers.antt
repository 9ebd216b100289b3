use Rattle.tws_moves.proofs.Spellings.{cut_or_spelled, cut_spells_nothing, one_place}
use Rattle.tws_moves.proofs.laws.cut_or_spelled.Goals as goal

pub returns-clause-spelled : goal.returns-clause-spelled
returns-clause-spelled c = cut_or_spelled

pub returns-clause-not_both : goal.returns-clause-not_both
returns-clause-not_both c = λ bytes at cut spelled. cut_spells_nothing bytes at spelled.0 cut spelled.1

pub returns-clause-one_place : goal.returns-clause-one_place
returns-clause-one_place c = one_place
