use Rattle.archive_theorem.proofs.Keeper_Folders.{loaded-over, own-texts}
use Rattle.archive_theorem.proofs.Keeper_Holds.{never-worse, loads-promised, cut-promised}
use Rattle.archive_theorem.proofs.Progress_Frees.{run_from-freed}
use Rattle.archive_theorem.proofs.Progress_Put.{run_from-puts, run_from-unstuck}
use Rattle.archive_theorem.proofs.Progress_Get.{run_from-gets, run_from-get_unstuck}
use Rattle.archive_theorem.proofs.laws.folder_law.Goals as goal

pub returns-clause-loaded : goal.returns-clause-loaded
returns-clause-loaded c = loaded-over

pub returns-clause-own : goal.returns-clause-own
returns-clause-own c = own-texts

pub returns-clause-no_worse : goal.returns-clause-no_worse
returns-clause-no_worse c = never-worse

pub returns-clause-promised : goal.returns-clause-promised
returns-clause-promised c = loads-promised

pub returns-clause-cut : goal.returns-clause-cut
returns-clause-cut c = cut-promised

pub returns-clause-freed : goal.returns-clause-freed
returns-clause-freed c = run_from-freed

pub returns-clause-in_turn : goal.returns-clause-in_turn
returns-clause-in_turn c = run_from-puts

pub returns-clause-get_in_turn : goal.returns-clause-get_in_turn
returns-clause-get_in_turn c = run_from-gets

pub returns-clause-unstuck : goal.returns-clause-unstuck
returns-clause-unstuck c = run_from-unstuck

pub returns-clause-get_unstuck : goal.returns-clause-get_unstuck
returns-clause-get_unstuck c = run_from-get_unstuck
