use Rattle.archive_theorem.proofs.Sample_Outcomes.{request_twice-comes, late_ack-comes, crossed_get-comes, unanswered-comes, strange_put-comes, restart_between-comes, empty_put-comes, empty_get-comes, lost_block-comes, barred_strays-comes}
use Rattle.archive_theorem.proofs.Sample_Put.{empty_put-own, empty_put-merged}
use Rattle.archive_theorem.proofs.Sample_Premises.{crossed_get-meets, strange_put-meets, restart_between-meets, opened_again-breaks}
use Rattle.archive_theorem.proofs.Sample_Reuse.{reused_elsewhere-comes, reused_elsewhere-meets, begun_twice-fails, opened_twice-fails, strayed_there-fails}
use Rattle.archive_theorem.proofs.laws.sample_runs.Goals as goal

pub returns-clause-twice : goal.returns-clause-twice
returns-clause-twice c = request_twice-comes

pub returns-clause-late : goal.returns-clause-late
returns-clause-late c = late_ack-comes

pub returns-clause-crossed : goal.returns-clause-crossed
returns-clause-crossed c = crossed_get-comes

pub returns-clause-unanswered : goal.returns-clause-unanswered
returns-clause-unanswered c = unanswered-comes

pub returns-clause-strange : goal.returns-clause-strange
returns-clause-strange c = strange_put-comes

pub returns-clause-restarted : goal.returns-clause-restarted
returns-clause-restarted c = restart_between-comes

pub returns-clause-empty : goal.returns-clause-empty
returns-clause-empty c = empty_put-comes

pub returns-clause-fetched_empty : goal.returns-clause-fetched_empty
returns-clause-fetched_empty c = empty_get-comes

pub returns-clause-repeated : goal.returns-clause-repeated
returns-clause-repeated c = lost_block-comes

pub returns-clause-barred : goal.returns-clause-barred
returns-clause-barred c = barred_strays-comes

pub returns-clause-crossed_premises : goal.returns-clause-crossed_premises
returns-clause-crossed_premises c = crossed_get-meets

pub returns-clause-strange_premises : goal.returns-clause-strange_premises
returns-clause-strange_premises c = strange_put-meets

pub returns-clause-restarted_premises : goal.returns-clause-restarted_premises
returns-clause-restarted_premises c = restart_between-meets

pub returns-clause-premises : goal.returns-clause-premises
returns-clause-premises c = (empty_put-own, empty_put-merged)

pub returns-clause-opened_again : goal.returns-clause-opened_again
returns-clause-opened_again c = opened_again-breaks

pub returns-clause-reused_elsewhere : goal.returns-clause-reused_elsewhere
returns-clause-reused_elsewhere c = reused_elsewhere-comes

pub returns-clause-reused_premises : goal.returns-clause-reused_premises
returns-clause-reused_premises c = reused_elsewhere-meets

pub returns-clause-begun_twice : goal.returns-clause-begun_twice
returns-clause-begun_twice c = begun_twice-fails

pub returns-clause-opened_twice : goal.returns-clause-opened_twice
returns-clause-opened_twice c = opened_twice-fails

pub returns-clause-strayed_there : goal.returns-clause-strayed_there
returns-clause-strayed_there c = strayed_there-fails
