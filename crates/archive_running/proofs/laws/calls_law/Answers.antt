use Rattle.archive_running.proofs.Call_Moves.{turns-serve, rounds-serve, put-happens, get-happens, put_in_rounds-happens, get_in_rounds-happens, dally-happens}
use Rattle.archive_running.proofs.Sample_Rounds.{put-can}
use Rattle.archive_running.proofs.laws.calls_law.Goals as goal

pub returns-clause-turns : goal.returns-clause-turns
returns-clause-turns c = λ o turns old new taken before after kept now call first last happen there.
    turns-serve o call.served happen there

pub returns-clause-rounds : goal.returns-clause-rounds
returns-clause-rounds c = λ o rounds old new taken before after kept now call first last happen there.
    rounds-serve o call.served happen there

pub returns-clause-put : goal.returns-clause-put
returns-clause-put c = λ o host away file turns result before after call first last happen reached.
    put-happens o host away before call.mid after first last reached file turns result call.begun call.begins call.ends happen

pub returns-clause-get : goal.returns-clause-get
returns-clause-get c = λ o host away rules turns result before after written now call first last happen reached.
    get-happens o host away before call.mid after first last reached rules turns result written now call.begun call.begins call.ends happen

pub returns-clause-put_in_rounds : goal.returns-clause-put_in_rounds
returns-clause-put_in_rounds c = λ o host away file rounds result before after call first last happen reached.
    put_in_rounds-happens o host away before call.mid after first last reached file rounds result call.begun call.begins call.ends happen

pub returns-clause-get_in_rounds : goal.returns-clause-get_in_rounds
returns-clause-get_in_rounds c = λ o host away rules rounds result before after written now call first last happen reached.
    get_in_rounds-happens o host away before call.mid after first last reached rules rounds result written now call.begun call.begins call.ends happen

pub returns-clause-dally : goal.returns-clause-dally
returns-clause-dally c = λ o host away rounds old new before after call first last happen there.
    dally-happens o host away rounds old new before after call first last happen there

pub returns-clause-puts : goal.returns-clause-puts
returns-clause-puts c = put-can
