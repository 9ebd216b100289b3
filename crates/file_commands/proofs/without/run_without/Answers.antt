use Rattle.std.proofs.Common.{◌≡◌, ℕ, List, arith, nat_lt}
use Rattle.std.proofs.lemmas.Bool.{ltb-false, ltb-true}
use Rattle.std.proofs.lemmas.Result.{err_from_is_err_and}
use Rattle.std.specs.Io.KnownBytes.{Appends}
use Rattle.byte_output.specs.Output.{AppendsPrefix}
use Rattle.tws_compare.specs.Without.{text_without}
use Rattle.file_commands.proofs.Removing.{put_without, said_removal, without_some}
use Rattle.file_commands.proofs.Unsaid.{unsaid, unsaid_read_out}
use Rattle.file_commands.proofs.without.run_without.Goals as goal

pub returns-in_err-write_file-clause-fails : goal.returns-in_err-write_file-clause-fails
returns-in_err-write_file-clause-fails g c =
    let old = g.W.Write.contents c.args.out.now in
    let new = g.W.Write.contents c.write_file.new.out in
    let known = g.R.Read.remaining c.args.input.now in
    let p = err_from_is_err_and c.from_residual-in_err-write_file.result c.from_residual-in_err-write_file.ensures.1 in
    rw (p.1, p.2, c.in_err-write_file.ensures.io) (put_without (λ (text : List ℕ). AppendsPrefix old new text) c.args.key c.in_ok-file.file _ known c.in_ok-file.ensures.file.text c.without-left.ensures c.in_err-write_file.ensures.err)

pub returns-clause-left : goal.returns-clause-left
returns-clause-left g c =
    let old = g.W.Write.contents c.args.out.now in
    let new = g.W.Write.contents c.write_file.new.out in
    let known = g.R.Read.remaining c.args.input.now in
    put_without (λ (text : List ℕ). Appends old new text) c.args.key c.in_ok-file.file _ known c.in_ok-file.ensures.file.text c.without-left.ensures c.in_ok-write_file.ensures.ok

pub returns-in_err-say_removal-clause-fails : goal.returns-in_err-say_removal-clause-fails
returns-in_err-say_removal-clause-fails g c =
    let p = err_from_is_err_and c.from_residual-in_err-say_removal.result c.from_residual-in_err-say_removal.ensures.1 in
    rw (p.1, p.2) (unsaid (text_without c.args.key) (without_some c.args.key) c.in_ok-file.file (g.W.Write.contents c.args.out.now) (g.R.Read.remaining c.args.input.now) c.in_ok-file.ensures.file.text _ c.in_err-say_removal.ensures.fails)

pub returns-in_err-say_removal-clause-unreadable : goal.returns-in_err-say_removal-clause-unreadable
returns-in_err-say_removal-clause-unreadable g c =
    let p = err_from_is_err_and c.from_residual-in_err-say_removal.result c.from_residual-in_err-say_removal.ensures.1 in
    rw (p.1, p.2) (unsaid_read_out (g.R.Read.remaining c.read_input.new.input) _ c.in_err-say_removal.ensures.fails)

pub returns-clause-said : goal.returns-clause-said
returns-clause-said g c =
    let before = c.args.errors.now in
    let after = c.say_removal.new.errors in
    said_removal c.args.key c.in_ok-file.file c.without-left.result (nat_lt c.record_count.result c.record_count-count.result) (after ≡ before) (g.R.Read.remaining c.args.input.now)
    (g.E.Write.contents before) (g.E.Write.contents after) c.in_ok-file.ensures.file.text c.without-left.ensures
    (λ e. omega (arith, ltb-true c.record_count.result c.record_count-count.result e, c.record_count-count.ensures, c.record_count.ensures))
    (λ e. omega (arith, ltb-false c.record_count.result c.record_count-count.result e, c.record_count-count.ensures, c.record_count.ensures)) c.in_ok-say_removal.ensures.said
