use Rattle.std.proofs.Common.{◌≡◌, ℕ, Bool, true, List, Option, IfOk, sym, subst, string_bytes}
use Rattle.file_commands.specs.Compare.{ComparesInputs, SaysOfTwo, compare_status}
use Rattle.file_commands.proofs.Comparing.{compares_inputs, still_said}
use Rattle.file_commands.proofs.compare.run.Goals as goal

pub returns-in-Ok-clause-ran : goal.returns-in-Ok-clause-ran
returns-in-Ok-clause-ran g c =
    let old = g.W.Write.contents c.args.out.now in
    let new = g.W.Write.contents c.run_compare-done.new.out in
    let bytes_of = g.S.FileSystem.bytes_of c.args.system.now in
    let arguments = c.args.arguments.now in
    let better = arguments.better in
    let done = c.run_compare-done.result in
    let ran = compares_inputs better (g.S.File.Read.remaining c.in-Ok.mine) (g.S.File.Read.remaining c.in-Ok.theirs) old new done
    c.run_compare-done.ensures.compared c.run_compare-done.ensures.fails in
    subst (λ (n : ℕ). ComparesInputs better (bytes_of (string_bytes arguments.mine)) (bytes_of (string_bytes arguments.theirs)) n old new) (sym c.end.ensures.status)
    (subst (λ (t : Option (List ℕ)). ComparesInputs better (bytes_of (string_bytes arguments.mine)) t (compare_status done) old new) c.in-Ok.ensures.theirs
    (subst (λ (m : Option (List ℕ)). ComparesInputs better m (g.S.File.Read.remaining c.in-Ok.theirs) (compare_status done) old new) c.in-Ok.ensures.mine ran))

pub returns-in-Ok-clause-said : goal.returns-in-Ok-clause-said
returns-in-Ok-clause-said g c =
    let bytes_of = g.S.FileSystem.bytes_of c.args.system.now in
    let arguments = c.args.arguments.now in
    let done = c.run_compare-done.result in
    let before = c.args.errors.now in
    let start = c.open_two.new.errors in
    let left = c.run_compare-done.new.errors in
    let said = subst (λ (t : Option (List ℕ)). IfOk done (λ (same : Bool). same ≡ true → SaysOfTwo arguments (left ≡ start) (bytes_of (string_bytes arguments.mine)) t (g.E.Write.contents start) (g.E.Write.contents left))) c.in-Ok.ensures.theirs
    (subst (λ (m : Option (List ℕ)). IfOk done (λ (same : Bool). same ≡ true → SaysOfTwo arguments (left ≡ start) m (g.S.File.Read.remaining c.in-Ok.theirs) (g.E.Write.contents start) (g.E.Write.contents left))) c.in-Ok.ensures.mine c.run_compare-done.ensures.said) in
    let said_since = subst (λ (e : g.row.E.Denot). IfOk done (λ (same : Bool). same ≡ true → SaysOfTwo arguments (left ≡ e) (bytes_of (string_bytes arguments.mine)) (bytes_of (string_bytes arguments.theirs)) (g.E.Write.contents e) (g.E.Write.contents left))) c.in-Ok.ensures.silent said in
    still_said (λ (e : g.row.E.Denot). SaysOfTwo arguments (e ≡ before) (bytes_of (string_bytes arguments.mine)) (bytes_of (string_bytes arguments.theirs)) (g.E.Write.contents before) (g.E.Write.contents e))
    left c.end.new.errors done c.end.result c.end.ensures.status said_since c.end.ensures.silent
