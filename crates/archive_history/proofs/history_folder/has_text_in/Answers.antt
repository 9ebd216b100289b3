use Rattle.std.proofs.Common.{ℕ, ap, ◌++◌, ◌∙◌, sym, take, Some}
use Rattle.archive_history.proofs.history_folder.has_text_in.Goals as goal

pub returns-in-Ok : goal.returns-in-Ok
returns-in-Ok g c = λ whole.
    let before = ap (λ (n : ℕ). take n c.new-matching.result.wanted.now ++ g.C.Contents.text c.args.text.now) c.new-matching.ensures.none in
    ap Some (sym (c.in-Ok.ensures ∙ before) ∙ c.has_all.ensures whole) ∙ c.in-Some.ensures
