use Rattle.std.proofs.Common.{◌++◌, List, [], ℕ, ap, refl, subst, ◌∙◌}
use Rattle.std.specs.Prelude.{option_copied}
use Rattle.std.specs.List.{flat_map}
use Rattle.std.specs.Io.KnownBytes.{Appends}
use Rattle.std.proofs.lemmas.Result.{on_ok_weaker, on_err_weaker}
use Rattle.byte_output.specs.Output.{AppendsPrefix}
use Rattle.byte_output.proofs.Sending.{at_err}
use Rattle.tws_pages.specs.Page.{page_end, page_head}
use Rattle.tws_pages.specs.LevelPage.{level_page}
use Rattle.tws_pages.specs.LevelTable.{level_section}
use Rattle.tws_pages.specs.SideBySide.{side_by_side}
use Rattle.tws_pages.proofs.Wholes.{none_written, page_end_some, prefix_from_empty}
use Rattle.tws_pages.proofs.level_page.write_level_page.Goals as goal

pub returns-in_err-push_page-clause-err : goal.returns-in_err-push_page-clause-err
returns-in_err-push_page-clause-err g c =
    let old = g.W.Write.contents c.args.out.now in
    let head = page_head (option_copied c.args.title) ++ side_by_side c.args.levels.now c.args.files.now in
    let sections = flat_map (level_section c.args.levels.now) c.args.files.now in
    at_err c.from_residual.result
    (prefix_from_empty old old [] (head ++ sections ++ page_end) refl (none_written old old [] head sections page_end ([] ++ head) refl page_end_some))

pub returns-clause-ok : goal.returns-clause-ok
returns-clause-ok g c =
    let old = g.W.Write.contents c.args.out.now in
    let new = g.W.Write.contents c.put.new.out in
    let page = level_page (option_copied c.args.title) c.args.levels.now c.args.files.now in
    on_ok_weaker c.put.result
    (λ p. subst (λ (bytes : List ℕ). Appends old new bytes) (c.as_bytes.ensures.value ∙ c.in_ok-push_page.ensures ∙ ap (λ (x : List ℕ). x ++ page) c.new-text.ensures.bytes) p)
    c.put.ensures.ok

pub returns-clause-err : goal.returns-clause-err
returns-clause-err g c =
    let old = g.W.Write.contents c.args.out.now in
    let new = g.W.Write.contents c.put.new.out in
    let page = level_page (option_copied c.args.title) c.args.levels.now c.args.files.now in
    on_err_weaker c.put.result
    (λ p. subst (λ (bytes : List ℕ). AppendsPrefix old new bytes) (c.as_bytes.ensures.value ∙ c.in_ok-push_page.ensures ∙ ap (λ (x : List ℕ). x ++ page) c.new-text.ensures.bytes) p)
    c.put.ensures.err
