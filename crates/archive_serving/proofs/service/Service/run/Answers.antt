use Rattle.std.proofs.Common.{◌∙◌, ℕ, Bool, List, Bor, codes, option_map, unwrap_or, subst}
use Rattle.archive_serving.specs.Serve.{HasUsable, ReportsServed}
use Rattle.archive_serving.proofs.Listening.{ends_so, served, server_served, name_given}
use Rattle.archive_serving.proofs.service.Service.run.Goals as goal

pub returns-clause-served : goal.returns-clause-served
returns-clause-served g c turns limit-is =
    let made = server_served (HasUsable g.K.ServedKeeper.usable g.K.Keeper.calls) turns _ _ _ _ _ _ _ _ _ _ limit-is c.requires.fresh in
    served _ _ _ turns _ _ _ _ _ _ _ _ c.serve-done.result
    (λ is. c.end_serving.ensures.usable (c.is_usable.ensures ∙ is)) (λ is. c.end_serving.ensures.unknown (c.is_usable.ensures ∙ is))
    (ends_so _ _ _ _ _ _ _ (λ same. same.2) made c.serve-done.result c.serve-done.ensures)

pub returns-clause-printed : goal.returns-clause-printed
returns-clause-printed g c =
    let old = g.E.Write.contents c.args.errors.now in
    let new = g.E.Write.contents c.end_serving.new.errors in
    let name = unwrap_or (option_map (λ (name : Bor (List ℕ)). name.now) c.args.self.now.folder) (codes "memory") in (
      c.serve-done.result,
      c.replaced.result,
      subst (λ (usable : Bool). ReportsServed usable c.serve-done.result c.replaced.result name old new) c.is_usable.ensures
          (subst (λ (n : List ℕ). ReportsServed c.is_usable.result c.serve-done.result c.replaced.result n old new) (name_given c.args.self.now.folder _ c.unwrap_or-name.result c.unwrap_or-name.ensures) c.end_serving.ensures.printed),
    )
