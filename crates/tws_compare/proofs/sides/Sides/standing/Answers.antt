use Rattle.std.proofs.Common.{Some, None, ◌∙◌}
use Rattle.tws_compare.proofs.Lookups.{body_found, body_absent, standing_is}
use Rattle.tws_compare.proofs.sides.Sides.standing.Goals as goal

pub returns-in-Some-Some : goal.returns-in-Some-Some
returns-in-Some-Some g c =
    let mine = c.self.inside.mine in
    let theirs = c.self.inside.theirs in
    let m = c.in-Some-Some.mine.now in
    let t = c.in-Some-Some.theirs.now in
    let m-found = body_found mine.entries c.args.key m c.self.invariant.mine.rising c.in-Some-Some.ensures.found in
    let t-found = body_found theirs.entries c.args.key t c.self.invariant.theirs.rising c.in-Some-Some.ensures'.found in
    c.standing_by_rank.ensures ∙ standing_is c.args.self.now mine.entries theirs.entries c.args.key (Some m) (Some t) c.self.view_is m-found t-found

pub returns-in-Some-None : goal.returns-in-Some-None
returns-in-Some-None g c =
    let mine = c.self.inside.mine in
    let theirs = c.self.inside.theirs in
    let m = c.in-Some-None.field-0-0.now in
    let m-found = body_found mine.entries c.args.key m c.self.invariant.mine.rising c.in-Some-None.ensures.found in
    let t-found = body_absent theirs.entries c.args.key c.in-Some-None.ensures'.absent in
    standing_is c.args.self.now mine.entries theirs.entries c.args.key (Some m) None c.self.view_is m-found t-found

pub returns-in-None-Some : goal.returns-in-None-Some
returns-in-None-Some g c =
    let mine = c.self.inside.mine in
    let theirs = c.self.inside.theirs in
    let t = c.in-None-Some.field-0-1.now in
    let m-found = body_absent mine.entries c.args.key c.in-None-Some.ensures.absent in
    let t-found = body_found theirs.entries c.args.key t c.self.invariant.theirs.rising c.in-None-Some.ensures'.found in
    standing_is c.args.self.now mine.entries theirs.entries c.args.key None (Some t) c.self.view_is m-found t-found

pub returns-in-None-None : goal.returns-in-None-None
returns-in-None-None g c =
    let mine = c.self.inside.mine in
    let theirs = c.self.inside.theirs in
    let m-found = body_absent mine.entries c.args.key c.in-None-None.ensures.absent in
    let t-found = body_absent theirs.entries c.args.key c.in-None-None.ensures'.absent in
    standing_is c.args.self.now mine.entries theirs.entries c.args.key None None c.self.view_is m-found t-found
