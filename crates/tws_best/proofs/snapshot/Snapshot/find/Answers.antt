use Rattle.std.proofs.Common.{◌-◌, ap, length, arith, subst, sym, ◌∙◌}
use Rattle.std.specs.List.Sorted.{IsNonDecreasing}
use Rattle.tws_best.proofs.Starts.{starts_rise, found_in, start_read}
use Rattle.tws_best.proofs.snapshot.Snapshot.find.Goals as goal

pub search-index-requires : goal.search-index-requires
search-index-requires g c =
    subst IsNonDecreasing (sym (c.deref.ensures.value ∙ c.self.invariant.starts)) (starts_rise 8 c.self.inside.bodies.items)

pub overflow_sub-index : goal.overflow_sub-index
overflow_sub-index g c =
    let found = found_in _ c.args.self.now c.deref.result.now c.args.offset c.search-index.result c.self.view_is
    (c.deref.ensures.value ∙
    c.self.invariant.starts) c.requires.first c.requires.last c.search-index.ensures.bound c.search-index.ensures.point in
    found.past

pub index-requires : goal.index-requires
index-requires g c =
    let found = found_in _ c.args.self.now c.deref.result.now c.args.offset c.search-index.result c.self.view_is
    (c.deref.ensures.value ∙
    c.self.invariant.starts) c.requires.first c.requires.last c.search-index.ensures.bound c.search-index.ensures.point in
    omega (arith, found.counted, c.self.inside.starts.ok, ap length c.deref.ensures.value)

pub overflow_sub-skip : goal.overflow_sub-skip
overflow_sub-skip g c =
    let found = found_in _ c.args.self.now c.deref.result.now c.args.offset c.search-index.result c.self.view_is
    (c.deref.ensures.value ∙
    c.self.invariant.starts) c.requires.first c.requires.last c.search-index.ensures.bound c.search-index.ensures.point in
    let start = start_read c.deref.result.now c.self.inside.starts.items (c.search-index.result - 1) c.index.result.now c.deref.ensures.value found.counted c.index.ensures in
    omega (arith, start, found.low)

pub returns-clause-inside : goal.returns-clause-inside
returns-clause-inside g c =
    let found = found_in _ c.args.self.now c.deref.result.now c.args.offset c.search-index.result c.self.view_is
    (c.deref.ensures.value ∙
    c.self.invariant.starts) c.requires.first c.requires.last c.search-index.ensures.bound c.search-index.ensures.point in
    found.inside

pub returns-clause-within : goal.returns-clause-within
returns-clause-within g c =
    let found = found_in _ c.args.self.now c.deref.result.now c.args.offset c.search-index.result c.self.view_is
    (c.deref.ensures.value ∙
    c.self.invariant.starts) c.requires.first c.requires.last c.search-index.ensures.bound c.search-index.ensures.point in
    let start = start_read c.deref.result.now c.self.inside.starts.items (c.search-index.result - 1) c.index.result.now c.deref.ensures.value found.counted c.index.ensures in
    omega (arith, start, found.low, found.within)

pub returns-clause-is : goal.returns-clause-is
returns-clause-is g c =
    let found = found_in _ c.args.self.now c.deref.result.now c.args.offset c.search-index.result c.self.view_is
    (c.deref.ensures.value ∙
    c.self.invariant.starts) c.requires.first c.requires.last c.search-index.ensures.bound c.search-index.ensures.point in
    let start = start_read c.deref.result.now c.self.inside.starts.items (c.search-index.result - 1) c.index.result.now c.deref.ensures.value found.counted c.index.ensures in
    omega (arith, start, found.low, found.is)
