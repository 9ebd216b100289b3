-- A merge that is not finished, as contracts see it: the collection as it was at first, and as it is now.
use Rattle.tws_best.specs.declared.merge.Merge.TheInside.{Inside}
use Rattle.tws_best.specs.Best.{Collected}
use Rattle.tws_best.specs.Bodies.{keyed_bodies, pairs_of}
use Rattle.tws_best.specs.Steps.{undone, LeadsBack}

pub record Merging : Type 0 where
  pub first : Collected
  pub now : Collected

abbrev pub merging_of : {A : Type 0} → Inside A → Merging
merging_of m = record {
  first = record { «ruleset» = m.collection.ruleset; entries = keyed_bodies (undone m.done.items (pairs_of m.collection.entries)) };
  now = m.collection;
}

-- the changes lead back to what the collection was at first
abbrev pub IsMerging : {A : Type 0} → Inside A → Type 0
IsMerging m = LeadsBack (undone m.done.items (pairs_of m.collection.entries)) m.done.items (pairs_of m.collection.entries)
