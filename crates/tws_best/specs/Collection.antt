-- A collection as contracts see it, without its layout in memory.
use Rattle.tws_best.specs.declared.collection.Collection.TheInside.{Inside}
use Rattle.tws_best.specs.Best.{Collected}
use Rattle.tws_best.specs.Bodies.{keyed_bodies}

abbrev pub collected : {A : Type 0} → Inside A → Collected
collected c = record { «ruleset» = c.ruleset; entries = keyed_bodies c.best }
