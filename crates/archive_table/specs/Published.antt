-- A collection that players can fetch, without its layout in memory.
use Rattle.std.specs.Prelude.{◌≡◌, IfSome}
use Rattle.archive_table.specs.declared.published.Published.TheInside.{Inside}
use Rattle.tws_best.specs.Best.{Collected, collection_text}
use Rattle.tws_best.specs.Frozen.{frozen_text}

abbrev pub published_in : {A : Type 0} → Inside A → Collected
published_in s = s.collection

-- the snapshot is that of the collection
abbrev pub HasOwnText : {A : Type 0} → Inside A → Type 0
HasOwnText s = IfSome s.snapshot (λ snapshot. frozen_text snapshot.value ≡ collection_text s.collection)
