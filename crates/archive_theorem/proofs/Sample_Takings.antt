-- A run in which each file taken has made the collections after it: only the steps that take one have to be looked at. So
-- the premise of a worked run is one member for each file that it takes.
use Rattle.std.proofs.Common.{List, [], ◌∷◌, length, drop, ap, ◌∙◌, subst}
use Rattle.std.proofs.Math.Seq.{drop-append_seam}
use Rattle.archive_table.specs.Table.{Maps, Taken, IsMerged}
use Rattle.archive_model.specs.World.{WorldStep, World, happens, HasMerged, AllMerged}

-- these files have made the collections, and then the rest holds
abbrev FilesMerged : List Taken → (old now : Maps) → (rest : Type 0) → Type 0
FilesMerged [] old now rest = rest
FilesMerged (t ∷ ts) old now rest = IsMerged t.file old now × FilesMerged ts old now rest

-- for each step, the files that it takes
abbrev pub TakenMerged : List WorldStep → World → Type 0
TakenMerged [] w = Unit {0}
TakenMerged (s ∷ steps) w =
    FilesMerged (drop (length w.taken) (happens s w).taken) w.server.maps (happens s w).server.maps (TakenMerged steps (happens s w))

rest_merged : (ts : List Taken) (old now : Maps) (rest : Type 0) → FilesMerged ts old now rest → rest
rest_merged [] old now rest m = m
rest_merged (t ∷ ts) old now rest m = rest_merged ts old now rest m.1

first_merged : (s : WorldStep) (w : World) (rest : Type 0) →
    FilesMerged (drop (length w.taken) (happens s w).taken) w.server.maps (happens s w).server.maps rest → HasMerged s w
first_merged s w rest m t is =
    let new = ap (drop (length w.taken)) is ∙ drop-append_seam w.taken (t ∷ []) in
    (subst (λ (ts : List Taken). FilesMerged ts w.server.maps (happens s w).server.maps rest) new m).0

pub merged-by : (steps : List WorldStep) (w : World) → TakenMerged steps w → AllMerged steps w
merged-by [] w m = tt
merged-by (s ∷ steps) w m =
    let taken = drop (length w.taken) (happens s w).taken in
    let rest = TakenMerged steps (happens s w) in
    (first_merged s w rest m, merged-by steps (happens s w) (rest_merged taken w.server.maps (happens s w).server.maps rest m))
