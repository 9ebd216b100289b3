-- A sync that can happen: what is better of one archive's collection is put at another one, that has nothing.
use Rattle.std.specs.Prelude.{◌≡◌, ℕ, List, [], ◌∷◌, ◌++◌, map, Some, None}
use Rattle.tws_file.specs.declared.«ruleset».Ruleset.TheVariants.{Lynx}
use Rattle.tws_best.specs.Best.{collection_text}
use Rattle.archive_table.specs.Table.{all, empty_maps}
use Rattle.archive_client.specs.Client.{put, get}
use Rattle.archive_sync.specs.News.{Told, IsTold}
use Rattle.archive_model.specs.World.{World, WorldStep, begin, deliver, start, HasMerged}
use Rattle.archive_theorem.specs.Samples.{sample_file, sample_client, sample_maps, plain_steps, restart_between}
use Rattle.archive_mirrors.specs.Archives.{Event}
use Rattle.mirror_worlds.specs.Worlds.{Fetched, JointStep, plain, after_step, TakesText, Matches}
use Rattle.mirror_worlds.specs.Syncs.{HasBoth}

-- steps of several archives, one after another
abbrev pub joint_run : List JointStep → (ℕ → World) → ℕ → World
joint_run [] ws = ws
joint_run (s ∷ steps) ws = joint_run steps (after_step s ws)

-- these steps of one archive
abbrev pub steps_at : ℕ → List WorldStep → List JointStep
steps_at archive steps = map (λ (s : WorldStep). record { archive = archive; step = s; kind = plain }) steps

-- a get of the empty collection, and then a put of a file up to its block
abbrev pub empty_then_put : List WorldStep
empty_then_put =
    plain_steps
    (begin (sample_client 1) (get Lynx) ∷ deliver 0 4000 ∷ deliver 1 0 ∷ begin (sample_client 2) (put (sample_file 100)) ∷ deliver 3 4001 ∷ deliver 4 0
    ∷ [])

-- At the first archive a file is taken, and fetched after a restart. The second one has nothing when the put of that file
-- begins there.
abbrev pub before_put : ℕ → World
before_put = joint_run (steps_at 1 restart_between ++ steps_at 2 empty_then_put) (λ archive. start)

-- which is then taken
abbrev pub taking : WorldStep
taking = record { event = deliver 5 0; grant = all; maps = sample_maps 100 }

abbrev pub theirs : Fetched
theirs = record { archive = 1; got = record { client = sample_client 2; file = sample_file 100 } }

abbrev pub mine : Fetched
mine = record { archive = 2; got = record { client = sample_client 1; file = collection_text empty_maps.lynx } }

-- All of it is better, and nothing of the other collection is: so the premises of the law are met, and a step takes the part.
pub record SyncCanHappen : Type 0 where
  pub events : List Event
  pub matches : Matches before_put events
  pub both : HasBoth before_put 2 theirs mine (sample_file 100) (collection_text empty_maps.lynx)
  pub told : Told
  pub is_told : IsTold (sample_file 100) (collection_text empty_maps.lynx) told
  pub forth : told.forth ≡ Some (sample_file 100)
  pub back : told.back ≡ None
  pub merged : HasMerged taking (before_put 2)
  pub takes : TakesText taking (before_put 2) (sample_file 100)
