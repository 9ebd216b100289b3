-- The solutions that stop Tile World, and a keeper that takes no more of them than there were.
use Rattle.std.specs.Prelude.{◌==◌, ◌||◌, ℕ, Bool, true, false, nat_lt, List, [], ◌∷◌, ◌++◌, length, count_by, Option, None, Some}
use Rattle.std.specs.Prelude.{◌≡◌}
use Rattle.tws_file.specs.declared.«ruleset».Ruleset.{Ruleset}
use Rattle.tws_file.specs.declared.«ruleset».Ruleset.TheVariants.{Lynx, Ms}
use Rattle.tws_file.specs.Text.{Record, pad, set, bare, solution, File, IsText, body_of}
use Rattle.archive_table.specs.Keeper.{Keeping, keeping}
use Rattle.archive_keepers.specs.declared.counts.Counts.{Counts}
use Rattle.archive_keepers.specs.Limited.{saturating_sum}

-- Tile World reads a file up to a solution whose body has exactly 16 bytes, and so no moves: it never writes one. A record of
-- level 0 whose password begins with a zero byte is the name of a level set to it, and unless that is the player's, it ignores
-- the whole file; nor does a record of level 0 belong to any level.
abbrev pub stops_tile_world : Record → Bool
stops_tile_world pad = false
stops_tile_world (set rest) = false
stops_tile_world (bare key) = false
stops_tile_world (solution s) = (length (body_of (solution s)) == 16) || (s.key.number == 0)

-- how many records of a file do so
abbrev pub stopping : File → ℕ
stopping file = count_by stops_tile_world file.records

-- how many of them there are of this ruleset
abbrev pub counted : Ruleset → Counts → ℕ
counted Lynx counts = counts.lynx
counted Ms counts = counts.ms

abbrev pub with_count : Ruleset → ℕ → Counts → Counts
with_count Lynx count counts = record { lynx = count; ms = counts.ms }
with_count Ms count counts = record { lynx = counts.lynx; ms = count }

abbrev pub no_counts : Counts
no_counts = record { lynx = 0; ms = 0 }

pub record ReadableKeeper (K : Type 0) : Type 0 where
  -- the keeper below
  pub keeper : K
  -- whether any solution is taken
  pub any : Bool
  -- how many solutions stop Tile World in the collections that were last kept or loaded
  pub counts : Counts
  -- how many collections were refused for their solutions, saturating
  pub refused : ℕ
  -- what was given to the keeper below, before and since, and what was refused, in order
  pub entries : List Keeping

-- whether a collection with so many is refused after one with `last`
abbrev pub is_refused : (any : Bool) → (last count : ℕ) → Bool
is_refused true last count = false
is_refused false last count = nat_lt last count

-- the same of a file's collection
abbrev pub refuses : {K : Type 0} → ReadableKeeper K → Ruleset → File → Bool
refuses r rules file = is_refused r.any (counted rules r.counts) (stopping file)

-- the keeper once it has refused this text: the one below is as it was
abbrev pub refusing_text : {K : Type 0} → ReadableKeeper K → Ruleset → List ℕ → ReadableKeeper K
refusing_text r rules text = record {
  keeper = r.keeper;
  any = r.any;
  counts = r.counts;
  refused = saturating_sum r.refused 1;
  entries = r.entries ++ keeping rules text false ∷ [];
}

-- so many records of what was loaded stop Tile World, if it is a file's text
abbrev pub IsCountOf : Option (List ℕ) → ℕ → Type 0
IsCountOf None count = count ≡ 0
IsCountOf (Some text) count = (file : File) → IsText text file → count ≡ stopping file
