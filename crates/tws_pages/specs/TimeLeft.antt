-- The time that a solution leaves, as Tile World lists it: whole seconds, less a fraction.
use Rattle.std.specs.Prelude.{ℕ, ◌-◌, ◌*◌, ◌/◌, ◌%◌, ◌==◌, nat_lt, List, ◌++◌, codes, decimal, if◌then◌else◌}
use Rattle.tws_file.specs.declared.«ruleset».Ruleset.{Ruleset}
use Rattle.tws_file.specs.declared.«ruleset».Ruleset.TheVariants.{Lynx, Ms}
use Rattle.tws_pages.specs.declared.time_left.TheConstants.{NO_LIMIT}

-- in seconds; 0 says that the level has none
abbrev pub limit_shown : ℕ → ℕ
limit_shown limit = if limit == 0 then NO_LIMIT else limit

-- the limit less the whole seconds used, below zero only for a made-up time
abbrev pub whole_left : (limit used : ℕ) → List ℕ
whole_left limit used = if nat_lt limit used then codes "-" ++ decimal (used - limit) else decimal (limit - used)

-- what was used beyond whole seconds, of 20 ticks each: in hundredths under Lynx, in whole tenths under MS
abbrev pub time_left : Ruleset → (limit ticks : ℕ) → List ℕ
time_left Lynx limit ticks = whole_left (limit_shown limit) (ticks / 20) ++ codes " - ." ++ decimal (ticks % 20 / 2) ++ decimal (ticks % 2 * 5)
time_left Ms limit ticks = whole_left (limit_shown limit) (ticks / 20) ++ codes " - ." ++ decimal (ticks % 20 / 2)
