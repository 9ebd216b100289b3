-- How good a solution is, which the body of its record determines.
use Rattle.std.specs.Prelude.{◌≡◌, ℕ, List, length, drop}
use Rattle.std.specs.declared.cmp.Ordering.{Ordering}
use Rattle.std.specs.declared.cmp.Ordering.TheVariants.{Less}
use Rattle.std.specs.Ordering.{nat_cmp, on, then_cmp}
use Rattle.std.specs.Cmp.Lexicographic.{slice_cmp}
use Rattle.byteorder.specs.Endian.{little_number}

pub record Ranking : Type 0 where
  -- the time that the solution takes
  pub ticks : ℕ
  -- the length of the body
  pub size : ℕ
  pub bytes : List ℕ

-- the time comes after number, password, flags, start and seed
abbrev pub ticks_of : List ℕ → ℕ
ticks_of body = little_number 4 (drop 12 body)

abbrev pub rank_of : List ℕ → Ranking
rank_of body = record { ticks = ticks_of body; size = length body; bytes = body }

-- fewer ticks, then the shorter body, then the lexicographically smaller bytes
abbrev pub rank_cmp : Ranking → Ranking → Ordering
rank_cmp = then_cmp (on (λ r. r.ticks) nat_cmp) (then_cmp (on (λ r. r.size) nat_cmp) (on (λ r. r.bytes) (slice_cmp nat_cmp)))

-- the first is the better one
abbrev pub IsBelow : Ranking → Ranking → Type 0
IsBelow q r = rank_cmp q r ≡ Less
