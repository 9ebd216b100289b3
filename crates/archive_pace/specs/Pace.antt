-- When the last block of a file may be taken. Times are in microseconds.
use Rattle.std.specs.Prelude.{ℕ, ◌+◌, ◌-◌, ◌*◌, ◌^◌, ◌==◌, nat_lt, nat_le, min, max, Bool, List, [], ◌∷◌, ◌++◌, length, if◌then◌else◌, Option, None, Some}
use Rattle.std.specs.List.{find, remove}
use Rattle.archive_pace.specs.declared.keep.Keep.{Keep}
use Rattle.archive_pace.specs.declared.limits.TheConstants.{HOSTS, PAUSE, PRESENT}

pub record Pacing : Type 0 where
  -- the last keep of all
  pub last : Keep
  -- the last keep of each host, the oldest first
  pub keeps : List Keep
  -- the host that was heard last, and when
  pub heard : ℕ
  pub heard_at : ℕ
  -- when another host was heard last
  pub other_at : ℕ

abbrev pub zero_keep : Keep
zero_keep = record { host = 0; ended = 0; took = 0 }

abbrev pub new_pace : Pacing
new_pace = record { last = zero_keep; keeps = []; heard = 0; heard_at = 0; other_at = 0 }

-- ---- who is there

abbrev pub heard_by : (host now : ℕ) → Pacing → Pacing
heard_by host now p =
    if host == p.heard then record p { heard_at = now } else record p { heard = host; heard_at = now; other_at = p.heard_at }

-- when a host other than this was heard last
abbrev pub other_heard : (host : ℕ) → Pacing → ℕ
other_heard host p = if host == p.heard then p.other_at else p.heard_at

-- ---- the pauses

-- when the pause after a keep has passed
abbrev pub rest_after : (times : ℕ) → Keep → ℕ
rest_after times k = min (k.ended + min (min (k.took * times) (2 ^ 64 - 1)) PAUSE) (2 ^ 64 - 1)

abbrev pub rest_of : (times : ℕ) → Option Keep → ℕ
rest_of times None = 0
rest_of times (Some k) = rest_after times k

-- the last keep of a host
abbrev pub keep_of : (host : ℕ) → List Keep → Option Keep
keep_of host keeps = find (λ k. k.host == host) keeps

-- From when on a last block of a host may be taken: after as much time as the last keep took, and for its host four times as
-- much; or once no other host was heard for a while, but not before the last keep ended.
abbrev pub moment : (host : ℕ) → Pacing → ℕ
moment host p =
    max (min (max (rest_after 1 p.last) (rest_of 4 (keep_of host p.keeps))) (min (other_heard host p + PRESENT) (2 ^ 64 - 1))) p.last.ended

abbrev pub allows_at : (host now : ℕ) → Pacing → Bool
allows_at host now p = nat_le (moment host p) now

-- ---- turns

abbrev pub ended_of : Option Keep → ℕ
ended_of None = 0
ended_of (Some k) = k.ended

-- when the last keep of a host ended
abbrev pub last_of : (host : ℕ) → Pacing → ℕ
last_of host p = ended_of (keep_of host p.keeps)

-- ---- what is noted

abbrev pub without : (host : ℕ) → List Keep → List Keep
without host [] = []
without host (k ∷ keeps) = if k.host == host then keeps else k ∷ without host keeps

-- room for one more: the oldest is forgotten
abbrev pub with_room : List Keep → List Keep
with_room keeps = if nat_lt (length keeps) HOSTS then keeps else remove keeps 0

abbrev pub noted : Keep → Pacing → Pacing
noted k p = record p { last = k; keeps = with_room (without k.host p.keeps) ++ k ∷ [] }
