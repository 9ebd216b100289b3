-- How the best solutions of two files, mine and theirs, compare at one level.
use Rattle.std.specs.Prelude.{ℕ, ◌-◌, ◌==◌, not, Bool, true, false, ◌||◌, List, [], ◌∷◌, Option, None, Some, if◌then◌else◌}
use Rattle.std.specs.declared.cmp.Ordering.{Ordering}
use Rattle.std.specs.declared.cmp.Ordering.TheVariants as order
use Rattle.std.specs.Ordering.{is_eq}
use Rattle.tws_file.specs.declared.key.Key.{Key}
use Rattle.tws_best.specs.Rank.{rank_of, rank_cmp, ticks_of}
use Rattle.tws_best.specs.Best.{KeyedBody, key_cmp}
use Rattle.tws_compare.specs.declared.standing.Standing.{Standing}
use Rattle.tws_compare.specs.declared.standing.Standing.TheVariants.{OnlyMine, OnlyTheirs, MineBetter, TheirsBetter, Equal}

-- two bodies, by how their ranks compare, and by their ticks
abbrev pub standing_by : Ordering → (mine theirs : ℕ) → Standing
standing_by order.Less mine theirs = MineBetter (theirs - mine)
standing_by order.Equal mine theirs = Equal
standing_by order.Greater mine theirs = TheirsBetter (mine - theirs)

-- the bodies that the two have, if any
abbrev pub standing_of : (mine theirs : Option (List ℕ)) → Standing
standing_of (Some mine) (Some theirs) = standing_by (rank_cmp (rank_of mine) (rank_of theirs)) (ticks_of mine) (ticks_of theirs)
standing_of (Some mine) None = OnlyMine
standing_of None (Some theirs) = OnlyTheirs
standing_of None None = Equal

-- the body at a key
abbrev pub body_at : List KeyedBody → Key → Option (List ℕ)
body_at [] key = None
body_at (e ∷ es) key = if is_eq (key_cmp e.key key) then Some e.body else body_at es key

-- the best solutions of two files, in the order of their keys
pub record TwoSides : Type 0 where
  pub mine : List KeyedBody
  pub theirs : List KeyedBody

-- at one level
abbrev pub standing_at : TwoSides → Key → Standing
standing_at sides key = standing_of (body_at sides.mine key) (body_at sides.theirs key)

-- ---- which of them

abbrev pub is_only_mine : Standing → Bool
is_only_mine OnlyMine = true
is_only_mine standing = false

abbrev pub is_only_theirs : Standing → Bool
is_only_theirs OnlyTheirs = true
is_only_theirs standing = false

abbrev pub is_mine_better : Standing → Bool
is_mine_better (MineBetter ticks) = true
is_mine_better standing = false

-- mine has fewer ticks
abbrev pub is_mine_faster : Standing → Bool
is_mine_faster (MineBetter ticks) = not (ticks == 0)
is_mine_faster standing = false

-- theirs has fewer ticks
abbrev pub is_theirs_faster : Standing → Bool
is_theirs_faster (TheirsBetter ticks) = not (ticks == 0)
is_theirs_faster standing = false

-- both have the same ticks, and the rest of the rank decides which is kept
abbrev pub is_tie : Standing → Bool
is_tie (MineBetter ticks) = ticks == 0
is_tie (TheirsBetter ticks) = ticks == 0
is_tie standing = false

abbrev pub is_equal : Standing → Bool
is_equal Equal = true
is_equal standing = false

-- I have a solution, and they have none that is as good
abbrev pub is_improvement : Standing → Bool
is_improvement standing = is_only_mine standing || is_mine_better standing
