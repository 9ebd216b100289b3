-- A keeper with a limit: what it is, and what it makes of a collection whose text is longer.
use Rattle.std.specs.Prelude.{◌≡◌, ℕ, ◌+◌, ◌-◌, ◌^◌, min, List, [], ◌∷◌, ◌++◌, Option, None, Some, false}
use Rattle.tws_file.specs.declared.«ruleset».Ruleset.{Ruleset}
use Rattle.archive_table.specs.Keeper.{Keeping, keeping, last_kept}

pub record LimitedKeeper (K : Type 0) : Type 0 where
  -- the keeper below
  pub keeper : K
  -- the most bytes that a text may have
  pub limit : ℕ
  -- how many collections were refused for their length, saturating
  pub refused : ℕ
  -- what was given to the keeper below, before and since, and what was refused, in order
  pub entries : List Keeping

-- the log of a keeper with these entries, if the keeper below has a log
abbrev pub own_calls : (below : Option (List Keeping)) → (entries : List Keeping) → Option (List Keeping)
own_calls None entries = None
own_calls (Some below) entries = Some entries

-- a sum that saturates at the greatest u64
abbrev pub saturating_sum : ℕ → ℕ → ℕ
saturating_sum a b = min (a + b) (2 ^ 64 - 1)

-- the keeper once it has refused this text: the one below is as it was
abbrev pub refusing : {K : Type 0} → LimitedKeeper K → Ruleset → List ℕ → LimitedKeeper K
refusing l rules text = record {
  keeper = l.keeper;
  limit = l.limit;
  refused = saturating_sum l.refused 1;
  entries = l.entries ++ keeping rules text false ∷ [];
}

-- what can be loaded by the log below is what the entries kept last
abbrev pub LoadsSame : (entries : List Keeping) → (below : Option (List Keeping)) → Type 0
LoadsSame entries None = Unit {0}
LoadsSame entries (Some below) = (rules : Ruleset) → last_kept rules entries ≡ last_kept rules below
