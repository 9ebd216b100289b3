-- Definitions for the private steps of a merge. Callers need none of them.
use Rattle.std.specs.Prelude.{◌≡◌, ◌≢◌, ◌⊎◌, ℕ, List, [], ◌∷◌, ◌++◌, Contains, Option, None, Some, IsSome}
use Rattle.std.specs.Map.{lookup, remove_entry}
use Rattle.std.specs.BTreeMap.{is_at, insert_entry}
use Rattle.tws_file.specs.declared.key.Key.{Key}
use Rattle.tws_best.specs.Rank.{rank_of, IsBelow}
use Rattle.tws_best.specs.Best.{KeyedBody, IsBestOf, AreCollected, key_cmp}
use Rattle.tws_best.specs.Bodies.{BodyPair, keyed_bodies}

-- a member of the set has the entry's key and is no worse
pub record IsHeld (IsMember : KeyedBody → Type 0) (f : KeyedBody) : Type 0 where
  pub holder : KeyedBody
  pub member : IsMember holder
  pub same : holder.key ≡ f.key
  pub no_worse : IsBelow (rank_of f.body) (rank_of holder.body) → ⊥

-- better than the best so far at its key
abbrev pub IsBetter : List KeyedBody → KeyedBody → Type 0
IsBetter old f = (e : KeyedBody) → Contains old e → e.key ≡ f.key → IsBelow (rank_of f.body) (rank_of e.body)

-- ---- one solution

-- the best so far at its key is no worse, and nothing changes
pub record Stays (x : KeyedBody) (old new : List BodyPair) (was is : ℕ) : Type 0 where
  pub held : IsHeld (Contains (keyed_bodies old)) x
  pub same : new ≡ old
  pub count : is ≡ was

-- it is better than the best so far at its key, and replaces it
pub record Enters (x : KeyedBody) (old new : List BodyPair) (is : ℕ) : Type 0 where
  pub better : IsBetter (keyed_bodies old) x
  pub inserted : new ≡ insert_entry key_cmp old x.key x.body
  pub some : is ≡ 0 → ⊥

abbrev pub Takes : KeyedBody → (old new : List BodyPair) → (was is : ℕ) → Type 0
Takes x old new was is = Stays x old new was is ⊎ Enters x old new is

-- ---- changes that can be undone

-- the pairs after restoring what a key had
abbrev pub back_to : Key → Option (List ℕ) → List BodyPair → List BodyPair
back_to key None now = remove_entry (is_at (key_cmp key)) now
back_to key (Some body) now = insert_entry key_cmp now key body

-- restoring it does not make anything grow
abbrev pub CanGoBack : Key → Option (List ℕ) → List BodyPair → Type 0
CanGoBack key None now = Unit {0}
CanGoBack key (Some body) now = IsSome (lookup (is_at (key_cmp key)) now)

-- undone one by one, the last one first, the changes lead back to the first pairs
abbrev pub Undoes : List BodyPair → List (Key × Option (List ℕ)) → List BodyPair → Type 0
Undoes first [] now = now ≡ first
Undoes first (d ∷ ds) now = (mid : List BodyPair) × Undoes mid ds now × CanGoBack d.0 d.1 mid × (back_to d.0 d.1 mid ≡ first)

-- ---- merging in parts

-- what holds after each solution: the bodies are the best so far, and nothing was noted or something changed
pub record IsTaken (first : List BodyPair) (solved : List KeyedBody) (now : List BodyPair) (count : ℕ) : Type 0 where
  pub best : IsBestOf (Contains (keyed_bodies first ++ solved)) (keyed_bodies now)
  pub changed : (count ≡ 0) ⊎ (keyed_bodies now ≢ keyed_bodies first)

-- the first pairs, to which the changes lead back
abbrev pub undone : List (Key × Option (List ℕ)) → List BodyPair → List BodyPair
undone [] now = now
undone (d ∷ ds) now = back_to d.0 d.1 (undone ds now)

-- The changes since the first pairs: what they had and some solutions were merged, and can be undone.
pub record LeadsBack (first : List BodyPair) (changes : List (Key × Option (List ℕ))) (now : List BodyPair) : Type 0 where
  pub collected : AreCollected (keyed_bodies first)
  pub undo : Undoes first changes now
  pub solved : List KeyedBody
  pub best : IsBestOf (Contains (keyed_bodies first ++ solved)) (keyed_bodies now)
  pub changed : (changes ≡ []) ⊎ (keyed_bodies now ≢ keyed_bodies first)
